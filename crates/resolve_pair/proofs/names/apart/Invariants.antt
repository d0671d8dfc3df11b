use Rattle.std.proofs.Common.{◌≡◌, true}
use Rattle.base_lists.specs.Lists.{all_below}
use Rattle.resolve_pair.specs.Alone.{none_at}
use Rattle.resolve_pair.proofs.names.apart.Given as goal

abbrev pub invariant-loop-i : goal.invariant-loop-i
invariant-loop-i l = all_below l.i (none_at l.ring l.r.name_at l.r.name_len l.lamp l.l.name_at l.l.name_len l.n) ≡ true

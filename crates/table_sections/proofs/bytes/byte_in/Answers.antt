use mathlib.Core.Path.{◌≡◌}
use mathlib.Core.Bool.{true, false}
use Rattle.std.proofs.Common.{rules}
use Rattle.base_lists.specs.Numbers.{within}
use Rattle.base_numbers.specs.Refusals.{refusal_number}
use Rattle.table_sections.proofs.Readings.{byte-outside, byte-inside, byte-none}
use Rattle.table_sections.proofs.bytes.byte_in.Goals as goal

pub returns-then-contains : goal.returns-then-contains
returns-then-contains c = let w : within c.args.lo c.args.hi c.from-b.result ≡ true = search rules in
    byte-inside _ _ _ _ _ c.if-at-t.true c.from-b.ensures w

pub returns-then-at-t : goal.returns-then-at-t
unfolding refusal_number
returns-then-at-t c = let w : within c.args.lo c.args.hi c.from-b.result ≡ false = search rules in
    byte-outside _ _ _ _ _ c.if-at-t.true c.from-b.ensures w

pub returns : goal.returns
unfolding refusal_number
returns c = byte-none _ _ _ _ c.if-at-t.false

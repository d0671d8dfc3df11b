use Rattle.std.proofs.Common.{◌≡◌, ◌-◌, ◌∙◌, take, length, arith}
use lib.Seq.{take_all}
use Rattle.base_numbers.specs.Numbers.{most_signals}
use Rattle.table_kept.specs.Held.{nodes_in}
use Rattle.table_kept.proofs.WayLaws.{nodes-length, front-is}
use Rattle.table_kept.proofs.passed.Way.front.Goals as goal

pub returns : goal.returns
returns c = let w = c.args.self in
    let e : take (length w.nodes - (most_signals - w.len)) (nodes_in w) ≡ nodes_in w =
    take_all (length w.nodes - (most_signals - w.len)) (nodes_in w) (omega (arith, nodes-length w, w.few, w.wide)) in
    front-is w (c.copy_from_slice.ensures.after ∙ e)

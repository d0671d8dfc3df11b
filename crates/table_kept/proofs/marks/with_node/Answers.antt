use Rattle.std.proofs.Common.{ap, sym, ◌∙◌}
use Rattle.base_numbers.specs.Numbers.{most_signals}
use Rattle.base_lists.proofs.Numbers.{min-le}
use Rattle.node_step.specs.Step.{found_at, find_row}
use Rattle.table_kept.proofs.MarkLaws.{key-is}
use Rattle.table_kept.proofs.marks.with_node.Goals as goal

pub returns : goal.returns
returns c = let d = c.args.d.now in
    c.find_signal.ensures
    ∙ ap (λ n. found_at (find_row d.rows c.with_place.result 0 n)) (sym (min-le d.signals most_signals c.requires))
    ∙ ap found_at (key-is d.rows d.signals c.args.s c.args.c c.args.node c.row_at-row.ensures c.with_place.ensures)

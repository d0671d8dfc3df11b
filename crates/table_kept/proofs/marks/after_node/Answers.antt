use Rattle.std.proofs.Common.{ap, ◌∙◌}
use Rattle.std.specs.Option.{unwrap_or}
use Rattle.table_kept.proofs.MarkLaws.{test_of, after-not, after-found}
use Rattle.table_kept.proofs.marks.after_node.Goals as goal

pub returns-then-not-extends_of : goal.returns-then-not-extends_of
returns-then-not-extends_of c = let d = c.args.d.now in
    after-not d.rows d.parent d.signals c.args.s c.args.c c.args.node
    (test_of d.rows d.parent d.signals c.args.s c.args.c c.args.node c.row_at.ensures c.place_in-q.ensures c.extends_of.ensures) c.if-not-extends_of.true

pub returns : goal.returns
returns c = let d = c.args.d.now in
    c.unwrap_or.ensures ∙ ap (λ r. unwrap_or r c.args.s) c.with_node.ensures
    ∙ after-found d.rows d.parent d.signals c.args.s c.args.c c.args.node
    (test_of d.rows d.parent d.signals c.args.s c.args.c c.args.node c.row_at.ensures c.place_in-q.ensures c.extends_of.ensures) c.if-not-extends_of.false

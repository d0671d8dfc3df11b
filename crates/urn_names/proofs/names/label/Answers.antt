use mathlib.Core.Path.{◌∙◌}
use borrow.Author.Tests.{ne_eqb}
use Rattle.urn_names.proofs.Runs.{all-label, part-label}
use Rattle.urn_names.proofs.names.label.Goals as goal

pub returns-then-k-s : goal.returns-then-k-s
returns-then-k-s g c =
    let b = g.B.LabelByte in all-label b.stands b.no_at c.args.s.now c.run-k.result c.run-k.ensures c.if-k-s.true c.label_shape.ensures

pub returns-else-k-s : goal.returns-else-k-s
returns-else-k-s g c =
    let b = g.B.LabelByte in
    ne_eqb _ _ c.if-k-s.false ∙ part-label b.stands b.no_at c.args.s.now c.run-k.result c.run-k.ensures c.if-k-s.false

use native.Mathlib.Omega.{arith}
use mathlib.Core.Path.{sym, ◌∙◌}
use borrow.Author.Tests.{eqb-true}
use Rattle.urn_names.proofs.Runs.{run_fits, name-run, name-other, name-second, name-first}
use Rattle.urn_names.proofs.names.name.Goals as goal
use Rattle.urn_names.proofs.names.name.Goals.{then-s-k-eq64, else-s-k-eq64}

pub returns-then-k-s : goal.returns-then-k-s
returns-then-k-s g c =
    let b = g.B.LabelByte in name-run b.stands b.no_at c.args.s.now c.run-k.result c.run-k.ensures c.if-k-s.true c.label_shape.ensures

pub bounds-s-k : goal.bounds-s-k
bounds-s-k g c = let b = g.B.LabelByte in omega (arith, run_fits b.stands b.no_at c.args.s.now c.run-k.result c.run-k.ensures, c.if-k-s.false)

pub returns-then-label_shape : goal.returns-then-label_shape
returns-then-label_shape g c =
    let b = g.B.LabelByte in
    elim c.if-s-k-eq64.branch [
      | then-s-k-eq64 w ↦ name-second b.stands b.no_at c.args.s.now c.run-k.result c.run-k.ensures c.if-k-s.false w.if-s-k-eq64.true
          w.label_shape-then-s-k-eq64.ensures (sym w.value-is ∙ c.if-label_shape.true) c.label.ensures
      | else-s-k-eq64 w ↦ absurd (w.if-s-k-eq64.false (eqb-true _ _ (sym w.value-is ∙ c.if-label_shape.true)))
    ]

pub returns-else-label_shape : goal.returns-else-label_shape
returns-else-label_shape g c =
    let b = g.B.LabelByte in
    c.if-label_shape.false ∙ elim c.if-s-k-eq64.branch [
      | then-s-k-eq64 w ↦ name-first b.stands b.no_at c.args.s.now c.run-k.result c.run-k.ensures c.if-k-s.false w.if-s-k-eq64.true
          w.label_shape-then-s-k-eq64.ensures (sym w.value-is ∙ c.if-label_shape.false)
      | else-s-k-eq64 w ↦ name-other b.stands b.no_at c.args.s.now c.run-k.result c.run-k.ensures c.if-k-s.false w.if-s-k-eq64.false
    ]

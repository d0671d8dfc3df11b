use native.Mathlib.Omega.{arith}
use mathlib.Core.Path.{sym, ◌∙◌}
use lib.Seq.{length-take-le}
use Rattle.base_lists.proofs.Cuts.{up_to-le}
use Rattle.urn_names.specs.Labels.{name_by}
use Rattle.urn_names.proofs.Runs.{run_fits, run-named, run-unnamed, front-named, front-unnamed}
use Rattle.urn_names.proofs.names.name_end.Goals as goal
use Rattle.urn_names.proofs.names.name_end.Goals.{then-name, else-name, else-k-s-via-then-k-s+else-s-k-ne58, else-k-s-via-else-k-s}

pub slice_bounds-name-end : goal.slice_bounds-name-end
slice_bounds-name-end g c = sym (length-take-le c.find-e.result c.args.s.now (omega (arith, c.find-e.ensures, up_to-le 58 c.args.s.now)))

pub returns-then-s-k-ne58 : goal.returns-then-s-k-ne58
returns-then-s-k-ne58 g c =
    let ok = name_by g.B.LabelByte.stands in
    elim c.if-name.branch [
      | then-name w ↦ w.result-is ∙ front-named ok c.args.s.now c.find-e.result c.find-e.ensures c.name.ensures w.if-name.true
      | else-name w ↦ w.result-is ∙ front-unnamed ok c.args.s.now c.find-e.result c.find-e.ensures c.name.ensures w.if-name.false
    ]

pub label_shape-requires : goal.label_shape-requires
label_shape-requires g c = let b = g.B.LabelByte in omega (arith, run_fits b.stands b.no_at c.args.s.now c.run-k.result c.run-k.ensures)

pub returns-then-label_shape : goal.returns-then-label_shape
returns-then-label_shape g c =
    let b = g.B.LabelByte in
    run-named b.stands b.no_at c.args.s.now c.run-k.result c.run-k.ensures b.no_colon
    (λ h. elim c.else-k-s.branch [ else-k-s-via-then-k-s+else-s-k-ne58 w ↦ w.if-s-k-ne58.false | else-k-s-via-else-k-s w ↦ absurd (omega (arith, h, w.if-k-s.false)) ])
    c.label_shape.ensures c.if-label_shape.true

pub returns-else-label_shape : goal.returns-else-label_shape
returns-else-label_shape g c =
    let b = g.B.LabelByte in
    run-unnamed b.stands b.no_at c.args.s.now c.run-k.result c.run-k.ensures b.no_colon
    (λ h. elim c.else-k-s.branch [ else-k-s-via-then-k-s+else-s-k-ne58 w ↦ w.if-s-k-ne58.false | else-k-s-via-else-k-s w ↦ absurd (omega (arith, h, w.if-k-s.false)) ])
    c.label_shape.ensures c.if-label_shape.false

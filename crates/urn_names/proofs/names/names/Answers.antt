use native.Mathlib.Omega.{arith}
use mathlib.Core.Path.{sym, ◌∙◌}
use Rattle.urn_names.specs.Labels.{name_by}
use Rattle.urn_names.proofs.Turns.{count-start, count-bad, count-last, count-inside, count-shorter, count-turn}
use Rattle.urn_names.proofs.names.names.Goals as goal

pub loop-k-init : goal.loop-k-init
loop-k-init g c = (omega arith, count-start (name_by g.B.LabelByte.stands) c.args.s.now)

pub returns-in_err-k : goal.returns-in_err-k
returns-in_err-k g c =
    let l = c.loop-k in
    c.from_residual.ensures ∙ count-bad (name_by g.B.LabelByte.stands) l.count l.rest.now (sym c.name_end.ensures ∙ c.in_err-k.was) ∙ sym l.invariant.1

pub returns-then-k-rest : goal.returns-then-k-rest
returns-then-k-rest g c =
    let l = c.loop-k in
    count-last (name_by g.B.LabelByte.stands) l.count c.in_ok-k.k l.rest.now (sym c.name_end.ensures ∙ c.in_ok-k.was) c.if-k-rest.true ∙ sym l.invariant.1

pub overflow_add-rest : goal.overflow_add-rest
overflow_add-rest g c =
    let l = c.loop-k in
    omega (arith, count-inside (name_by g.B.LabelByte.stands) l.count c.in_ok-k.k l.rest.now (sym c.name_end.ensures ∙ c.in_ok-k.was) c.if-k-rest.false)

pub slice_bounds-rest-count : goal.slice_bounds-rest-count
slice_bounds-rest-count g c =
    let l = c.loop-k in
    count-inside (name_by g.B.LabelByte.stands) l.count c.in_ok-k.k l.rest.now (sym c.name_end.ensures ∙ c.in_ok-k.was) c.if-k-rest.false

pub loop-k-smaller : goal.loop-k-smaller
loop-k-smaller g c =
    let l = c.loop-k in
    count-shorter (name_by g.B.LabelByte.stands) l.count c.in_ok-k.k l.rest.now (sym c.name_end.ensures ∙ c.in_ok-k.was) c.if-k-rest.false

pub loop-k-preserved : goal.loop-k-preserved
loop-k-preserved g c =
    let l = c.loop-k in
    count-turn (name_by g.B.LabelByte.stands) l.count c.in_ok-k.k l.rest.now (sym c.name_end.ensures ∙ c.in_ok-k.was) c.if-k-rest.false c.args.s.now
    l.invariant.0 l.invariant.1

pub slice_bounds-rest-start : goal.slice_bounds-rest-start
slice_bounds-rest-start g c =
    let l = c.loop-k in
    let h = count-inside (name_by g.B.LabelByte.stands) l.count c.in_ok-k.k l.rest.now (sym c.name_end.ensures ∙ c.in_ok-k.was) c.if-k-rest.false in
    omega arith

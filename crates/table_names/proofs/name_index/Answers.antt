use native.Mathlib.Omega.{arith}
use mathlib.Core.Path.{ap, ◌∙◌}
use Rattle.base_lists.proofs.Tabulated.{index-start, index-hit, index-next, index-none}
use Rattle.theory_resolution.specs.Names.{same_name}
use Rattle.table_names.proofs.name_index.Goals as goal

pub loop-i-init : goal.loop-i-init
loop-i-init c = index-start same_name c.args.s.now _

pub returns-then-same : goal.returns-then-same
returns-then-same c = (
  index-hit same_name c.args.s.now _ _ _ c.loop-i.invariant c.loop-i-test.true
      (c.same.ensures ∙ ap (same_name c.args.s.now) c.text_at.ensures.result_value) c.if-same.true,
  omega arith,
)

pub loop-i-preserved : goal.loop-i-preserved
loop-i-preserved c = index-next same_name c.args.s.now _ _ c.args.n c.loop-i.invariant
    (c.same.ensures ∙ ap (same_name c.args.s.now) c.text_at.ensures.result_value) c.if-same.false

pub returns : goal.returns
returns c = omega (arith, index-none same_name c.args.s.now _ _ _ c.loop-i.invariant (omega arith) c.loop-i-test.false)

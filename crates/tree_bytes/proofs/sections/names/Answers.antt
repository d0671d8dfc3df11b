use native.Mathlib.Omega.{arith}
use mathlib.Core.Path.{refl, ap, ◌∙◌}
use Rattle.base_lists.specs.Cuts.{stretch}
use Rattle.base_lists.proofs.Numbers.{one_byte}
use Rattle.tree_forms.specs.Bytes.{text_bytes}
use Rattle.tree_bytes.proofs.Laying.{wrote-most, text-as, wrote-start, wrote-next, names-over, names-all}
use Rattle.node_search.proofs.TextLaws.{text_in_lem}
use Rattle.tree_bytes.proofs.sections.names.Goals as goal

pub loop-i-init : goal.loop-i-init
loop-i-init c = (
  omega (arith, wrote-most c.byte.ensures.wrote),
  refl,
  wrote-start text_bytes (stretch c.args.t.now c.args.name_at.now c.args.name_len.now) _ _,
)

pub loop-i-preserved : goal.loop-i-preserved
loop-i-preserved c = let l = c.loop-i.invariant in
    let G = text-as c.text_at.result.now c.text.ensures.wrote c.text_at.ensures.short in (
      omega (arith, l.0, wrote-most G, c.text_at.ensures.short),
      c.text.ensures.same_reference ∙ l.1,
      wrote-next text_bytes (stretch c.args.t.now c.args.name_at.now c.args.name_len.now) c.loop-i.i l.2 G
          (ap text_bytes (text_in_lem _ _ _ _ _ c.text_at.ensures.result_value (omega arith))),
    )

pub returns-after-loop-i-clause-result_after : goal.returns-after-loop-i-clause-result_after
returns-after-loop-i-clause-result_after c = names-all c.args.t.now c.args.name_at.now c.args.name_len.now c.args.n c.loop-i.i (omega arith) (one_byte c.small.ensures (omega arith))
    c.loop-i.auto.i-end c.loop-i-test.false c.byte.ensures.wrote c.loop-i.invariant.2

pub returns-else-n-le-MOST_CATEGORIES-clause-result_after : goal.returns-else-n-le-MOST_CATEGORIES-clause-result_after
returns-else-n-le-MOST_CATEGORIES-clause-result_after c = names-over _ _ _ _ _ c.if-n-le-MOST_CATEGORIES.false

use native.Mathlib.Omega.{arith}
use mathlib.Core.Path.{◌∙◌}
use lib.ListN.{length-set}
use lib.Seq.{get_or-set_other}
use Rattle.base_lists.proofs.Numbers.{one_byte}
use Rattle.base_text.proofs.Turns.{common-le}
use Rattle.node_search.proofs.MarkLaws.{shared-more}
use Rattle.node_search.proofs.TextLaws.{text_in_lem}
use Rattle.node_search.proofs.marks.share_paths.Goals as goal

pub loop-i-preserved : goal.loop-i-preserved
loop-i-preserved c = (
  length-set c.loop-i.shared c.loop-i.i c.small.result ∙ c.loop-i.invariant.0,
  shared-more c.args.t.now c.args.category.now c.args.at.now c.args.len.now c.loop-i.shared c.loop-i.i c.loop-i.invariant.1 (omega (
    arith,
    c.loop-i.invariant.0,
    c.requires.0,
  )) c.path_before-before.ensures (text_in_lem _ _ _ _ _ c.text_at-path.ensures.result_value (omega (
    arith,
    c.requires.0,
  ))) c.common_from-k.ensures (one_byte c.small.ensures (omega (
    arith,
    c.common_from-k.ensures,
    common-le c.path_before-before.result.now c.text_at-path.result.now,
    c.text_at-path.ensures.short,
  ))),
  λ k h. get_or-set_other c.loop-i.shared c.loop-i.i k c.small.result 0 (λ q. omega arith) ∙ c.loop-i.invariant.2 k (omega arith),
)

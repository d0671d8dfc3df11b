use native.Mathlib.Omega.{arith}
use mathlib.Core.Path.{refl}
use mathlib.Core.Bool.{false}
use Rattle.base_numbers.specs.Numbers.{most_nodes}
use Rattle.base_lists.proofs.Lists.{get_d-all}
use Rattle.node_search.proofs.MarkLaws.{shares-all, marks-all}
use Rattle.node_search.proofs.marks.of_nodes.Goals as goal

pub share_paths-requires : goal.share_paths-requires
share_paths-requires c = (omega (arith, c.min-n.ensures), refl, λ k. get_d-all most_nodes k 0)

pub mark_parents-requires : goal.mark_parents-requires
mark_parents-requires c = (omega (arith, c.min-n.ensures), refl, λ k h. get_d-all most_nodes k false)

pub returns : goal.returns
returns c = let n = c.min-n.ensures in (
  shares-all c.args.t.now c.args.category.now c.args.at.now c.args.len.now c.share_paths.new.shared n c.share_paths.ensures.shared_len.0 c.share_paths.ensures.shared_in
      c.share_paths.ensures.shared_len.1,
  marks-all c.args.parent.now c.mark_parents.new.inner n c.mark_parents.ensures.inner_len c.mark_parents.ensures.by_index,
)

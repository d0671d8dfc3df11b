use native.Mathlib.Omega.{arith}
use Prim.Native.Nat.{◌≤◌}
use mathlib.Core.Path.{◌∙◌}
use Rattle.std.proofs.Common.{rules}
use Rattle.node_search.proofs.TextLaws.{text_in_lem}
use Rattle.tree_to_table.proofs.Ancestry.{last_some}
use Rattle.tree_to_table.proofs.paths.last_of.Goals as goal

pub returns-then-contains-clause-result_value : goal.returns-then-contains-clause-result_value
returns-then-contains-clause-result_value c =
    let low : 1 ≤ c.args.k = search rules in
    let high : c.args.k ≤ 64 = search rules in
    text_in_lem _ _ _ _ _ c.text_at.ensures.result_value (omega arith) ∙ last_some _ _ _ _ low high

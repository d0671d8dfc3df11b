-- The numbers of a table with the tree written once.
use Prim.Native.Nat.{ℕ, ◌≤◌}
use mathlib.Core.Path.{◌≡◌, refl, ap, sym, subst}
use mathlib.Core.Logic.{inl, inr}
use mathlib.Core.Bool.{Bool, true, false, cond}
use mathlib.Core.List.{List, []}
use native.Mathlib.Omega.{arith}
use lib.ListN.{length}
use lib.Dec.{ltb}
use borrow.Author.Tests.{le-leb}
use Rattle.base_numbers.specs.Numbers.{most_nodes, most_table_bytes}
use Rattle.base_lists.proofs.Bools.{by_test}
use Rattle.theory_resolution.specs.Table.{Table}
use Rattle.theory_resolution.specs.Nodes.{nodes}
use Rattle.table_sections.specs.Stored.{Read, fault, got}
use Rattle.table_sections.proofs.FaultLaws.{fault-if, fault-some}
use Rattle.table_places.specs.Verdict.{single, zero_silent, distinct, few_nodes, verdict}
use Rattle.tree_sections.specs.Tree.{Tree, tree, tree_sections}
use Rattle.tree_forms.specs.Meaning.{table_of_tree}
use Rattle.tree_forms.specs.Refusals.{named, grown, tree_judged, tree_judged_read, tree_refusal}
use Rattle.tree_forms.proofs.Writing.{FitsTree, tree-back}
use Rattle.tree_forms.proofs.Growing.{after-length, Grown, grown-is}
use Rattle.tree_forms.proofs.Theorems.{fault-tree}
use Rattle.tree_decode.specs.Direct.{short_in, few_parts, used_once, meant, tree_direct}
use Rattle.tree_decode.proofs.Directly.{tree-direct}
use Rattle.tree_library.specs.Numbers.{TreeNumber, TreeNumbers}

unless : (b : Bool) (x y : ℕ) → TreeNumber x → TreeNumber y → TreeNumber (cond b x y)
unless true x y p q = p
unless false x y p q = q

low : (n : ℕ) → 4 ≤ n → n ≤ 11 → TreeNumber n
low n h k = inr (inl (h, k))

few-nodes : (x : Tree) → FitsTree x → Grown x → few_nodes (table_of_tree x) ≡ true
unfolding few_nodes
few-nodes x f g = le-leb (length (nodes (table_of_tree x))) most_nodes (omega (arith, ap length g.order, after-length [] x.nodes, f.nodes.0.1))

few-verdict : (T : Table) → few_nodes T ≡ true → TreeNumber (verdict T)
unfolding verdict
few-verdict T f =
    rw f
    (unless (single T) _ 9 (unless (zero_silent T) _ 10 (unless (distinct T) 0 11 (inl refl) (low 11 (omega arith) (omega arith)))
    (low 10 (omega arith) (omega arith)))
    (low 9 (omega arith) (omega arith)))

judged-number : (x : Tree) → FitsTree x → TreeNumber (tree_judged x)
unfolding tree_direct meant
judged-number x f = subst (λ (n : ℕ). TreeNumber n) (sym (tree-direct x)) (unless (named x) _ 7 (go (grown x) refl) (low 7 (omega arith) (omega arith)))
  where
    go : (b : Bool) → grown x ≡ b
        → TreeNumber (cond b (cond (short_in x.names (table_of_tree x))
        (cond (few_parts (table_of_tree x)) (cond (used_once x.names (table_of_tree x)) (verdict (table_of_tree x)) 8) 7) 6) 21)
    go true g =
        unless (short_in x.names (table_of_tree x)) _ 6
        (unless (few_parts (table_of_tree x)) _ 7
        (unless (used_once x.names (table_of_tree x)) _ 8 (few-verdict (table_of_tree x) (few-nodes x f (grown-is x g))) (low 8 (omega arith) (omega arith)))
        (low 7 (omega arith) (omega arith)))
        (low 6 (omega arith) (omega arith))
    go false g = inr (inr refl)

was_read : (t : List ℕ) (x : Tree) (p : ℕ) → tree_sections t ≡ got x p → tree t ≡ got x p
was_read t x p e = by_test (ltb most_table_bytes (length t)) (λ b. clash (rw b at e)) (λ b. rw b at e)
  where
    clash : ◌≡◌ {A = Read Tree} (fault 4) (got x p) → tree t ≡ got x p
    clash e = let z : ◌≡◌ {A = ℕ} 0 1 = cc in absurd (omega arith)

-- no other numbers are given
pub tree-numbers : TreeNumbers
unfolding tree_refusal tree_judged_read
tree-numbers t = go (tree_sections t) refl
  where
    go : (r : Read Tree) → tree_sections t ≡ r → TreeNumber (tree_judged_read r)
    go (fault k) e =
        let b = fault-if (ltb most_table_bytes (length t)) (fault 4) (tree t) (fault-some 4 (omega arith, omega arith)) (fault-tree t) k e in
        low k b.0 (omega (arith, b.1))
    go (got x p) e = judged-number x (tree-back t x p (was_read t x p e)).0

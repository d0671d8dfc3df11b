-- 22 is given exactly where it is due.
use Prim.Native.Nat.{ℕ, ◌≤◌, ◌<◌, ◌-◌}
use mathlib.Core.Path.{◌≡◌, refl, sym, ◌∙◌}
use mathlib.Core.Logic.{◌⊎◌, inl, inr, ◌≢◌}
use mathlib.Core.Bool.{Bool, true, false, cond, true≢false}
use mathlib.Core.List.{List}
use native.Mathlib.Omega.{arith}
use lib.ListN.{length, replicate}
use lib.Seq.{take-append_seam}
use lib.Dec.{eqb, leb, ltb}
use borrow.Author.Tests.{leb-true, leb-false, eq-eqb, eqb-true}
use Rattle.base_numbers.specs.Numbers.{most_table_bytes}
use Rattle.base_lists.proofs.Bools.{unless}
use Rattle.table_sections.specs.Stored.{Read, fault, got, Stored}
use Rattle.table_sections.proofs.FaultLaws.{fault-if, fault-some}
use Rattle.table_decode.specs.Tables.{formed, listed, table_in, single, zero_silent, distinct, few_nodes, verdict, judged, table_refusal}
use Rattle.table_decode.proofs.RefusalNumbers.{refusal-numbers}
use Rattle.tree_sections.specs.Tree.{Tree, tree, tree_sections}
use Rattle.tree_forms.specs.Meaning.{stored_of}
use Rattle.tree_forms.specs.Refusals.{named, grown, short, tree_judged, tree_judged_read, tree_refusal}
use Rattle.tree_forms.specs.Conversion.{tree_form, old_form, refused, filled, converted, to_tree, from_tree, fits_old}
use Rattle.tree_forms.specs.Claims.{Converts, ToTree22, FromTree22}
use Rattle.tree_forms.proofs.Theorems.{fault-tree, fits-old, fits_not}

-- what a table or a tree is refused with is not 22
judged-not-22 : (s : Stored) → judged s ≢ 22
unfolding judged verdict
judged-not-22 s =
    unless (formed s) 22 _ 7
    (unless (listed s) 22 _ 8
    (unless (single (table_in s)) 22 _ 9
    (unless (zero_silent (table_in s)) 22 _ 10
    (unless (distinct (table_in s)) 22 _ 11 (unless (few_nodes (table_in s)) 22 0 12 (λ e. omega arith) (λ e. omega arith))
    (λ e. omega arith)) (λ e. omega arith)) (λ e. omega arith)) (λ e. omega arith)) (λ e. omega arith)

table-not-22 : (t : List ℕ) → table_refusal t ≢ 22
table-not-22 t e = go (refusal-numbers t)
  where
    go : (table_refusal t ≡ 0) ⊎ ((4 ≤ table_refusal t) × (table_refusal t ≤ 12)) → ⊥
    go (inl z) = omega arith
    go (inr z) = omega arith

tree-not-22 : (t : List ℕ) → tree_refusal t ≢ 22
unfolding tree_refusal tree_judged_read tree_judged
tree-not-22 t = go (tree_sections t) refl
  where
    go : (r : Read Tree) → tree_sections t ≡ r → tree_judged_read r ≢ 22
    go (fault k) e = λ q.
        let b = fault-if (ltb most_table_bytes (length t)) (fault 4) (tree t) (fault-some 4 (omega arith, omega arith)) (fault-tree t) k e in
        omega (arith, b.1)
    go (got x p) e =
        unless (named x) 22 _ 7
        (unless (grown x) 22 _ 21 (unless (short (stored_of x)) 22 _ 6 (judged-not-22 (stored_of x)) (λ e. omega arith)) (λ e. omega arith)) (λ e. omega arith)

converts : (k : ℕ) (fits : Bool) (form : List ℕ) (room : ℕ) (NoRoom : Type 0) → k ≢ 22 → (fits ≡ true → NoRoom → ⊥) → (fits ≡ false → NoRoom)
    → Converts k form NoRoom (converted k fits form room)
unfolding converted
converts k fits form room NoRoom n y z = go (eqb k 0) refl fits refl
  where
    go : (a : Bool) → eqb k 0 ≡ a → (b : Bool) → fits ≡ b → Converts k form NoRoom (cond a (cond b (filled form room) (refused 22 room)) (refused k room))
    go true e true f = record {
      own-number = λ m. absurd (m (eqb-true k 0 e));
      no_room = (λ q. absurd (omega arith), λ w. absurd (y f w.1));
      form-made = λ h m. (refl, take-append_seam form (replicate (room - length form) 0));
    }
    go true e false f = record {
      own-number = λ m. absurd (m (eqb-true k 0 e));
      no_room = (λ q. (eqb-true k 0 e, z f), λ w. refl);
      form-made = λ h m. absurd (m (z f));
    }
    go false e b f = record {
      own-number = λ m. refl;
      no_room = (λ q. absurd (n q), λ w. absurd (nonzero e w.0));
      form-made = λ h m. absurd (nonzero e h);
    }
      where
        nonzero : eqb k 0 ≡ false → k ≢ 0
        nonzero e h = let u : ◌≡◌ {A = Bool} true false = sym (eq-eqb k 0 h) ∙ e in true≢false u

pub to-tree-22 : ToTree22
unfolding to_tree
to-tree-22 t room =
    converts (table_refusal t) (leb (length (tree_form t)) room) (tree_form t) room (room < length (tree_form t)) (table-not-22 t)
    (λ e n. let h = leb-true (length (tree_form t)) room e in omega arith)
    (leb-false (length (tree_form t)) room)

pub from-tree-22 : FromTree22
unfolding from_tree
from-tree-22 t room =
    converts (tree_refusal t) (fits_old (length (old_form t)) room) (old_form t) room ((most_table_bytes < length (old_form t))
    ⊎ (room < length (old_form t))) (tree-not-22 t)
    (λ e n. let h = fits-old (length (old_form t)) room e in go (length (old_form t)) h.0 h.1 n)
    (fits_not (length (old_form t)) room)
  where
    go : (n : ℕ) → n ≤ most_table_bytes → n ≤ room → (most_table_bytes < n) ⊎ (room < n) → ⊥
    go n h k (inl l) = omega arith
    go n h k (inr l) = omega arith

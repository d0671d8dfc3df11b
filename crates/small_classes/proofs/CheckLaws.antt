-- Laws of the check and the proposer as the code makes them.
use Prim.Native.Nat.{ℕ, ◌<◌}
use mathlib.Core.Path.{◌≡◌, refl, sym, ap, ap₂, ◌∙◌}
use mathlib.Core.Bool.{Bool, true, false, cond, ◌&&◌, and-false}
use mathlib.Core.Option.{some, none}
use mathlib.Core.List.{List}
use lib.Dec.{eqb}
use lib.ListN.{length}
use borrow.Author.Tests.{eq-eqb, ne_eqb}
use native.Mathlib.Omega.{arith}
use Rattle.base_numbers.specs.Numbers.{most_states}
use Rattle.base_lists.specs.Lists.{same_list, all_below, tabulate}
use Rattle.base_lists.proofs.Lists.{eqb-exact, list-exact}
use Rattle.theory_minimal.specs.Machine.{Machine, Formed}
use Rattle.theory_minimal.specs.Proposal.{class_of, class_count}
use Rattle.theory_minimal.specs.Refine.{leaders, same_class, blocks, block_number, classes}
use Rattle.theory_minimal.specs.Test.{found_states, class_found, all_reached, fits}
use Rattle.small_rounds.specs.Stored.{stored_machine, is_stored}
use Rattle.small_rounds.proofs.TestLaws.{room_of}
use Rattle.std.proofs.lemmas.Bool.{false_from_ne_true}
use Rattle.small_classes.specs.Check.{stored_fits, stored_proposed, is_some, proposes, classes_in}
use Rattle.small_classes.specs.Found.{Firsts}
use Rattle.small_classes.proofs.NumberLaws.{blocks-firsts}

module _ (m : Machine) (p : List ℕ) where
  pub long-no : (length p ≡ m.states → ⊥) → false ≡ fits m p
  long-no e = rw (ne_eqb (length p) m.states e)

  module _ (l : length p ≡ m.states) where
    pub start-no : (class_of p 0 ≡ 0 → ⊥) → false ≡ fits m p
    start-no e = rw (eq-eqb (length p) m.states l, ne_eqb (class_of p 0) 0 e)

    module _ (s : class_of p 0 ≡ 0) (x y : List ℕ) (x-is : x ≡ blocks m) (y-is : y ≡ leaders (same_class p) m.states) where
      pub blocks-no : (x ≡ y → ⊥) → false ≡ fits m p
      blocks-no e =
          let d : same_list eqb (leaders (same_class p) m.states) (blocks m) ≡ false =
          false_from_ne_true _ (λ t. e (x-is ∙ sym ((list-exact eqb-exact).to _ _ t) ∙ sym y-is)) in
          rw (eq-eqb (length p) m.states l, eq-eqb (class_of p 0) 0 s, d)

      pub fits-rest : x ≡ y → (q : List ℕ) (r : Bool) → q ≡ found_states m → r ≡ all_below (class_count p) (class_found p q) → r ≡ fits m p
      fits-rest e q r a b =
          let d : same_list eqb (leaders (same_class p) m.states) (blocks m) ≡ true = rw (sym y-is ∙ sym e ∙ x-is) ((list-exact eqb-exact).self (blocks m)) in
          rw (eq-eqb (length p) m.states l, eq-eqb (class_of p 0) 0 s, d, ← a) b

module _ (m : Machine) where
  pub firsts-of : Formed m → (x : List ℕ) → x ≡ blocks m → Firsts x m.states
  firsts-of f x e = rw e (blocks-firsts m f)

  pub proposal-is : (x out q : List ℕ) (r : Bool) → x ≡ blocks m → out ≡ tabulate (block_number x) m.states → q ≡ found_states m
      → r ≡ all_below (class_count out) (class_found out q)
      → (r ≡ all_reached m (classes m)) × (out ≡ classes m)
  proposal-is x out q r a b d e =
      let i : out ≡ classes m = b ∙ ap (λ z. tabulate (block_number z) m.states) a in
      (e ∙ ap₂ (λ (o z : List ℕ). all_below (class_count o) (class_found o z)) i d, i)

-- the answers for any rows: a machine must be in them
module _ (rows : List ℕ) (n head k : ℕ) where
  many-no : most_states < n → is_stored rows n head k ≡ false
  many-no h = false_from_ne_true _ (λ t. absurd (omega (arith, h, (room_of rows n head k t).few)))

  pub many-fits : (p : List ℕ) → most_states < n → false ≡ stored_fits rows n head k p
  unfolding stored_fits
  many-fits p h = rw (many-no h)

  pub long-fits : (p : List ℕ) → (length p ≡ n → ⊥) → false ≡ stored_fits rows n head k p
  unfolding stored_fits
  long-fits p h = rw (← long-no (stored_machine rows n head k) p h) (sym (and-false (is_stored rows n head k)))

  pub rows-fits : (p : List ℕ) → is_stored rows n head k ≡ false → false ≡ stored_fits rows n head k p
  unfolding stored_fits
  rows-fits p e = rw e

  pub fits-yes : (p : List ℕ) (r : Bool) → is_stored rows n head k ≡ true → r ≡ fits (stored_machine rows n head k) p → r ≡ stored_fits rows n head k p
  unfolding stored_fits
  fits-yes p r e d = rw e d

  -- no machine: nothing is proposed, and the list stays
  pub rows-proposed : (b : List ℕ) → is_stored rows n head k ≡ false → (false ≡ proposes rows n head k b) × (b ≡ classes_in rows n head k b)
  unfolding stored_proposed proposes classes_in
  rows-proposed b e = rw e (
    sym (and-false (eqb (length b) n)),
    sym (ap (λ (s : Bool). cond s (classes (stored_machine rows n head k)) b) (and-false (eqb (length b) n))),
  )

  pub many-proposed : (b : List ℕ) → most_states < n → (false ≡ proposes rows n head k b) × (b ≡ classes_in rows n head k b)
  many-proposed b h = rows-proposed b (many-no h)

  -- nor into a list of another length
  pub other-proposed : (b : List ℕ) → (length b ≡ n → ⊥) → (false ≡ proposes rows n head k b) × (b ≡ classes_in rows n head k b)
  unfolding proposes classes_in
  other-proposed b e = rw (ne_eqb (length b) n e) (refl, refl)

  some-cond : (b : Bool) (p : List ℕ) → b ≡ is_some (cond b (some p) none)
  some-cond true p = refl
  some-cond false p = refl

  pub proposed-yes : (b b' : List ℕ) (r : Bool) → length b ≡ n → is_stored rows n head k ≡ true
      → (r ≡ all_reached (stored_machine rows n head k) (classes (stored_machine rows n head k))) × (b' ≡ classes (stored_machine rows n head k))
      → (r ≡ proposes rows n head k b) × (b' ≡ classes_in rows n head k b)
  unfolding stored_proposed proposes classes_in
  proposed-yes b b' r l e w =
      let m : Machine = stored_machine rows n head k in
      rw (eq-eqb (length b) n l, e) (w.0 ∙ some-cond (all_reached m (classes m)) (classes m), w.1)

  -- what is proposed, by the answer and the list
  pub proposed-is : (b b' : List ℕ) (r : Bool) → length b ≡ n → (r ≡ proposes rows n head k b) × (b' ≡ classes_in rows n head k b)
      → stored_proposed rows n head k ≡ cond r (some b') none
  unfolding stored_proposed proposes classes_in
  proposed-is b b' r l w = go (is_stored rows n head k) (rw (eq-eqb (length b) n l) at w.0) (rw (eq-eqb (length b) n l) at w.1)
    where
      m : Machine
      m = stored_machine rows n head k

      go : (s : Bool) → r ≡ is_some (cond s (cond (all_reached m (classes m)) (some (classes m)) none) none) → b' ≡ cond s (classes m) b
          → cond s (cond (all_reached m (classes m)) (some (classes m)) none) none ≡ cond r (some b') none
      go true e f = ap₂ (λ (x : Bool) (p : List ℕ). cond x (some p) none) (some-cond (all_reached m (classes m)) (classes m) ∙ sym e) (sym f)
      go false e f = sym (ap (λ (x : Bool). cond x (some b') none) e)

-- what the rounds' answer says where both lists are as long as the machine has states
pub answer-is : (s : Bool) (l k n : ℕ) → l ≡ n → k ≡ n → (s && (eqb l n && eqb k n)) ≡ s
answer-is false l k n h i = refl
answer-is true l k n h i = rw (eq-eqb l n h, eq-eqb k n i)

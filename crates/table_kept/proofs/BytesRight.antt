-- The answer to any bytes, any set and any number, by the first refusal.
use Prim.Native.Nat.{ℕ, zero, suc, ◌-◌, ◌≤◌, ◌<◌, min}
use mathlib.Core.Path.{◌≡◌, refl, sym, ap, ap₂, ◌∙◌}
use mathlib.Core.Bool.{Bool, true, false, cond, ◌||◌}
use mathlib.Core.List.{List}
use lib.Dec.{eqb, ltb}
use lib.ListN.{length}
use borrow.Author.Tests.{eq-eqb, ne_eqb, lt-ltb, le-ltb}
use native.Mathlib.Omega.{arith}
use Rattle.base_numbers.specs.Numbers.{most_signals}
use Rattle.base_numbers.specs.Refusals.{refusal_number}
use Rattle.base_numbers.specs.declared.refusal.Refusal.{Refusal}
use Rattle.base_numbers.proofs.Refusals.{refusal-some}
use Rattle.theory_resolution.specs.Table.{Table}
use Rattle.theory_resolution.specs.Nodes.{nodes, node_at}
use Rattle.table_decode.specs.Tables.{table_refusal, table_of}
use Rattle.table_decode.specs.Decoded.{Holds, DecodedAs}
use Rattle.node_search.specs.declared.decoded.Decoded.{Decoded}
use Rattle.resolve_available.specs.Available.{has_bit, known}
use Rattle.resolve_available.proofs.AnswerLaws.{signals-few}
use Rattle.table_kept.specs.declared.kept.Kept.{Kept}
use Rattle.table_kept.specs.declared.rung.Rung.{Rung}
use Rattle.table_kept.specs.Answers.{refused_kept, kept_in, kept_answer_of, refused_rung, rung_in, rung_of}

-- a number that is not 0
pub pos : (d : ℕ) → (d ≡ 0 → ⊥) → 0 < d
pos zero n = absurd (n refl)
pos (suc d) n = omega arith

-- the table is refused
module _ (t : List ℕ) (k : Refusal) (m : refusal_number k ≡ table_refusal t) where
  not-formed : eqb (table_refusal t) 0 ≡ false
  not-formed = ne_eqb (table_refusal t) 0 (λ z. omega (arith, m, z, refusal-some k))

  pub kept-refused : (set d : ℕ) → refused_kept (refusal_number k) ≡ kept_answer_of t set d
  unfolding kept_answer_of
  kept-refused set d = ap refused_kept m ∙ rw not-formed refl

  pub rung-refused : (set s : ℕ) → refused_rung (refusal_number k) ≡ rung_of t set s
  unfolding rung_of
  rung-refused set s = ap refused_rung m ∙ rw not-formed refl

module _ (t : List ℕ) (r : Decoded) (m : DecodedAs t r) where
  abbrev T : Table
  T = table_of t

  formed : table_refusal t ≡ 0
  formed = m.refusal

  holds : Holds t T r
  holds = m.holds

  accepts : eqb (table_refusal t) 0 ≡ true
  accepts = eq-eqb (table_refusal t) 0 formed

  module _ (set : ℕ) {b : Bool} (e : b ≡ known set (min r.signals most_signals)) where
    set-test : b ≡ known set (length T.signals)
    set-test = e ∙ ap (known set) (signals-few t r holds)

    -- the set has a bit that is no signal's
    module _ (strange : b ≡ false) where
      not_known : known set (length T.signals) ≡ false
      not_known = sym set-test ∙ strange

      pub kept-strange : (d : ℕ) {x : Kept} → x ≡ refused_kept 23 → x ≡ kept_answer_of t set d
      unfolding kept_answer_of
      kept-strange d i = i ∙ rw (accepts, not_known) refl

      pub rung-strange : (s : ℕ) {x : Rung} → x ≡ refused_rung 23 → x ≡ rung_of t set s
      unfolding rung_of
      rung-strange s i = i ∙ rw (accepts, not_known) refl

    -- it has none
    module _ (fit : b ≡ true) where
      is_known : known set (length T.signals) ≡ true
      is_known = sym set-test ∙ fit

      by_number : (d : ℕ) (b : Bool) → eqb d 0 || ltb (length (nodes T)) d ≡ b
          → kept_answer_of t set d ≡ cond b (refused_kept 30) (kept_in T (has_bit set) (node_at (nodes T) (d - 1)))
      unfolding kept_answer_of
      by_number d b i = rw (accepts, is_known) (ap (λ x. cond x (refused_kept 30) (kept_in T (has_bit set) (node_at (nodes T) (d - 1)))) i)

      pub kept-none : (d : ℕ) {x : Kept} → d ≡ 0 → x ≡ refused_kept 30 → x ≡ kept_answer_of t set d
      kept-none d z i = i ∙ sym (by_number d true (ap (λ b. b || ltb (length (nodes T)) d) (eq-eqb d 0 z)))

      pub kept-over : (d : ℕ) {i : ℕ} {x : Kept} → (d ≡ 0 → ⊥) → i ≡ d → r.nodes < i → x ≡ refused_kept 30 → x ≡ kept_answer_of t set d
      kept-over d z j h i =
          i ∙ sym (by_number d true (ap₂ ◌||◌ (ne_eqb d 0 z) (lt-ltb (length (nodes T)) d (omega (arith, holds.nodes.all-nodes)))))

      pub kept-node : (d : ℕ) {i : ℕ} {x : Kept} → (d ≡ 0 → ⊥) → i ≡ d → i ≤ r.nodes
          → x ≡ kept_in T (has_bit set) (node_at (nodes T) (d - 1)) → x ≡ kept_answer_of t set d
      kept-node d z j h i =
          i ∙ sym (by_number d false (ap₂ ◌||◌ (ne_eqb d 0 z) (le-ltb (length (nodes T)) d (omega (arith, holds.nodes.all-nodes)))))

      by-signal : (s : ℕ) (b : Bool) → ltb s (length T.signals) ≡ b → rung_of t set s ≡ cond b (rung_in T (has_bit set) s) (refused_rung 31)
      unfolding rung_of
      by-signal s b i = rw (accepts, is_known) (ap (λ x. cond x (rung_in T (has_bit set) s) (refused_rung 31)) i)

      pub rung-over : (s : ℕ) {i : ℕ} {x : Rung} → i ≡ s → r.signals ≤ i → x ≡ refused_rung 31 → x ≡ rung_of t set s
      rung-over s j h i = i ∙ sym (by-signal s false (le-ltb s (length T.signals) (omega (arith, holds.numbers.all-signals))))

      pub rung-signal : (s : ℕ) {i : ℕ} {x : Rung} → i ≡ s → i < r.signals → x ≡ rung_in T (has_bit set) s → x ≡ rung_of t set s
      rung-signal s j h i = i ∙ sym (by-signal s true (lt-ltb s (length T.signals) (omega (arith, holds.numbers.all-signals))))

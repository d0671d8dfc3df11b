-- Laws of one turn of discovery: the states kept and the numbers of the targets, one by one.
use Prim.Native.Nat.{ℕ, zero, suc, ◌+◌, ◌≤◌, ◌<◌}
use mathlib.Core.Path.{◌≡◌, refl, sym, ap, subst, ◌∙◌}
use mathlib.Core.Bool.{Bool, true, false, cond}
use mathlib.Core.List.{List, [], ◌∷◌, ◌++◌}
use lib.ListN.{length, set, take, drop, length-append}
use lib.Seq.{take_at}
use native.Mathlib.Omega.{arith}
use native.Mathlib.Decide.{ℕ_discrete}
use native.Mathlib.Numerals.{add-one}
use Rattle.base_numbers.specs.Numbers.{most_states}
use Rattle.base_lists.proofs.Over.{over-all, over-set}
use Rattle.base_lists.proofs.Tabulated.{tabulate-length, tabulate-same}
use Rattle.base_lists.proofs.Lists.{Extends, add-extends, add-has, member-extends}
use Rattle.base_lists.specs.Lists.{member_by, add_by, index_by, tabulate, over}
use Rattle.theory_resolution.specs.Discovery.{expand, targets}
use Rattle.node_step.specs.Step.{digit}
use Rattle.node_step.specs.StatusByte.{same_packed}
use Rattle.node_step.specs.declared.stored.Packed.{Packed}
use Rattle.node_step.proofs.PackedStep.{packed-exact}
use Rattle.base_numbers.specs.declared.refusal.Refusal.{Refusal}
use Rattle.base_numbers.specs.declared.refusal.Refusal.TheVariants.{TooManyStates}
use Rattle.machine_build.specs.declared.states.States.{States}
use Rattle.machine_build.specs.States.{Kept, pair_bytes}
use Rattle.machine_build.proofs.KeptLaws.{index-extends, index-add, add-longer}

pub extends-length : {l k : List Packed} → Extends l k → length l ≤ length k
extends-length {l} e = omega (arith, length-append l e.more, ap length e.joined)

module _ (next : Packed → ℕ → Packed) (p : Packed) (l : List Packed) where
  abbrev after : ℕ → List Packed
  after k = expand same_packed next p k l

  -- each target is there
  pub target-there : (n k : ℕ) → k < n → member_by same_packed (next p k) (after n) ≡ true
  unfolding expand
  target-there zero k h = absurd (omega arith)
  target-there (suc n) k h = go (ℕ_discrete k n) (λ i. target-there n k i)
    where
      go : Dec (k ≡ n) → (k < n → member_by same_packed (next p k) (after n) ≡ true)
          → member_by same_packed (next p k) (add_by same_packed (after n) (next p n)) ≡ true
      go (yes e) ih = rw e (add-has same_packed packed-exact (after n) (next p n))
      go (no e) ih = member-extends same_packed packed-exact (next p k) (add-extends same_packed packed-exact (after n) (next p n)) (ih (omega arith))

  -- with more targets the list is no shorter
  pub after-longer : (k n : ℕ) → k ≤ n → length (after k) ≤ length (after n)
  unfolding expand
  after-longer k zero h = let e : k ≡ 0 = omega arith in rw e (omega arith)
  after-longer k (suc n) h = go (ℕ_discrete k (suc n)) (λ i. after-longer k n i)
    where
      go : Dec (k ≡ suc n) → (k ≤ n → length (after k) ≤ length (after n)) → length (after k) ≤ length (after (suc n))
      go (yes e) ih = rw e (omega arith)
      go (no e) ih = omega (arith, ih (omega arith), extends-length (add-extends same_packed packed-exact (after n) (next p n)))

  -- the numbers of the targets at the first k symbols
  abbrev pub begun : ℕ → List ℕ
  begun k = targets same_packed next k (after k) p

  begun-length : (k : ℕ) → length (begun k) ≡ k
  begun-length k = tabulate-length (λ i. index_by same_packed (next p i) (after k)) k

  -- one target more: those before it keep their numbers
  begun_more : (k : ℕ) → begun (suc k) ≡ begun k ++ index_by same_packed (next p k) (after k) ∷ []
  unfolding tabulate expand
  begun_more k =
      ap (λ z. z ++ index_by same_packed (next p k) (add_by same_packed (after k) (next p k)) ∷ [])
      (tabulate-same (λ i. index_by same_packed (next p i) (add_by same_packed (after k) (next p k))) (λ i. index_by same_packed (next p i) (after k)) k
      (λ i h. index-extends (next p i) (add-extends same_packed packed-exact (after k) (next p k)) (target-there k i h)))
      ∙ ap (λ z. targets same_packed next k (after k) p ++ z ∷ []) (index-add (next p k) (after k))

  -- what the loop keeps
  pub record Turning (k : ℕ) (numbers₀ numbers : List ℕ) (s : States) : Type 0 where
    pub kept : Kept s (after k)
    pub numbered : numbers ≡ over (begun k) numbers₀

  module _ (numbers₀ : List ℕ) where
    pub turning-start : (s : States) → Kept s l → Turning 0 numbers₀ numbers₀ s
    unfolding expand tabulate over
    turning-start s k = record { kept = k; numbered = refl }

    module _ (k : ℕ) (numbers : List ℕ) (s : States) (t : Turning k numbers₀ numbers s) where
      pub turning-more : (s' : States) {q : Packed} {j : ℕ} → k < length numbers₀ → q ≡ next p k
          → ((l' : List Packed) → Kept s l' → (j ≡ index_by same_packed q l') × Kept s' (add_by same_packed l' q))
          → Turning (k + 1) numbers₀ (set numbers k j) s'
      unfolding expand
      turning-more s' {q} {j} h e f =
          let w = f (after k) t.kept in
          rw add-one
          (record {
            kept = subst (λ (z : Packed). Kept s' (add_by same_packed (after k) z)) e w.1;
            numbered =
                ap (λ z. set z k j) t.numbered
                ∙ over-set (begun k) numbers₀ k j (begun-length k) h
                ∙ ap (λ z. over z numbers₀) (ap (λ z. begun k ++ z ∷ []) (w.0 ∙ ap (λ z. index_by same_packed z (after k)) e) ∙ sym (begun_more k));
          })

      -- a 257th state
      pub turning-over : (count : ℕ) {q : Packed} {r : Refusal} → k < count → q ≡ next p k
          → ((l' : List Packed) → Kept s l' → (r ≡ TooManyStates) × (most_states ≤ index_by same_packed q l'))
          → (r ≡ TooManyStates) × (most_states < length (after count))
      unfolding expand
      turning-over count {q} {r} h e f =
          let w = f (after k) t.kept in
          let a : index_by same_packed q (after k) ≡ index_by same_packed (next p k) (after k) = ap (λ z. index_by same_packed z (after k)) e in
          let b : length (after k) ≤ most_states = omega (arith, t.kept.all-kept, t.kept.few) in
          let c = add-longer (next p k) (after k) (omega (arith, a, w.1)) in
          let d = index-le (next p k) (after k) in
          (w.0, omega (arith, a, w.1, d, c.1, after-longer (suc k) count (omega arith)))
        where
          index-le : (x : Packed) (y : List Packed) → index_by same_packed x y ≤ length y
          index-le x [] = omega arith
          index-le x (z ∷ y) = by (same_packed x z) (index-le x y)
            where
              by : (b : Bool) → index_by same_packed x y ≤ length y → cond b zero (suc (index_by same_packed x y)) ≤ suc (length y)
              by true ih = omega arith
              by false ih = omega arith

      pub turning-end : (count : ℕ) → k ≤ count → count ≤ k
          → Kept s (after count) × (take count numbers ≡ targets same_packed next count (after count) p)
      unfolding over
      turning-end count a b =
          let e : k ≡ count = omega arith in
          let u : Turning count numbers₀ numbers s = subst (λ (z : ℕ). Turning z numbers₀ numbers s) e t in
          (u.kept, ap (take count) u.numbered ∙ take_at (begun count) (drop (length (begun count)) numbers₀) count (begun-length count))

-- the bytes before the row are all written
pub pair-done : (cats : ℕ) (st : Packed) (c : ℕ) (b : List ℕ) {r : List ℕ} → c ≤ cats → cats ≤ c → length b ≡ cats + 1
    → r ≡ over (st.signal ∷ [] ++ tabulate (digit st.statuses) c) b → r ≡ pair_bytes cats st
pair-done cats st c b h k l e =
    let z : c ≡ cats = omega arith in
    e ∙ ap (λ y. over (st.signal ∷ [] ++ tabulate (digit st.statuses) y) b) z
    ∙ over-all (st.signal ∷ [] ++ tabulate (digit st.statuses) cats) b (omega (arith, tabulate-length (digit st.statuses) cats))

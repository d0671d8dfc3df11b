-- Laws of leaders: by a test of likeness, two numbers have one leader exactly if they are alike.
use Prim.Native.Nat.{ℕ, ◌≤◌, ◌<◌}
use mathlib.Core.Path.{◌≡◌, sym, ap, ◌∙◌}
use mathlib.Core.Bool.{Bool, true}
use native.Mathlib.Decide.{dec_lt}
use native.Mathlib.Omega.{arith}
use Rattle.base_lists.proofs.Search.{seek-sought, seek-before, seek-same}
use Rattle.base_lists.proofs.Bools.{same_test}
use Rattle.base_lists.proofs.Tabulated.{tabulate-at, tabulate-same}
use Rattle.theory_minimal.specs.Proposal.{class_of}
use Rattle.theory_minimal.specs.Refine.{leader, leaders}

-- a test of likeness: each is like itself, and two that one is like are alike
pub record Likeness (f : ℕ → ℕ → Bool) : Type 0 where
  pub self : (i : ℕ) → f i i ≡ true
  pub join : (i j l : ℕ) → f i j ≡ true → f i l ≡ true → f j l ≡ true

module _ (f : ℕ → ℕ → Bool) (like : Likeness f) where
  pub leader-le : (i : ℕ) → leader f i ≤ i
  leader-le i = omega (arith, (seek-sought (f i) 0 i).within)

  pub leader-like : (i : ℕ) → f i (leader f i) ≡ true
  leader-like i = go (dec_lt (leader f i) i)
    where
      go : Dec (leader f i < i) → f i (leader f i) ≡ true
      go (yes h) = (seek-sought (f i) 0 i).passes (omega arith)
      go (no h) = let e : leader f i ≡ i = let a = leader-le i in omega arith in ap (f i) e ∙ like.self i

  pub like-back : (i j : ℕ) → f i j ≡ true → f j i ≡ true
  like-back i j e = like.join i j i e (like.self i)

  -- those that are alike have one leader
  pub leader-same : (i j : ℕ) → f i j ≡ true → leader f i ≡ leader f j
  leader-same i j e =
      let a = seek-before (f i) i (leader f j) (like.join j i (leader f j) (like-back i j e) (leader-like j)) in
      let b = seek-before (f j) j (leader f i) (like.join i j (leader f i) e (leader-like i)) in
      omega arith

  -- those that have one leader are alike
  pub leader-to : (i j : ℕ) → leader f i ≡ leader f j → f i j ≡ true
  leader-to i j e =
      like.join (leader f i) i j (like-back i (leader f i) (leader-like i)) (rw e (like-back j (leader f j) (leader-like j)))

  -- a leader leads itself
  pub leader-leads : (i : ℕ) → leader f (leader f i) ≡ leader f i
  leader-leads i = sym (leader-same i (leader f i) (leader-like i))

  pub leaders-at : (n i : ℕ) → i < n → class_of (leaders f n) i ≡ leader f i
  leaders-at n i h = tabulate-at (leader f) n i 0 h

  pub leaders-same : (n i j : ℕ) → i < n → j < n → f i j ≡ true → class_of (leaders f n) i ≡ class_of (leaders f n) j
  leaders-same n i j a b e = leaders-at n i a ∙ leader-same i j e ∙ sym (leaders-at n j b)

  pub leaders-to : (n i j : ℕ) → i < n → j < n → class_of (leaders f n) i ≡ class_of (leaders f n) j → f i j ≡ true
  leaders-to n i j a b e = leader-to i j (sym (leaders-at n i a) ∙ e ∙ leaders-at n j b)

-- two tests that tell the same numbers below n alike have the same leaders
pub leaders-agree : (f g : ℕ → ℕ → Bool) (n : ℕ) → ((i j : ℕ) → i < n → j < n → f i j ≡ true → g i j ≡ true)
    → ((i j : ℕ) → i < n → j < n → g i j ≡ true → f i j ≡ true)
    → leaders f n ≡ leaders g n
leaders-agree f g n to from =
    tabulate-same (leader f) (leader g) n
    (λ i h. seek-same (f i) (g i) 0 i (λ j a b. same_test (f i j) (g i j) (to i j h (omega arith)) (from i j h (omega arith))))

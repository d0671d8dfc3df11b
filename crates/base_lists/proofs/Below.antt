-- Laws of a test at each number below n.
use Prim.Native.Nat.{ℕ, zero, suc, ◌<◌, ◌+◌, ◌≤◌}
use mathlib.Core.Path.{◌≡◌, refl, sym, ◌∙◌, ap₂, ap}
use mathlib.Core.Bool.{Bool, true, and-eq-true_iff, false, true≢false, ◌&&◌, not, and-true}
use native.Mathlib.Decide.{ℕ_discrete}
use native.Mathlib.Numerals.{add-one}
use native.Mathlib.Omega.{arith}
use borrow.Author.Tests.{not-false, not-true}
use Rattle.base_lists.specs.Lists.{all_below}

-- a test that passes at each number below n passes at k
pub all-to : (n : ℕ) (f : ℕ → Bool) → all_below n f ≡ true → (k : ℕ) → k < n → f k ≡ true
unfolding all_below
all-to zero f e k h = absurd (omega arith)
all-to (suc n) f e k h = go (ℕ_discrete k n) (λ a i. all-to n f a k i)
  where
    both : (all_below n f ≡ true) × (f n ≡ true)
    both = (and-eq-true_iff (all_below n f) (f n)).0 e

    go : Dec (k ≡ n) → (all_below n f ≡ true → k < n → f k ≡ true) → f k ≡ true
    go (yes i) ih = rw i both.1
    go (no i) ih = ih both.0 (omega arith)

-- one that passes at each k below n
pub all_of : (n : ℕ) (f : ℕ → Bool) → ((k : ℕ) → k < n → f k ≡ true) → all_below n f ≡ true
unfolding all_below
all_of zero f h = refl
all_of (suc n) f h = (and-eq-true_iff (all_below n f) (f n)).1 (all_of n f (λ k i. h k (omega arith)), h n (omega arith))

-- one that fails at some number below n
pub all-stop : (n : ℕ) (f : ℕ → Bool) (k : ℕ) → k < n → f k ≡ false → all_below n f ≡ false
all-stop n f k h e = go (all_below n f) refl
  where
    go : (b : Bool) → all_below n f ≡ b → b ≡ false
    go false i = refl
    go true i = absurd (true≢false (sym (all-to n f i k h) ∙ e))

-- two tests that are equal at each number below n
pub all_same : (n : ℕ) (f g : ℕ → Bool) → ((k : ℕ) → k < n → f k ≡ g k) → all_below n f ≡ all_below n g
unfolding all_below
all_same zero f g h = refl
all_same (suc n) f g h = ap₂ ◌&&◌ (all_same n f g (λ k i. h k (omega arith))) (h n (omega arith))

-- a test that passed at each number below k, and passes at k
pub all_more : (f : ℕ → Bool) (k : ℕ) → all_below k f ≡ true → f k ≡ true → all_below (k + 1) f ≡ true
unfolding all_below
all_more f k a e = rw (add-one, a, e)

-- a test that passed at each number below k, where k is n
pub all_done : (f : ℕ → Bool) (n k : ℕ) → k ≤ n → n ≤ k → all_below k f ≡ true → true ≡ all_below n f
all_done f n k a b e = let i : n ≡ k = omega arith in sym (ap (λ z. all_below z f) i ∙ e)

-- the same, where the code asked whether it fails
pub all_yes : (f : ℕ → Bool) (k : ℕ) {r : Bool} → r ≡ f k → not r ≡ false → all_below k f ≡ true → all_below (k + 1) f ≡ true
all_yes f k e t a = all_more f k a (sym e ∙ not-false _ t)

-- a test that fails at k, where the code asked so
pub all-no : (f : ℕ → Bool) (n k : ℕ) {r : Bool} → r ≡ f k → not r ≡ true → k < n → false ≡ all_below n f
all-no f n k e t h = sym (all-stop n f k h (sym e ∙ not-true _ t))

module _ (f : ℕ → Bool) (n k : ℕ) {m : ℕ} (is : m ≡ n) where
  -- a test that fails at k, below an end that the code names otherwise
  pub all-false : {b : Bool} → k < m → b ≡ f k → b ≡ false → false ≡ all_below n f
  all-false h e z = sym (all-stop n f k (omega arith) (sym e ∙ z))

  -- one that passed at each number below k, where k is that end
  pub all_true : m ≤ k → k ≤ m → all_below k f ≡ true → true ≡ all_below n f
  all_true h l e = sym (ap (λ x. all_below x f) (let z : n ≡ k = omega arith in z) ∙ e)

-- a test that passed at each number below k, and passes at k as the code found
pub all-next : (f : ℕ → Bool) (k : ℕ) {b : Bool} → all_below k f ≡ true → b ≡ f k → b ≡ true → all_below (k + 1) f ≡ true
unfolding all_below
all-next f k a e z = rw add-one (ap₂ ◌&&◌ a (sym e ∙ z))

-- a test passes at each number below 0
pub all_none : (f : ℕ → Bool) → all_below 0 f ≡ true
unfolding all_below
all_none f = refl

-- where a test does not pass at each number below n, it fails at one
pub all-failed : (n : ℕ) (f : ℕ → Bool) → all_below n f ≡ false → (k : ℕ) × (k < n) × (f k ≡ false)
unfolding all_below
all-failed zero f e = absurd (true≢false e)
all-failed (suc n) f e = go (f n) refl (all-failed n f)
  where
    go : (b : Bool) → f n ≡ b → (all_below n f ≡ false → (k : ℕ) × (k < n) × (f k ≡ false)) → (k : ℕ) × (k < suc n) × (f k ≡ false)
    go false h ih = (n, omega arith, h)
    go true h ih =
        let w = ih (sym (and-true (all_below n f)) ∙ ap (λ b. all_below n f && b) (sym h) ∙ e) in
        (w.0, omega (arith, w.1), w.2)

module _ (f : ℕ → Bool) (c : ℕ) where
  -- a test that fails at c, as the code found
  pub all-fails : {b : Bool} (n : ℕ) → c < n → b ≡ f c → b ≡ false → false ≡ all_below n f
  all-fails n h e t = sym (all-stop n f c h (sym e ∙ t))

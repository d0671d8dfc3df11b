-- Laws of the readings, one step further.
use Prim.Native.Nat.{ℕ, suc, zero, ◌+◌, ◌-◌, ◌≤◌, ◌<◌}
use mathlib.Core.Path.{◌≡◌, refl, ap, ap₂, sym, ◌∙◌}
use mathlib.Core.Bool.{true, false, and-false, and-eq-true_iff}
use mathlib.Core.List.{List, [], ◌∷◌, ◌++◌, map, append_assoc, append-nil}
use native.Mathlib.Nat.{sub-zero}
use native.Mathlib.Numerals.{add-one}
use native.Mathlib.Omega.{arith}
use lib.ListN.{length, get_or, take, drop, set}
use lib.Seq.{get_or-set_same, get_or-set_other}
use Rattle.std.specs.Prelude.{Result, Err}
use Rattle.std.specs.Result.{IsErr, IsErrAnd}
use Rattle.std.proofs.lemmas.Result.{err_from_is_err_and}
use Rattle.base_lists.specs.Cuts.{stretch}
use Rattle.base_lists.proofs.Tabulated.{tabulate-same}
use Rattle.base_lists.specs.Lists.{tabulate}
use Rattle.base_lists.proofs.Bools.{by_test}
use Rattle.base_lists.specs.Numbers.{within}
use lib.Dec.{leb, ltb}
use borrow.Author.Tests.{lt-leb, le-leb, lt-ltb, le-ltb, leb-true, ltb-true}
use Rattle.table_sections.specs.Stored.{Read, fault, got, and_then, byte_in, text, times, signal}
use Rattle.table_sections.specs.Held.{tag, urn_at, map_read}

-- an error that `?` hands on
pub passed-on : {T E : Type 0} {k : E} (r : Result T E) → IsErr r × IsErrAnd r (λ e. e ≡ k) → r ≡ Err k
passed-on r e = let p = err_from_is_err_and r e.1 in p.1 ∙ ap Err p.2

-- a byte
module _ (lo hi : ℕ) (t : List ℕ) (at b : ℕ) (h : at < length t) (e : b ≡ get_or t at 0) where
  pub byte-outside : within lo hi b ≡ false → fault 6 ≡ byte_in lo hi t at
  unfolding byte_in
  byte-outside l = simp (lt-ltb _ _ h, ← e, l)

  pub byte-inside : within lo hi b ≡ true → got b (at + 1) ≡ byte_in lo hi t at
  unfolding byte_in
  byte-inside l = simp (lt-ltb _ _ h, ← e, l)

  pub byte_low : b < lo → fault 6 ≡ byte_in lo hi t at
  byte_low l = byte-outside (rw (lt-leb _ _ l))

  pub byte_high : hi < b → fault 6 ≡ byte_in lo hi t at
  byte_high l = byte-outside (rw (lt-leb b hi l) (and-false _))

  pub byte-good : lo ≤ b → b ≤ hi → got b (at + 1) ≡ byte_in lo hi t at
  byte-good l k = byte-inside (rw (le-leb _ _ l, le-leb _ _ k))

pub byte-none : (lo hi : ℕ) (t : List ℕ) (at : ℕ) → length t ≤ at → fault 5 ≡ byte_in lo hi t at
unfolding byte_in
byte-none lo hi t at h = simp (le-ltb _ _ h)

-- what a byte that was read says
pub record ByteRead (lo hi : ℕ) (t : List ℕ) (at n p : ℕ) : Type 0 where
  pub low : lo ≤ n
  pub high : n ≤ hi
  pub next : p ≡ at + 1
  pub here : at < length t

pub byte-read : (lo hi : ℕ) (t : List ℕ) (at n p : ℕ) → byte_in lo hi t at ≡ got n p → ByteRead lo hi t at n p
unfolding byte_in
byte-read lo hi t at n p e =
    by_test (ltb at (length t))
    (λ h. by_test (within lo hi (get_or t at 0))
    (λ w.
    let q : got (get_or t at 0) (at + 1) ≡ got n p = simp (h, w) at e in
    let v : get_or t at 0 ≡ n = cc in
    let y : at + 1 ≡ p = cc in
    let b = (and-eq-true_iff (leb lo (get_or t at 0)) (leb (get_or t at 0) hi)).0 w in
    record {
      low = omega (arith, leb-true lo (get_or t at 0) b.0);
      high = omega (arith, leb-true (get_or t at 0) hi b.1);
      next = sym y;
      here = ltb-true _ _ h;
    })
    (λ w. let q : fault 6 ≡ got n p = simp (h, w) at e in let z : ◌≡◌ {A = ℕ} 0 1 = cc in absurd (omega arith)))
    (λ h. let q : fault 5 ≡ got n p = simp h at e in let z : ◌≡◌ {A = ℕ} 0 1 = cc in absurd (omega arith))

-- a text
module _ (hi : ℕ) (t : List ℕ) (at : ℕ) where
  pub text-fault : (k : ℕ) → byte_in 1 hi t at ≡ fault k → fault k ≡ text hi t at
  unfolding text and_then
  text-fault k e = simp e

  pub text-good : (n p : ℕ) → byte_in 1 hi t at ≡ got n p → n ≤ length t - p → got (take n (drop (p + n - n) t)) (p + n) ≡ text hi t at
  unfolding text and_then
  text-good n p e h = let k : p + n - n ≡ p = omega arith in simp (e, le-leb _ _ h, k)

  pub text-short : (n p : ℕ) → byte_in 1 hi t at ≡ got n p → length t - p < n → fault 5 ≡ text hi t at
  unfolding text and_then
  text-short n p e h = simp (e, lt-leb _ _ h)

-- a reading of many, each changed, after what is there already
abbrev pub after : {A B : Type 0} → List B → (A → B) → Read (List A) → Read (List B)
after l g r = map_read (λ ys. l ++ map g ys) r

after-cons : {A B : Type 0} (l : List B) (g : A → B) (x : A) (r : Read (List A)) → after l g (and_then r (λ xs q. got (x ∷ xs) q)) ≡ after (l ++ g x ∷ []) g r
unfolding and_then map_read
after-cons l g x (fault k) = refl
after-cons l g x (got ys q) = ap (λ z. got z q) (sym (append_assoc l (g x ∷ []) (map g ys)))

-- one more reading of many, put after the first i
module _ {A B : Type 0} (rd : ℕ → Read A) (g : A → B) (f : ℕ → B) (n i at : ℕ) (w : Read (List B))
    (v : w ≡ after (tabulate f i) g (times rd (n - i) at)) where
  pub run_more : (f₁ : ℕ → B) (x : A) (p : ℕ) → i < n → rd at ≡ got x p → ((j : ℕ) → j < i → f₁ j ≡ f j) → f₁ i ≡ g x
      → w ≡ after (tabulate f₁ (i + 1)) g (times rd (n - (i + 1)) p)
  unfolding times and_then tabulate
  run_more f₁ x p h e same here =
      let m : n - i ≡ suc (n - (i + 1)) = omega arith in
      let l : tabulate f i ++ g x ∷ [] ≡ tabulate f₁ (i + 1) = rw (add-one, here, tabulate-same f₁ f i same) in
      v ∙ rw (m, e) (after-cons (tabulate f i) g x (times rd (n - (i + 1)) p))
      ∙ ap (λ (z : List B). after z g (times rd (n - (i + 1)) p)) l

  pub run-stop : (k : ℕ) → i < n → rd at ≡ fault k → fault k ≡ w
  unfolding times and_then map_read
  run-stop k h e = let m : n - i ≡ suc (n - (i + 1)) = omega arith in sym (v ∙ rw (m, e))

  pub run-done : n ≤ i → got (tabulate f i) at ≡ w
  unfolding times and_then map_read
  run-done h = let m : n - i ≡ 0 = omega arith in sym (v ∙ rw (m, append-nil))

  pub run-ends : i ≡ n → got (tabulate f n) at ≡ w
  run-ends e = rw (← e) (run-done (omega (arith, e)))

map_same : {A : Type 0} (l : List A) → map (λ x. x) l ≡ l
map_same [] = refl
map_same (x ∷ l) = ap (λ z. x ∷ z) (map_same l)

after_none : {A : Type 0} (r : Read (List A)) → r ≡ after [] (λ x. x) r
unfolding map_read
after_none (fault k) = refl
after_none (got x q) = ap (λ z. got z q) (sym (map_same x))

pub run-start : {A : Type 0} (rd : ℕ → Read A) (f : ℕ → A) (n at : ℕ) → times rd n at ≡ after (tabulate f 0) (λ x. x) (times rd (n - 0) at)
unfolding tabulate
run-start rd f n at = rw sub-zero (after_none (times rd n at))

-- texts that were put into arrays
pub stretch-set : (t at len : List ℕ) (i a n : ℕ) → i < length at → i < length len → stretch t (set at i a) (set len i n) i ≡ take n (drop a t)
stretch-set t at len i a n h k = rw (get_or-set_same at i a 0 h, get_or-set_same len i n 0 k)

pub stretch-keep : (t at len : List ℕ) (i a n j : ℕ) → j < i → stretch t (set at i a) (set len i n) j ≡ stretch t at len j
stretch-keep t at len i a n j h = let q : j ≡ i → ⊥ = λ e. omega arith in rw (get_or-set_other at i j a 0 q, get_or-set_other len i j n 0 q)

-- a text of n bytes before p, put into arrays
pub stored-text : (t at len : List ℕ) (i n p : ℕ) {a m : ℕ} → a ≡ p - n → m ≡ n → i < length at → i < length len
    → stretch t (set at i a) (set len i m) i ≡ take n (drop (p - n) t)
stored-text t at len i n p e f h k = stretch-set t at len i _ _ h k ∙ ap₂ (λ a m. take m (drop a t)) e f

pub urn-keep : (t signal at len : List ℕ) (i s a n j : ℕ) → j < i → urn_at t (set signal i s) (set at i a) (set len i n) j ≡ urn_at t signal at len j
urn-keep t signal at len i s a n j h =
    let q : j ≡ i → ⊥ = λ e. omega arith in
    ap₂ tag (get_or-set_other signal i j s 0 q) (stretch-keep t at len i a n j h)

pub stored-urn : (t signal at len : List ℕ) (i s n p : ℕ) {a m : ℕ} → a ≡ p - n → m ≡ n → i < length signal → i < length at → i < length len
    → urn_at t (set signal i s) (set at i a) (set len i m) i ≡ tag s (take n (drop (p - n) t))
stored-urn t signal at len i s n p e f l h k = ap₂ tag (get_or-set_same signal i s 0 l) (stored-text t at len i n p e f h k)

-- what a reading that came through says
pub after-got : {A B : Type 0} (r : Read A) (f : A → ℕ → Read B) (b : B) (q : ℕ) → and_then r f ≡ got b q → (a : A) × (p : ℕ) × (r ≡ got a p) × (f a p ≡ got b q)
unfolding and_then
after-got (fault k) f b q e = let z : ◌≡◌ {A = ℕ} 0 1 = cc in absurd (omega arith)
after-got (got a p) f b q e = (a, p, refl, e)

pub got-list : {A : Type 0} (xs ys : List A) (p q : ℕ) → got xs p ≡ got ys q → xs ≡ ys
got-list xs ys p q e = cc

pub times-length : {A : Type 0} (rd : ℕ → Read A) (n at : ℕ) (xs : List A) (q : ℕ) → times rd n at ≡ got xs q → length xs ≡ n
unfolding times
times-length rd zero at xs q e = ap length (sym (got-list [] xs at q e))
times-length rd (suc n) at xs q e =
    let a = after-got (rd at) (λ x p. and_then (times rd n p) (λ ys q. got (x ∷ ys) q)) xs q e in
    let b = after-got (times rd n a.1) (λ ys q. got (a.0 ∷ ys) q) xs q a.3 in
    let z = got-list (a.0 ∷ b.0) xs b.1 q b.3 in
    ap length (sym z) ∙ ap suc (times-length rd n a.1 b.0 b.1 b.2)

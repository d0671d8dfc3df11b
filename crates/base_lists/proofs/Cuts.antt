-- Laws of lists cut: at a number, and at the first element of a kind.
use Prim.Native.Nat.{ℕ, ◌≤◌, suc, ◌-◌, ◌+◌, ◌<◌}
use mathlib.Core.Path.{◌≡◌, refl, ap, sym, ◌∙◌}
use mathlib.Core.Bool.{true, false, Bool}
use mathlib.Core.List.{List, [], ◌∷◌, ◌++◌}
use native.Mathlib.Nat.{sub_self}
use native.Mathlib.Numerals.{add-one}
use native.Mathlib.Omega.{arith}
use lib.ListN.{length, take, drop, length-drop, get_or, drop_of_length-le}
use lib.Dec.{eqb}
use lib.Seq.{take_all, drop-drop, drop-cons, drop-length, take-nil, drop-append_seam}
use borrow.Author.Tests.{eqb-true}
use Rattle.base_lists.specs.Cuts.{up_to, past, run}
use Rattle.base_lists.proofs.Bools.{by_test}

-- what stands before the first c is so many numbers from the front
pub up_to-take : (c : ℕ) (s : List ℕ) → take (length (up_to c s)) s ≡ up_to c s
unfolding up_to
up_to-take c [] = refl
up_to-take c (x ∷ xs) = by_test (eqb x c) (λ e. simp e) (λ e. simp e (ap (λ (l : List ℕ). x ∷ l) (up_to-take c xs)))

-- it is no longer than the list
pub up_to-le : (c : ℕ) (s : List ℕ) → length (up_to c s) ≤ length s
unfolding up_to
up_to-le c [] = omega arith
up_to-le c (x ∷ xs) = by_test (eqb x c) (λ e. simp e (omega arith)) (λ e. simp e (omega (arith, up_to-le c xs)))

-- what stands after the first c is the rest
pub past-drop : (c : ℕ) (s : List ℕ) → drop (suc (length (up_to c s))) s ≡ past c s
unfolding up_to past
past-drop c [] = refl
past-drop c (x ∷ xs) = by_test (eqb x c) (λ e. simp e) (λ e. simp e (past-drop c xs))

-- so many as there are from a place on, from there: the rest
pub part_end : (s : List ℕ) (a : ℕ) → take (length s - a) (drop a s) ≡ drop a s
part_end s a = take_all (length s - a) (drop a s) (simp length-drop (omega arith))

-- what stands after the first c from a place on
pub past-at : (c : ℕ) (s : List ℕ) (at k : ℕ) → k ≡ length (up_to c (drop at s)) → drop (at + k + 1) s ≡ past c (drop at s)
past-at c s at k e = let q : at + k + 1 ≡ at + suc k = omega arith in rw (q, ← drop-drop (suc k) at s, e) (past-drop c (drop at s))

-- the number at which it ends is c
pub up_to-stop : (c : ℕ) (s : List ℕ) → length (up_to c s) < length s → get_or s (length (up_to c s)) 0 ≡ c
unfolding up_to
up_to-stop c [] h = absurd (omega arith)
up_to-stop c (x ∷ xs) h =
    by_test (eqb x c) (λ e. simp e (eqb-true x c e))
    (λ e. let k : length (up_to c xs) < length xs = omega (arith, simp e at h) in simp e (up_to-stop c xs k))

-- a search for c that meets it
pub up_to-hit : (c : ℕ) (s : List ℕ) (i : ℕ) → i < length s → eqb (get_or s i 0) c ≡ true → length (up_to c (drop i s)) ≡ 0
unfolding up_to
up_to-hit c s i h e = rw (drop-cons s i 0, e)

-- a search for c, one number further
pub up_to-miss : (c : ℕ) (s : List ℕ) (i : ℕ) → i < length s → eqb (get_or s i 0) c ≡ false → length (up_to c (drop i s)) ≡ suc (length (up_to c (drop (i + 1) s)))
unfolding up_to
up_to-miss c s i h e = rw (add-one, drop-cons s i 0, e)

-- a search for c that comes to the end
pub up_to-end : (c : ℕ) (s : List ℕ) (i : ℕ) → length s ≤ i → i ≤ length s → length (up_to c (drop i s)) ≡ 0
unfolding up_to
up_to-end c s i h k = let e : i ≡ length s = omega arith in rw (e, drop-length)

-- a part that begins past the end
pub part_none : (t : List ℕ) (at len n : ℕ) → length t ≤ at → n ≡ length t → take (n - n) (drop n t) ≡ take len (drop at t)
part_none t at len n h e = simp (sub_self, drop_of_length-le t {i = at} h, take-nil)

-- a part that goes to the end or beyond
pub part-all : (t : List ℕ) (at len : ℕ) → length t - at ≤ len → take (length t - at) (drop at t) ≡ take len (drop at t)
part-all t at len h =
    take_all (length t - at) (drop at t) (omega (arith, length-drop at t)) ∙ sym (take_all len (drop at t) (omega (arith, length-drop at t)))

-- a run is no longer than the list
pub run-le : (p : ℕ → Bool) (s : List ℕ) → run p s ≤ length s
unfolding run
run-le p [] = omega arith
run-le p (x ∷ xs) = by_test (p x) (λ e. simp e (omega (arith, run-le p xs))) (λ e. simp e (omega arith))

-- a list from a place on, past its front
pub drop-next : (t : List ℕ) (at : ℕ) (x r : List ℕ) → drop at t ≡ x ++ r → drop (at + length x) t ≡ r
drop-next t at x r e = sym (drop-drop (length x) at t) ∙ ap (drop (length x)) e ∙ drop-append_seam x r

-- a place from which on a list has something lies in it
pub drop-inside : (t : List ℕ) (at b : ℕ) (r : List ℕ) → drop at t ≡ b ∷ r → at < length t
drop-inside t at b r e = omega (arith, length-drop at t, ap length e)

-- the first number of a list from a place on
pub drop_here : (t : List ℕ) (at b : ℕ) (r : List ℕ) → drop at t ≡ b ∷ r → b ≡ get_or t at 0
drop_here t at b r e = let k = drop-cons t at 0 (drop-inside t at b r e) in cc

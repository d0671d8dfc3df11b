-- Discovery over coded states: where the codes of states are told apart and stepped as the states are, it finds the
-- codes of the states, with the same numbers.
use Prim.Native.Nat.{ℕ, zero, suc, ◌≤◌, ◌<◌}
use mathlib.Core.Path.{◌≡◌, refl, sym, ap, ap₂, ◌∙◌}
use mathlib.Core.Bool.{Bool, true, false, cond, ◌||◌}
use mathlib.Core.List.Memᴰ
use mathlib.Core.List.{List, [], ◌∷◌, ◌++◌, map, Memᴰ}
use borrow.Author.Tests.{lt-ltb, le-ltb}
use lib.ListN.{length, get_or, length-map, get_or-map}
use native.Mathlib.Omega.{arith}
use native.Mathlib.Decide.{dec_lt}
use Rattle.base_lists.proofs.Tabulated.{tabulate-same}
use Rattle.base_lists.proofs.Lists.{Exact, mem-at}
use Rattle.base_lists.specs.Lists.{member_by, add_by, index_by}
use Rattle.theory_resolution.specs.Discovery.{expand, turn, discover, targets}
use Rattle.theory_resolution.proofs.Discovery.{expand-all, found, by-turns}

module _ {S R : Type 0} (same : S → S → Bool) (ex : Exact same) (next : S → ℕ → S) (same_code : R → R → Bool) (next_code : R → ℕ → R) (code : S → R) (count : ℕ)
    (P : S → Type 0) (keeps : (s : S) (k : ℕ) → P s → k < count → P (next s k))
    (tests : (a b : S) → P a → P b → same_code (code a) (code b) ≡ same a b)
    (steps : (s : S) (k : ℕ) → P s → k < count → next_code (code s) k ≡ code (next s k)) where
  abbrev All : List S → Type 0
  All l = (s : S) → Memᴰ s l → P s

  member-code : (s : S) (l : List S) → P s → All l → member_by same_code (code s) (map code l) ≡ member_by same s l
  member-code s [] p a = refl
  member-code s (x ∷ l) p a = ap₂ ◌||◌ (tests s x p (a x (Memᴰ.head refl))) (member-code s l p (λ y i. a y (Memᴰ.tail i)))

  index-code : (s : S) (l : List S) → P s → All l → index_by same_code (code s) (map code l) ≡ index_by same s l
  index-code s [] p a = refl
  index-code s (x ∷ l) p a =
      ap₂ (λ b n. cond b zero (suc n)) (tests s x p (a x (Memᴰ.head refl))) (index-code s l p (λ y i. a y (Memᴰ.tail i)))

  map_last : (l : List S) (s : S) → map code (l ++ s ∷ []) ≡ map code l ++ code s ∷ []
  map_last [] s = refl
  map_last (x ∷ l) s = ap (λ z. code x ∷ z) (map_last l s)

  add-code : (l : List S) (s : S) → P s → All l → add_by same_code (map code l) (code s) ≡ map code (add_by same l s)
  add-code l s p a = ap (λ b. cond b (map code l) (map code l ++ code s ∷ [])) (member-code s l p a) ∙ go (member_by same s l)
    where
      go : (b : Bool) → cond b (map code l) (map code l ++ code s ∷ []) ≡ map code (cond b l (l ++ s ∷ []))
      go true = refl
      go false = sym (map_last l s)

  pub expand-code : (s : S) (n : ℕ) (l : List S) → n ≤ count → P s → All l → expand same_code next_code (code s) n (map code l)
      ≡ map code (expand same next s n l)
  unfolding expand
  expand-code s zero l h p a = refl
  expand-code s (suc n) l h p a =
      ap₂ (add_by same_code) (expand-code s n l (omega arith) p a) (steps s n p h)
      ∙ add-code (expand same next s n l) (next s n) (keeps s n p h) (expand-all same ex next P s n l (λ k i. keeps s k p (omega arith)) a)

  module _ (begin : S) (p : P begin) where
    pub discover-all : (n : ℕ) → All (discover same next count begin n)
    discover-all =
        by-turns same ex next count begin (λ i l. All l) (λ s m. rw (Memᴰ.eq_of_singleton m) p)
        (λ i h a. expand-all same ex next P (get_or (found same ex next count begin i) i begin) count (found same ex next count begin i)
        (λ k. keeps (get_or (found same ex next count begin i) i begin) k (a (get_or (found same ex next count begin i) i begin)
        (mem-at (found same ex next count begin i) i begin h))) a)
        (λ i h a. a)

    pub discover-code : (n : ℕ) → discover same_code next_code count (code begin) n ≡ map code (discover same next count begin n)
    unfolding discover
    discover-code zero = refl
    discover-code (suc i) = ap (turn same_code next_code count (code begin) i) (discover-code i) ∙ go (dec_lt i (length l))
      where
        l : List S
        l = discover same next count begin i

        go : Dec (i < length l) → turn same_code next_code count (code begin) i (map code l) ≡ map code (turn same next count begin i l)
        go (yes h) =
            rw (lt-ltb i (length (map code l)) (omega (arith, length-map l code)), lt-ltb i (length l) h, get_or-map code l i begin)
            (expand-code (get_or l i begin) count l (omega arith) (discover-all i (get_or l i begin) (mem-at l i begin h)) (discover-all i))
        go (no h) = rw (le-ltb i (length (map code l)) (omega (arith, length-map l code)), le-ltb i (length l) (omega arith))

  -- a state's targets have the same numbers
  pub targets-code : (l : List S) (s : S) → P s → All l → targets same_code next_code count (map code l) (code s) ≡ targets same next count l s
  targets-code l s p a =
      tabulate-same (λ k. index_by same_code (next_code (code s) k) (map code l)) (λ k. index_by same (next s k) l) count
      (λ k h. ap (λ z. index_by same_code z (map code l)) (steps s k p h) ∙ index-code (next s k) l (keeps s k p h) a)

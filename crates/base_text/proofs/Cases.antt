-- Letter case: laws of texts whose letters are taken as small ones.
use Prim.Native.Nat.{ℕ, zero, suc, ◌+◌, ◌≤◌, ◌<◌}
use mathlib.Core.Path.{◌≡◌, refl, ap, ap₂, sym, ◌∙◌}
use mathlib.Core.Logic.{◌⊎◌, inl, inr}
use mathlib.Core.Bool.{Bool, true, false, cond, not, and-eq-true_iff}
use mathlib.Core.List.{List, [], ◌∷◌, map}
use native.Mathlib.Omega.{arith}
use lib.ListN.{length, get_or, drop}
use lib.Dec.{eqb, ltb, leb}
use borrow.Author.Tests.{eq-eqb, ne_eqb, leb-true, ltb-true}
use Rattle.std.specs.List.{list_any}
use Rattle.std.specs.Char.{is_ascii_uppercase}
use Rattle.std.proofs.lemmas.Bool.Decides.{nat_tests}
use Rattle.std.specs.Prelude.{IsTrue, ◌↔◌}
use Rattle.base_lists.proofs.Bools.{by_test, same_test}
use Rattle.base_lists.specs.Cuts.{up_to, past}
use Rattle.base_lists.specs.Numbers.{within}
use Rattle.theory_resolution.specs.Names.{same_name}
use Rattle.base_text.specs.Text.{on_first, fields, lower, lowered}
use Rattle.base_text.specs.Words.{ends_at}
use Rattle.theory_resolution.proofs.Names.{name-exact}
use Rattle.base_text.proofs.Turns.{same-lengths}

pub lower-out : (x : ℕ) {b : Bool} → b ≡ within 65 90 x → b ≡ false → x ≡ lower x
lower-out x e t = simp (sym e ∙ t)

-- a capital letter, or a byte that stays
pub lower-cases : {P : Type 0} (x : ℕ) → (65 ≤ x → x ≤ 90 → lower x ≡ x + 32 → P) → (within 65 90 x ≡ false → lower x ≡ x → P) → P
lower-cases x f g =
    by_test (within 65 90 x)
    (λ e. let a = (and-eq-true_iff (leb 65 x) (leb x 90)).0 e in f (leb-true 65 x a.0) (leb-true x 90 a.1) (simp e))
    (λ e. g e (simp e))

-- a byte that is no letter is seen through it
pub lower-other : (c x : ℕ) → c < 97 → (c < 65) ⊎ (90 < c) → eqb (lower x) c ≡ eqb x c
lower-other c x h o =
    lower-cases x
    (λ a b e. ne_eqb (lower x) c (λ q. omega arith) ∙ sym (ne_eqb x c (λ q. out o (omega arith) (omega arith))))
    (λ a e. ap (λ z. eqb z c) e)
  where
    out : (c < 65) ⊎ (90 < c) → 65 ≤ c → c ≤ 90 → ⊥
    out (inl l) p q = omega arith
    out (inr l) p q = omega arith

pub lowered-length : (s : List ℕ) → length (lowered s) ≡ length s
unfolding lowered
lowered-length [] = refl
lowered-length (x ∷ s) = ap suc (lowered-length s)

pub lowered-at : (s : List ℕ) (i : ℕ) → i < length s → get_or (lowered s) i 0 ≡ lower (get_or s i 0)
unfolding lowered
lowered-at [] i h = absurd (omega arith)
lowered-at (x ∷ s) zero h = refl
lowered-at (x ∷ s) (suc i) h = lowered-at s i (omega arith)

-- colons stay where they are
pub lowered-up_to : (c : ℕ) → c < 97 → (c < 65) ⊎ (90 < c) → (s : List ℕ) → up_to c (lowered s) ≡ lowered (up_to c s)
unfolding lowered up_to
lowered-up_to c h o [] = refl
lowered-up_to c h o (x ∷ s) =
    by_test (eqb x c)
    (λ e. rw (lower-other c x h o, e))
    (λ e. rw (lower-other c x h o, e) (ap (λ (l : List ℕ). lower x ∷ l) (lowered-up_to c h o s)))

pub lowered-past : (c : ℕ) → c < 97 → (c < 65) ⊎ (90 < c) → (s : List ℕ) → past c (lowered s) ≡ lowered (past c s)
unfolding lowered past
lowered-past c h o [] = refl
lowered-past c h o (x ∷ s) =
    by_test (eqb x c)
    (λ e. rw (lower-other c x h o, e))
    (λ e. rw (lower-other c x h o, e) (lowered-past c h o s))

pub lowered-ends : (w : List ℕ) (n : ℕ) → ends_at (lowered w) n ≡ ends_at w n
unfolding ends_at
lowered-ends w n =
    by_test (ltb n (length w))
    (λ e. rw (lowered-length w, e, lowered-at w n (ltb-true n (length w) e)) (lower-other 58 (get_or w n 0) (omega arith) (inl (omega arith))))
    (λ e. rw (lowered-length w, e))

pub small_same : (s p : List ℕ) (i : ℕ) → i ≤ 0 → drop i (lowered s) ≡ drop i p → true ≡ same_name (lowered s) p
small_same s p zero h v = sym (ap (same_name (lowered s)) (sym v) ∙ name-exact.self (lowered s))
small_same s p (suc i) h v = absurd (omega arith)

pub small-lengths : (s p : List ℕ) → (length p ≡ length s → ⊥) → false ≡ same_name (lowered s) p
small-lengths s p n = same-lengths (lowered s) p (λ e. n (sym e ∙ lowered-length s))

pub lowered-drop : (n : ℕ) (s : List ℕ) → drop n (lowered s) ≡ lowered (drop n s)
unfolding lowered
lowered-drop zero s = refl
lowered-drop (suc n) [] = refl
lowered-drop (suc n) (x ∷ s) = lowered-drop n s

pub lower-twice : (x : ℕ) → lower (lower x) ≡ lower x
lower-twice x =
    lower-cases x
    (λ a b e. ap lower e ∙ lower-cases (x + 32) (λ p q f. absurd (omega arith)) (λ p f. f) ∙ sym e)
    (λ a e. ap lower e)

pub lowered-twice : (s : List ℕ) → lowered (lowered s) ≡ lowered s
unfolding lowered
lowered-twice [] = refl
lowered-twice (x ∷ s) = ap₂ ◌∷◌ (lower-twice x) (lowered-twice s)

-- texts between colons
first-case : (x : ℕ) (l : List (List ℕ)) → on_first (lower x) (map lowered l) ≡ map lowered (on_first x l)
unfolding on_first lowered
first-case x [] = refl
first-case x (f ∷ l) = refl

pub fields-case : (s : List ℕ) → fields 58 (lowered s) ≡ map lowered (fields 58 s)
unfolding fields lowered
fields-case [] = refl
fields-case (x ∷ s) =
    by_test (eqb x 58)
    (λ e. rw (lower-other 58 x (omega arith) (inl (omega arith)), e) (ap (λ l. [] ∷ l) (fields-case s)))
    (λ e. rw (lower-other 58 x (omega arith) (inl (omega arith)), e) (ap (on_first (lower x)) (fields-case s) ∙ first-case x (fields 58 s)))

-- a text of which no byte changes
pub lowered-as-is : (s : List ℕ) → ((k : ℕ) → k < length s → lower (get_or s k 0) ≡ get_or s k 0) → lowered s ≡ s
unfolding lowered
lowered-as-is [] h = refl
lowered-as-is (x ∷ s) h = ap₂ ◌∷◌ (h 0 (omega arith)) (lowered-as-is s (λ k l. h (suc k) (omega arith)))

pub test-as-is : (s : List ℕ) {b : Bool} → b ≡ same_name (lowered s) s → b ≡ true → lowered s ≡ s
test-as-is s e t = name-exact.to (lowered s) s (sym e ∙ t)

-- a text that is taken as it is where a flag says so
pub taken-as-is : (w : List ℕ) {b : Bool} → b ≡ true → cond b w (lowered w) ≡ w
taken-as-is w e = ap (λ b. cond b w (lowered w)) e

pub taken-lowered : (w : List ℕ) {b : Bool} → b ≡ false → cond b w (lowered w) ≡ lowered w
taken-lowered w e = ap (λ b. cond b w (lowered w)) e

-- where the flag is right, that is the text with small letters
pub taken-small : (w : List ℕ) (b : Bool) → (b ≡ true → lowered w ≡ w) → cond b w (lowered w) ≡ lowered w
taken-small w true h = sym (h refl)
taken-small w false h = refl

-- a text whose letters are small ones, byte by byte
pub lowered-map : (s : List ℕ) → map lower s ≡ lowered s
unfolding lowered
lowered-map [] = refl
lowered-map (x ∷ s) = ap (λ (l : List ℕ). lower x ∷ l) (lowered-map s)

-- what a test at one place needs
pub ruleset at_places = (nat_tests, lowered-length, lowered-at)

-- none of the bytes is a capital letter
pub none-capital : (s : List ℕ) → not (list_any is_ascii_uppercase s) ≡ same_name (lowered s) s
unfolding lowered
none-capital [] = refl
none-capital (x ∷ s) = by_test (within 65 90 x)
    (λ e. let n : x + 32 ≡ x → ⊥ = λ q. omega arith in simp (e, ne_eqb (x + 32) x n))
    (λ e. simp (e, eq-eqb x x refl) (none-capital s))

small-all : (s p : List ℕ) → length p ≡ length s → ((k : ℕ) → k < length p → get_or p k 0 ≡ lower (get_or s k 0)) → true ≡ same_name (lowered s) p
unfolding lowered
small-all [] [] e h = refl
small-all [] (y ∷ p) e h = absurd (omega arith)
small-all (x ∷ s) [] e h = absurd (omega arith)
small-all (x ∷ s) (y ∷ p) e h =
    let f : y ≡ lower x = h 0 (omega arith) in
    rw (eq-eqb (lower x) y (sym f)) (small-all s p (omega arith) (λ k l. h (suc k) (omega arith)))

-- two texts of one length, byte by byte
pub small-each : (s p : List ℕ) → length p ≡ length s → (b : Bool) → IsTrue b ↔ ((k : ℕ) → k < length p → get_or p k 0 ≡ lower (get_or s k 0))
    → b ≡ same_name (lowered s) p
small-each s p e b h = same_test b (same_name (lowered s) p)
    (λ t. sym (small-all s p e (h.0 t)))
    (λ t. h.1 (λ k l. sym (sym (lowered-at s k (omega arith)) ∙ ap (λ (x : List ℕ). get_or x k 0) (name-exact.to (lowered s) p t))))

-- Letter case: laws of the forms.
use Prim.Native.Nat.{ℕ, zero, suc, ◌+◌, ◌-◌}
use mathlib.Core.Path.{◌≡◌, refl, ap, ap₂, sym, ◌∙◌}
use mathlib.Core.Logic.{inl}
use mathlib.Core.Bool.{Bool, true, false, not, ◌&&◌, ◌||◌, and-eq-true_iff}
use mathlib.Core.List.{List, [], ◌∷◌, map}
use native.Mathlib.Omega.{arith}
use lib.ListN.{length, get_or, drop}
use lib.Dec.{eqb, leb}
use borrow.Author.Tests.{not-true}
use Rattle.base_numbers.specs.Numbers.{most_label_bytes}
use Rattle.base_lists.proofs.Numbers.{in-range}
use Rattle.base_lists.specs.Cuts.{up_to, past}
use Rattle.base_lists.specs.Tests.{all}
use Rattle.base_lists.specs.Numbers.{within}
use Rattle.base_ascii.specs.Ascii.{bytes}
use Rattle.base_text.specs.Text.{fields, lower, lowered}
use Rattle.urn_names.specs.Names.{label_byte, label_ok, name_ok}
use Rattle.urn_names.specs.Urn.{not_capital, no_capital, begins, rest_ok, alert_urn}
use Rattle.urn_names.specs.Claims.{NoCapitalExactly}
use Rattle.base_text.proofs.Cases.{lower-cases, lower-out, lower-other, lowered-length, lowered-up_to, lowered-past, lowered-drop, lower-twice, fields-case}

label-case : (x : ℕ) → label_byte (lower x) ≡ label_byte x
unfolding label_byte
label-case x =
    lower-cases x
    (λ a b e.
    let i : within 97 122 (lower x) ≡ true = ap (within 97 122) e ∙ in-range 97 122 (x + 32) (omega arith) (omega arith) in
    rw (i, in-range 65 90 x a b) (yes (within 97 122 x)))
    (λ a e. ap label_byte e)
  where
    yes : (b : Bool) → true ≡ (b || true)
    yes true = refl
    yes false = refl

labels-case : (s : List ℕ) → all label_byte (lowered s) ≡ all label_byte s
unfolding lowered all
labels-case [] = refl
labels-case (x ∷ s) = ap₂ ◌&&◌ (label-case x) (labels-case s)

hyphen-case : (s : List ℕ) (i : ℕ) → eqb (get_or (lowered s) i 0) 45 ≡ eqb (get_or s i 0) 45
unfolding lowered
hyphen-case [] i = refl
hyphen-case (x ∷ s) zero = lower-other 45 x (omega arith) (inl (omega arith))
hyphen-case (x ∷ s) (suc i) = hyphen-case s i

label_ok-case : (s : List ℕ) → label_ok (lowered s) ≡ label_ok s
unfolding label_ok
label_ok-case s =
    ap₂ ◌&&◌ (ap (within 1 most_label_bytes) (lowered-length s))
    (ap₂ ◌&&◌ (ap not (hyphen-case s 0))
    (ap₂ ◌&&◌ (ap (λ k. not (eqb (get_or (lowered s) (k - 1) 0) 45)) (lowered-length s) ∙ ap not (hyphen-case s (length s - 1))) (labels-case s)))

name-case : (s : List ℕ) → name_ok (lowered s) ≡ name_ok s
unfolding name_ok
name-case s =
    ap₂ ◌||◌ (label_ok-case s)
    (ap₂ ◌&&◌ (ap label_ok (lowered-up_to 64 (omega arith) (inl (omega arith)) s) ∙ label_ok-case (up_to 64 s))
    (ap label_ok (lowered-past 64 (omega arith) (inl (omega arith)) s) ∙ label_ok-case (past 64 s)))

names-case : (l : List (List ℕ)) → all name_ok (map lowered l) ≡ all name_ok l
unfolding all
names-case [] = refl
names-case (s ∷ l) = ap₂ ◌&&◌ (name-case s) (names-case l)

map-many : (l : List (List ℕ)) → length (map lowered l) ≡ length l
map-many [] = refl
map-many (s ∷ l) = ap suc (map-many l)

rest-case : (s : List ℕ) → rest_ok (lowered s) ≡ rest_ok s
unfolding rest_ok
rest-case s =
    ap₂ ◌&&◌ (ap (λ l. leb 2 (length l)) (fields-case s) ∙ ap (leb 2) (map-many (fields 58 s)))
    (ap (all name_ok) (fields-case s) ∙ names-case (fields 58 s))

begins-case : (w s : List ℕ) → begins w (lowered s) ≡ begins w s
unfolding begins lowered
begins-case [] s = refl
begins-case (x ∷ w) [] = refl
begins-case (x ∷ w) (y ∷ s) = ap₂ ◌&&◌ (ap (λ z. eqb z x) (lower-twice y)) (begins-case w s)

pub alert-case : (uri : List ℕ) → alert_urn (lowered uri) ≡ alert_urn uri
unfolding alert_urn
alert-case uri = ap₂ ◌&&◌ (begins-case (bytes "urn:alert:") uri) (ap rest_ok (lowered-drop 10 uri) ∙ rest-case (drop 10 uri))

small-stays : (s : List ℕ) → no_capital s ≡ true → lowered s ≡ s
unfolding no_capital all lowered
small-stays [] e = refl
small-stays (x ∷ s) e =
    let a = (and-eq-true_iff (not_capital x) (all not_capital s)).0 e in
    ap₂ ◌∷◌ (sym (lower-out x refl (not-true (within 65 90 x) a.0))) (small-stays s a.1)

stays-small : (s : List ℕ) → lowered s ≡ s → no_capital s ≡ true
unfolding no_capital all lowered
stays-small [] e = refl
stays-small (x ∷ s) e =
    let f : lower x ≡ x = cc in
    let g : lowered s ≡ s = cc in
    ap₂ ◌&&◌ (lower-cases x (λ a b h. absurd (omega (arith, sym f ∙ h))) (λ a h. ap not a)) (stays-small s g)

pub no-capital-exactly : NoCapitalExactly
no-capital-exactly s = (small-stays s, stays-small s)

-- Laws of the forms at a turn of a loop: one byte or one name further.
use Prim.Native.Nat.{ℕ, suc, ◌+◌, ◌-◌, ◌≤◌, ◌<◌}
use mathlib.Core.Path.{◌≡◌, refl, ap, sym, ◌∙◌}
use mathlib.Core.Bool.{Bool, true, false, cond, ◌&&◌, and-false, and-true}
use mathlib.Core.List.{List, [], ◌∷◌, ◌++◌}
use Rattle.std.proofs.Common.{Option, None, Some}
use Rattle.std.specs.Option.{MatchOption}
use native.Mathlib.Numerals.{add-one}
use native.Mathlib.Omega.{arith}
use native.Mathlib.Nat.{zero-add}
use lib.ListN.{length, take, drop, length-drop, take-append-drop}
use lib.Seq.{take_all}
use lib.Dec.{eqb, leb}
use lib.Pointwise.{pointwise}
use Rattle.base_lists.proofs.Cuts.{up_to-le, past-drop, part_end}
use Rattle.base_lists.proofs.Bools.{by_test}
use Rattle.base_lists.specs.Cuts.{up_to, past}
use Rattle.base_lists.specs.Tests.{all}
use Rattle.theory_resolution.specs.Names.{same_name}
use Rattle.base_text.specs.Text.{fields, lower, lowered}
use Rattle.urn_names.specs.Names.{name_ok, length_by}
use Rattle.base_ascii.specs.Ascii.{bytes}
use Rattle.urn_names.specs.Urn.{begins, count_by, rest_ok, alert_urn}
use Rattle.base_text.proofs.Fields.{fields-first, fields-more, fields-last}
use Rattle.urn_names.proofs.Runs.{length-bad, length-good}

-- `urn:alert:`, byte by byte
abbrev pub scheme : List ℕ
scheme = 117 ∷ 114 ∷ 110 ∷ 58 ∷ 97 ∷ 108 ∷ 101 ∷ 114 ∷ 116 ∷ 58 ∷ []

pub scheme-bytes : bytes "urn:alert:" ≡ scheme
scheme-bytes = refl

-- a text begins with these letters where its front, with small letters, is they
pub begins-front : (w s : List ℕ) → same_name (lowered (take (length w) s)) w ≡ begins w s
unfolding begins lowered
begins-front [] s = refl
begins-front (x ∷ w) [] = refl
begins-front (x ∷ w) (y ∷ s) = ap (λ b. eqb (lower y) x && b) (begins-front w s)

pub same-pointwise : (a b : List ℕ) → pointwise eqb a b ≡ same_name a b
same-pointwise [] [] = refl
same-pointwise [] (y ∷ b) = refl
same-pointwise (x ∷ a) [] = refl
same-pointwise (x ∷ a) (y ∷ b) = ap (λ c. eqb x y && c) (same-pointwise a b)

-- so it does where the front is they as it stands
pub begins-as_is : (s t : List ℕ) → t ≡ take 10 s → t ≡ scheme → true ≡ begins (bytes "urn:alert:") s
unfolding begins
begins-as_is s t i q =
    let j : s ≡ scheme ++ drop 10 s = sym (take-append-drop 10 s) ∙ ap (λ l. l ++ drop 10 s) (sym i ∙ q) in
    sym (ap (begins (bytes "urn:alert:")) j ∙ ap (λ l. begins l (scheme ++ drop 10 s)) scheme-bytes)

-- the names of a text, with n of them before it
module _ (ok : List ℕ → Bool) where
  unfoldable pub count_from : ℕ → List ℕ → Option ℕ
  count_from n s = cond (all ok (fields 58 s)) (Some (n + length (fields 58 s))) None

  pub count-start : (s : List ℕ) → count_by ok s ≡ count_from 0 s
  unfolding count_by count_from
  count-start s = simp zero-add

  pub count-bad : (n : ℕ) (s : List ℕ) → length_by ok s ≡ None → None ≡ count_from n s
  unfolding count_from all
  count-bad n s e = simp ((fields-first 58 s).1, length-bad ok s e)

  module _ (n k : ℕ) (s : List ℕ) (e : length_by ok s ≡ Some k) where
    pub count-fits : k ≤ length s
    count-fits = omega (arith, (length-good ok s e).1, up_to-le 58 s)

    pub count-last : k ≡ length s → Some (n + 1) ≡ count_from n s
    unfolding count_from all
    count-last h = let g = length-good ok s e in simp (fields-last 58 s (omega arith), g.0)

    pub count-more : (k ≡ length s → ⊥) → count_from n s ≡ count_from (n + 1) (drop (k + 1) s)
    unfolding count_from all
    count-more h =
        let g = length-good ok s e in
        let d : drop (k + 1) s ≡ past 58 s = ap (λ i. drop (i + 1) s) g.1 ∙ ap (λ i. drop i s) (add-one (length (up_to 58 s))) ∙ past-drop 58 s in
        let l = length (fields 58 (past 58 s)) in
        let m : n + suc l ≡ n + 1 + l = omega arith in
        simp (d, fields-more 58 s (omega (arith, g.1, count-fits)), g.0, m)

    -- the rest of a text after its first name
    module _ (h : k ≡ length s → ⊥) where
      pub count-inside : k + 1 ≤ length s
      count-inside = omega (arith, count-fits)

      pub count-shorter : length (take (length s - (k + 1)) (drop (k + 1) s)) < length s
      count-shorter = rw part_end (omega (arith, count-inside, length-drop (k + 1) s))

      pub count-turn : (t : List ℕ) → n + length s ≤ length t → count_by ok t ≡ count_from n s
          → (n + 1 + length (take (length s - (k + 1)) (drop (k + 1) s)) ≤ length t) × (count_by ok t ≡ count_from (n + 1) (take (length s - (k + 1)) (drop (k + 1) s)))
      count-turn t l v = rw part_end (omega (arith, count-inside, length-drop (k + 1) s), v ∙ count-more h)

-- the forms, by the number of names
pub rest-count : (s : List ℕ) {b : Bool} → MatchOption (count_by name_ok s) (b ≡ false) (λ n. b ≡ leb 2 n) → b ≡ rest_ok s
unfolding count_by rest_ok
rest-count s m = by_test (all name_ok (fields 58 s)) (λ t. simp t at m ∙ sym (simp (t, and-true))) (λ t. simp t at m ∙ sym (simp (t, and-false)))

-- the form of a URI
pub alert-other : (uri : List ℕ) {a : Bool} → a ≡ begins (bytes "urn:alert:") uri → a ≡ false → false ≡ alert_urn uri
unfolding alert_urn
alert-other uri e t = simp (sym e ∙ t)

pub alert-rest : (uri s : List ℕ) {a b : Bool} → a ≡ begins (bytes "urn:alert:") uri → a ≡ true → s ≡ take (length uri) (drop 10 uri)
    → b ≡ rest_ok s → b ≡ alert_urn uri
unfolding alert_urn
alert-rest uri s e t i f =
    f ∙ ap rest_ok (i ∙ take_all (length uri) (drop 10 uri) (simp length-drop (omega arith))) ∙ sym (simp (sym e ∙ t))

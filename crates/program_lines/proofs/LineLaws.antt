-- The first mark in a list, and the parts before and after it.
-- Assumes nothing.
use mathlib.Core.Path.{◌≡◌, refl, sym, ap, ◌∙◌}
use mathlib.Core.List.{List, [], ◌∷◌}
use denote.Ref.{Bor}
use lib.Dec.{eqb}
use Rattle.std.specs.List.{slice_get, slice_split, onto_first}
use Rattle.std.specs.Prelude.{Option, Some, None, unwrap_or}
use Rattle.std.specs.Option.{option_map}
use Rattle.std.proofs.lemmas.Option.{unwrap_or-slice_get}
use Rattle.base_lists.proofs.Bools.{by_test}
use Prim.Native.Nat.{ℕ, zero, suc, ◌+◌, ◌-◌, ◌≤◌}
use native.Mathlib.Numerals.{add-one}
use native.Mathlib.Omega.{arith}
use lib.ListN.{length, get_or, take, drop, drop_of_length-le, length-drop}
use lib.Seq.{take_all}
use Rattle.base_lists.proofs.Cuts.{past-drop}
use Rattle.base_lists.specs.Cuts.{up_to, past}
use Rattle.program_lines.specs.Lines.{part_of}

pub drop-short : (m : ℕ) (l : List ℕ) → drop (length (up_to m l) + 1) l ≡ past m l
drop-short m l = ap (λ (n : ℕ). drop n l) (add-one (length (up_to m l))) ∙ past-drop m l

-- what stands after the first mark
pub after-some : (m : ℕ) (l : List ℕ) (at : ℕ) → at ≡ length (up_to m l) → take (length l - (at + 1)) (drop (at + 1) l) ≡ past m l
after-some m l at e =
    take_all (length l - (at + 1)) (drop (at + 1) l) (omega (arith, length-drop (at + 1) l))
    ∙ ap (λ (n : ℕ). drop (n + 1) l) e ∙ drop-short m l

pub after_none : (m : ℕ) (l : List ℕ) (at : ℕ) → at ≡ length (up_to m l) → length l ≤ at → [] ≡ past m l
after_none m l at e h = sym (drop_of_length-le l {i = length (up_to m l) + 1} (omega arith)) ∙ drop-short m l

-- parts
part-none : (m k : ℕ) → part_of m k [] ≡ []
unfolding part_of up_to past
part-none m zero = refl
part-none m (suc k) = part-none m k

onto-here : (x : ℕ) (ps : List (List ℕ)) → get_or (onto_first x ps) 0 [] ≡ x ∷ get_or ps 0 []
onto-here x [] = refl
onto-here x (p ∷ ps) = refl

onto-later : (x : ℕ) (ps : List (List ℕ)) (k : ℕ) → get_or (onto_first x ps) (suc k) [] ≡ get_or ps (suc k) []
onto-later x [] k = refl
onto-later x (p ∷ ps) k = refl

split-part : (m : ℕ) (l : List ℕ) (k : ℕ) → get_or (slice_split (λ b. eqb b m) l) k [] ≡ part_of m k l
unfolding part_of up_to past
split-part m [] zero = refl
split-part m [] (suc k) = sym (part-none m k)
split-part m (x ∷ l) zero =
    by_test (eqb x m) (λ e. simp e) (λ e. simp e (onto-here x (slice_split (λ b. eqb b m) l) ∙ ap (λ p. x ∷ p) (split-part m l zero)))
split-part m (x ∷ l) (suc k) =
    by_test (eqb x m) (λ e. simp e (split-part m l k)) (λ e. simp e (onto-later x (slice_split (λ b. eqb b m) l) k ∙ split-part m l (suc k)))

-- part k, as a search among the parts says it
pub part-found : (m k : ℕ) (l : List ℕ) (r : Option (Bor (List ℕ))) (d : Bor (List ℕ)) → d.now ≡ []
    → option_map (λ x. x.now) r ≡ slice_get (slice_split (λ b. eqb b m) l) k → (unwrap_or r d).now ≡ part_of m k l
part-found m k l r d z e = shown r ∙ ap (λ o. unwrap_or o []) e ∙ unwrap_or-slice_get (slice_split (λ b. eqb b m) l) k [] ∙ split-part m l k
  where
    shown : (o : Option (Bor (List ℕ))) → (unwrap_or o d).now ≡ unwrap_or (option_map (λ x. x.now) o) []
    shown None = z
    shown (Some x) = refl

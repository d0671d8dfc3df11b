-- The reading agrees with the grammar, and each refusal number is given exactly where it is due.
-- Assumes nothing.
use mathlib.Core.Path.{◌≡◌, refl, sym, ap, ◌∙◌, subst}
use mathlib.Core.Bool.{Bool, true, false}
use mathlib.Core.List.{List, map}
use Prim.Native.Nat.{ℕ, zero, suc, ◌≤◌}
use native.Mathlib.Omega.{arith}
use lib.Dec.{ltb}
use lib.ListN.{length, length-map}
use borrow.Author.Tests.{ltb-true, ltb-false}
use Rattle.base_numbers.specs.Numbers.{most_entries, most_value_bytes}
use Rattle.value_cursor.specs.Reading.{Reading, unfit, spans, reading_of}
use Rattle.value_cursor.specs.declared.alert_param.Span.{Span}
use Rattle.value_reader.specs.Value.{part_of, refusal_of}
use Rattle.value_reader.specs.Grammar.{White, Value}
use Rattle.value_reader.specs.Claims.{Agrees, OneReading, UnfitIsNoValue, Given, RefusedExactly, AcceptedList}
use Rattle.value_reader.specs.Claims.{RefusalNumbers, RefusedList}
use Rattle.value_reader.proofs.ValueLaws.{refusal-long, refusal-unfit, refusal-many, refusal-none, accepted-uris}
use Rattle.value_reader.proofs.ValueLaws.{refused-uris}
use Rattle.value_reader.proofs.Sound.{sound}
use Rattle.value_reader.proofs.Complete.{complete}

pub agree : Agrees
agree s us = (complete s us, λ r. subst (Value White s) r.2 (sound s r.0 r.1))

same-spans : (r : Reading) (ps qs : List Span) → r ≡ spans ps → r ≡ spans qs → ps ≡ qs
same-spans r ps qs e f = cc

pub unique : OneReading
unique s us vs k l =
    let a = complete s us k in
    let b = complete s vs l in
    sym a.2 ∙ ap (map (part_of s)) (same-spans (reading_of s) a.0 b.0 a.1 b.1) ∙ b.2

pub misfit : UnfitIsNoValue
misfit s = ((λ e us k. let a = complete s us k in never (reading_of s) a.0 e a.1), λ n. go (reading_of s) refl n)
  where
    never : (r : Reading) (ps : List Span) → r ≡ unfit → r ≡ spans ps → ⊥
    never r ps e f = let z : ◌≡◌ {A = ℕ} 0 1 = cc in omega arith

    go : (r : Reading) → reading_of s ≡ r → ((us : List (List ℕ)) → Value White s us → ⊥) → reading_of s ≡ unfit
    go unfit e n = e
    go (spans ps) e n = absurd (n (map (part_of s) ps) (sound s ps e))

module _ (s : List ℕ) where
  -- the number that is given says what holds
  few : length s ≤ most_value_bytes → (ps : List Span) → reading_of s ≡ spans ps → (x : Bool) → ltb most_entries (length ps) ≡ x
      → Given White s (refusal_of s)
  few short ps e true f =
      let m = ltb-true most_entries (length ps) f in
      subst (Given White s) (sym (refusal-many s short (spans ps) e ps refl m))
      (short, map (part_of s) ps, sound s ps e, omega (arith, length-map ps (part_of s)))
  few short ps e false f =
      let m = ltb-false most_entries (length ps) f in
      subst (Given White s) (sym (refusal-none s short (spans ps) e ps refl m))
      (short, map (part_of s) ps, sound s ps e, omega (arith, length-map ps (part_of s)))

  fits : length s ≤ most_value_bytes → (r : Reading) → reading_of s ≡ r → Given White s (refusal_of s)
  fits short unfit e = subst (Given White s) (sym (refusal-unfit s short unfit e refl)) (short, (misfit s).0 e)
  fits short (spans ps) e = few short ps e (ltb most_entries (length ps)) refl

  holds : (x : Bool) → ltb most_value_bytes (length s) ≡ x → Given White s (refusal_of s)
  holds true f = let h = ltb-true most_value_bytes (length s) f in subst (Given White s) (sym (refusal-long s h)) h
  holds false f = fits (ltb-false most_value_bytes (length s) f) (reading_of s) refl

  -- where it holds, the number is given
  given : (n : ℕ) → Given White s n → refusal_of s ≡ n
  given zero (short, us, k, h) =
      let a = complete s us k in
      refusal-none s short (reading_of s) refl a.0 a.1
      (omega (arith, length-map a.0 (part_of s), ap length a.2))
  given (suc zero) h = refusal-long s h
  given (suc (suc zero)) (short, n) = refusal-unfit s short (reading_of s) refl ((misfit s).1 n)
  given (suc (suc (suc zero))) (short, us, k, h) =
      let a = complete s us k in
      refusal-many s short (reading_of s) refl a.0 a.1
      (omega (arith, length-map a.0 (part_of s), ap length a.2))
  given (suc (suc (suc (suc n)))) h = absurd h

pub refused-exactly : RefusedExactly
refused-exactly s n = ((λ e. subst (Given White s) e (holds s (ltb most_value_bytes (length s)) refl)), given s n)

pub refusal-numbers : RefusalNumbers
refusal-numbers s = go (refusal_of s) (holds s (ltb most_value_bytes (length s)) refl)
  where
    go : (n : ℕ) → Given White s n → n ≤ 3
    go zero g = omega arith
    go (suc zero) g = omega arith
    go (suc (suc zero)) g = omega arith
    go (suc (suc (suc zero))) g = omega arith
    go (suc (suc (suc (suc n)))) g = absurd g

pub accepted-list : AcceptedList
accepted-list s e =
    let g = subst (Given White s) e (holds s (ltb most_value_bytes (length s)) refl) in
    let a = complete s g.1 g.2 in
    let l : length a.0 ≤ most_entries = omega (arith, g.3, length-map a.0 (part_of s), ap length a.2) in
    subst (Value White s) (sym (accepted-uris s g.0 (reading_of s) refl a.0 a.1 l ∙ a.2)) g.2

pub refused-list : RefusedList
refused-list s n = refused-uris s n

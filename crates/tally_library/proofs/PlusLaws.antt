-- A record with one resolution more, test by test in the order of the code.
use mathlib.Core.Path.{◌≡◌, refl, sym, ap, ◌∙◌}
use Prim.Native.Nat.{ℕ, ◌+◌, ◌-◌, ◌≤◌, ◌<◌}
use native.Mathlib.Omega.{arith}
use mathlib.Core.Bool.{Bool, true, false, cond, ◌&&◌}
use lib.Dec.{leb}
use lib.ListN.{length, get_or, set}
use mathlib.Core.List.{List}
use borrow.Author.Tests.{le-leb, lt-leb, lt-ltb, le-ltb, eq-eqb, ne_eqb}
use lib.Seq.{set_out, set-get_or}
use Rattle.std.specs.Prelude.{Some, None}
use Rattle.resolve_run.specs.declared.Resolution.{Resolution}
use Rattle.resolve_library.specs.Resolve.{refused}
use Rattle.tally_library.specs.declared.Tally.{Tally}
use Rattle.tally_library.specs.Tally.{none, most, plus, fits}
use Rattle.tally_library.specs.Steps.{added_of, told_of, kept_of, place_of, answer_at, records_at}

-- all three counts are at most the highest
pub fits_all : (x : Tally) → x.chosen ≤ most → x.used ≤ most → x.skipped ≤ most → fits x ≡ true
unfolding fits
fits_all x a b c = simp (le-leb _ _ a, le-leb _ _ b, le-leb _ _ c)

-- or one is not
both-no : (a b c : Bool) → (b ≡ false) → a && (b && c) ≡ false
both-no true b c e = simp e
both-no false b c e = refl

last-no : (a b c : Bool) → (c ≡ false) → a && (b && c) ≡ false
last-no true true c e = e
last-no true false c e = refl
last-no false b c e = refl

-- a count of the record is full
module _ (x : Tally) (r : Resolution) where
  pub chosen-full : most < x.chosen + 1 → fits (plus x r) ≡ false
  unfolding fits
  chosen-full h = simp (lt-leb (x.chosen + 1) most h)

  pub used-full : most < x.used + r.used → fits (plus x r) ≡ false
  unfolding fits
  used-full h = both-no (leb (x.chosen + 1) most) (leb (x.used + r.used) most) (leb (x.skipped + r.skipped) most) (lt-leb (x.used + r.used) most h)

  pub skipped-full : most < x.skipped + r.skipped → fits (plus x r) ≡ false
  unfolding fits
  skipped-full h = last-no (leb (x.chosen + 1) most) (leb (x.used + r.used) most) (leb (x.skipped + r.skipped) most) (lt-leb (x.skipped + r.skipped) most h)

  pub added-no : fits (plus x r) ≡ false → None ≡ added_of x r
  added-no f = ap (λ (b : Bool). cond b (Some (plus x r)) None) (sym f)

  pub added-yes : fits (plus x r) ≡ true → Some (plus x r) ≡ added_of x r
  added-yes f = ap (λ (b : Bool). cond b (Some (plus x r)) None) (sym f)

  -- and the other way round
  pub fits-some : {y : Tally} → Some y ≡ added_of x r → (fits (plus x r) ≡ true) × (y ≡ plus x r)
  fits-some {y} e = go (fits (plus x r)) refl e
    where
      go : (b : Bool) → fits (plus x r) ≡ b → Some y ≡ cond b (Some (plus x r)) None → (fits (plus x r) ≡ true) × (y ≡ plus x r)
      go true f q = (f, cc)
      go false f q = absurd (let z : ◌≡◌ {A = ℕ} 0 1 = cc in omega (arith, z))

  pub fits-none : None ≡ added_of x r → fits (plus x r) ≡ false
  fits-none e = go (fits (plus x r)) refl e
    where
      go : (b : Bool) → fits (plus x r) ≡ b → None ≡ cond b (Some (plus x r)) None → fits (plus x r) ≡ false
      go true f q = absurd (let z : ◌≡◌ {A = ℕ} 0 1 = cc in omega (arith, z))
      go false f q = f

-- where the record stands
pub place-accepted : (r : Resolution) (n : ℕ) → r.refusal ≡ 0 → r.signal ≡ place_of r n
unfolding place_of
place-accepted r n e = sym (ap (λ (b : Bool). cond b r.signal n) (eq-eqb _ _ e))

pub place-refused : (r : Resolution) (n : ℕ) → (r.refusal ≡ 0 → ⊥) → n ≡ place_of r n
unfolding place_of
place-refused r n h = sym (ap (λ (b : Bool). cond b r.signal n) (ne_eqb _ _ h))

-- what `add` answers and leaves: past the last record, and at one of them
pub add-past : (l : List Tally) (s : ℕ) (r : Resolution) → length l ≤ s → (r ≡ answer_at l s r) × (l ≡ records_at l s r)
unfolding answer_at records_at
add-past l s r h = (sym (ap (λ (b : Bool). cond b (told_of (get_or l s none) r) r) (le-ltb s (length l) h)), sym (set_out l s _ h))

pub add-within : (l : List Tally) (s : ℕ) (r : Resolution) → s < length l
    → (told_of (get_or l s none) r ≡ answer_at l s r) × (set l s (kept_of (get_or l s none) r) ≡ records_at l s r)
unfolding answer_at records_at
add-within l s r h = (sym (ap (λ (b : Bool). cond b (told_of (get_or l s none) r) r) (lt-ltb s (length l) h)), refl)

module _ (l : List Tally) (s : ℕ) (r : Resolution) (h : s < length l) where
  pub add-some : {y : Tally} → Some y ≡ added_of (get_or l s none) r → (r ≡ answer_at l s r) × (set l s y ≡ records_at l s r)
  add-some {y} e =
      let x = get_or l s none in
      let f = fits-some x r e in (
        ap (λ (b : Bool). cond b r (refused 20)) (sym f.0) ∙ (add-within l s r h).0,
        ap (set l s) (f.1 ∙ ap (λ (b : Bool). cond b (plus x r) x) (sym f.0)) ∙ (add-within l s r h).1,
      )

  pub add-none : {a : Resolution} → a ≡ refused 20 → None ≡ added_of (get_or l s none) r → (a ≡ answer_at l s r) × (l ≡ records_at l s r)
  add-none i e =
      let x = get_or l s none in
      let f = fits-none x r e in (
        i ∙ ap (λ (b : Bool). cond b r (refused 20)) (sym f) ∙ (add-within l s r h).0,
        sym (set-get_or l s none) ∙ ap (λ (b : Bool). set l s (cond b (plus x r) x)) (sym f) ∙ (add-within l s r h).1,
      )

-- Each entry's refusal number is given exactly where it is due, what is refused has an empty part, and entries lie where the
-- grammar has them.
-- Assumes nothing.
use mathlib.Core.Path.{◌≡◌, refl, sym, ap, ◌∙◌, subst}
use mathlib.Core.Logic.{◌⊎◌, inl, inr}
use mathlib.Core.Bool.{Bool, true, false}
use mathlib.Core.List.{List, []}
use Prim.Native.Nat.{ℕ, zero, suc, ◌+◌, ◌≤◌, ◌<◌}
use native.Mathlib.Omega.{arith}
use lib.Dec.{ltb, eqb}
use lib.ListN.{length, get_or, length-map, get_or-eq_default}
use borrow.Author.Tests.{ltb-true, ltb-false, eqb-true, eqb-false, eq-eqb, ne_eqb, lt-ltb, le-ltb}
use Rattle.base_numbers.specs.Numbers.{most_entries, most_value_bytes}
use Rattle.value_cursor.specs.Reading.{reading_of}
use Rattle.value_cursor.specs.Pass.{nowhere}
use Rattle.value_cursor.specs.declared.alert_param.Span.{Span}
use Rattle.value_cursor.proofs.ReadingLaws.{reading-start}
use Rattle.value_reader.specs.Value.{part_of, refusal_of, uris_of, spans_of, entries_of, entry_of, span_of, entry_refusal_of}
use Rattle.value_reader.specs.Grammar.{White, Value}
use Rattle.value_reader.specs.Grammar as G
use Rattle.value_reader.specs.Claims.{EntryGiven, there, refused, missing, EntryRefusedExactly}
use Rattle.value_reader.specs.Claims.{EntryRefusalNumbers, RefusedEntry, RefusedPlace, Places, OnePlace}
use Rattle.value_reader.proofs.ValueLaws.{refused-uris, accepted-spans, entries-spans}
use Rattle.value_reader.proofs.Agree.{unique, refused-exactly, refusal-numbers, accepted-list}
use Rattle.value_reader.proofs.Complete.{complete-places}
use Rattle.value_reader.proofs.Place.{starts-after}

-- a value's list by the grammar is its list
same-list : (s : List ℕ) (us : List (List ℕ)) → length s ≤ most_value_bytes → Value White s us → length us ≤ most_entries
    → (refusal_of s ≡ 0) × (uris_of s ≡ us)
same-list s us short v few =
    let e = (refused-exactly s 0).1 (short, us, v, few) in (e, unique s (uris_of s) us (accepted-list s e) v)

-- an accepted value's list by the grammar, with the limits
its-list : (s : List ℕ) → refusal_of s ≡ 0 → (length s ≤ most_value_bytes) × Value White s (uris_of s) × (length (uris_of s) ≤ most_entries)
its-list s e =
    let g = (refused-exactly s 0).0 e in
    let v = accepted-list s e in
    (g.0, v, subst (λ (us : List (List ℕ)). length us ≤ most_entries) (unique s g.1 (uris_of s) g.2 v) g.3)

module _ (s : List ℕ) (k : ℕ) where
  -- a value with an entry is accepted
  has-entry : k < entries_of s → refusal_of s ≡ 0
  unfolding entries_of
  has-entry h = go (eqb (refusal_of s) 0) refl
    where
      go : (x : Bool) → eqb (refusal_of s) 0 ≡ x → refusal_of s ≡ 0
      go true e = eqb-true (refusal_of s) 0 e
      go false e = absurd (omega (arith, ap length (refused-uris s (eqb-false (refusal_of s) 0 e))))

  -- the entry's number, by the tests of its definition
  is-there : refusal_of s ≡ 0 → k < entries_of s → entry_refusal_of s k ≡ 0
  unfolding entry_refusal_of
  is-there e h = simp (eq-eqb _ _ e, lt-ltb _ _ h)

  is-missing : refusal_of s ≡ 0 → entries_of s ≤ k → entry_refusal_of s k ≡ 18
  unfolding entry_refusal_of
  is-missing e h = simp (eq-eqb _ _ e, le-ltb _ _ h)

  is-refused : (refusal_of s ≡ 0 → ⊥) → entry_refusal_of s k ≡ refusal_of s
  unfolding entry_refusal_of
  is-refused n = simp (ne_eqb _ _ n)

  -- the number that is given says what holds
  accepted-given : refusal_of s ≡ 0 → (x : Bool) → ltb k (entries_of s) ≡ x → EntryGiven White s k (entry_refusal_of s k)
  unfolding entries_of
  accepted-given e true f =
      let l = its-list s e in
      let h = ltb-true k (entries_of s) f in
      subst (EntryGiven White s k) (sym (is-there e h)) (there l.0 l.1 l.2 h)
  accepted-given e false f =
      let l = its-list s e in
      let h = ltb-false k (entries_of s) f in
      subst (EntryGiven White s k) (sym (is-missing e h)) (missing l.0 l.1 l.2 h)

  refused-given : (n : ℕ) → refusal_of s ≡ n → (n ≡ 0 → ⊥) → EntryGiven White s k n
  refused-given zero e z = absurd (z refl)
  refused-given (suc n) e z = refused ((refused-exactly s (suc n)).0 e)

  is-given : (x : Bool) → eqb (refusal_of s) 0 ≡ x → EntryGiven White s k (entry_refusal_of s k)
  is-given true e = accepted-given (eqb-true (refusal_of s) 0 e) (ltb k (entries_of s)) refl
  is-given false e =
      let n = eqb-false (refusal_of s) 0 e in
      subst (EntryGiven White s k) (sym (is-refused n)) (refused-given (refusal_of s) refl n)

  -- where it holds, the number is given
  given_is : {n : ℕ} → EntryGiven White s k n → entry_refusal_of s k ≡ n
  unfolding entries_of
  given_is (there {us = us} short v few h) =
      let l = same-list s us short v few in
      is-there l.0 (omega (arith, ap length l.1))
  given_is (refused {n = n} g) =
      let e = (refused-exactly s (suc n)).1 g in
      is-refused (λ z. omega arith) ∙ e
  given_is (missing {us = us} short v few h) =
      let l = same-list s us short v few in
      is-missing l.0 (omega (arith, ap length l.1))

pub entry-refused-exactly : EntryRefusedExactly
entry-refused-exactly s k n = ((λ e. subst (EntryGiven White s k) e (is-given s k (eqb (refusal_of s) 0) refl)), given_is s k)

pub entry-refusal-numbers : EntryRefusalNumbers
entry-refusal-numbers s k = go (entry_refusal_of s k) refl (is-given s k (eqb (refusal_of s) 0) refl)
  where
    go : (n : ℕ) → entry_refusal_of s k ≡ n → EntryGiven White s k n → (n ≤ 3) ⊎ (n ≡ 18)
    go _ e (there a b c d) = inl (omega arith)
    go _ e (refused {n = n} g) = inl (omega (arith, (refused-exactly s (suc n)).1 g, refusal-numbers s))
    go _ e (missing a b c d) = inr refl

-- no URI of a value is empty
not-empty : {s : List ℕ} {us : List (List ℕ)} → Value White s us → (k : ℕ) → k < length us → get_or us k [] ≡ [] → ⊥
not-empty (G.last a (G.entry (G.some t u) p) c) zero h e = omega (arith, ap length e)
not-empty (G.last a b c) (suc k) h e = omega arith
not-empty (G.comma a (G.entry (G.some t u) p) c v) zero h e = omega (arith, ap length e)
not-empty (G.comma a b c v) (suc k) h e = not-empty v k (omega arith) e

-- a refused entry is none of the value's
not_there : (s : List ℕ) (k : ℕ) → (entry_refusal_of s k ≡ 0 → ⊥) → entries_of s ≤ k
not_there s k n = go (ltb k (entries_of s)) refl
  where
    go : (x : Bool) → ltb k (entries_of s) ≡ x → entries_of s ≤ k
    go true f = let h = ltb-true k (entries_of s) f in absurd (n (is-there s k (has-entry s k h) h))
    go false f = ltb-false k (entries_of s) f

pub refused-entry : RefusedEntry
unfolding entries_of entry_of
refused-entry s k = ((λ n. get_or-eq_default (uris_of s) [] (not_there s k n)), λ e z. go z e ((entry-refused-exactly s k 0).0 z))
  where
    go : entry_refusal_of s k ≡ 0 → get_or (uris_of s) k [] ≡ [] → EntryGiven White s k 0 → ⊥
    go z e (there {us = us} short v few h) =
        let l = same-list s us short v few in
        not-empty v k h (ap (λ (x : List (List ℕ)). get_or x k []) (sym l.1) ∙ e)

pub refused-place : RefusedPlace
unfolding span_of
refused-place s k n = get_or-eq_default (spans_of s) nowhere (omega (arith, not_there s k n, entries-spans s))

pub places : Places
unfolding entries_of entry_of span_of
places s k h =
    let l = its-list s (has-entry s k h) in
    let c = complete-places s (uris_of s) l.1 in
    let few : length c.0 ≤ most_entries = omega (arith, l.2, length-map c.0 (part_of s), ap length c.2) in
    let p = c.3 k h in
    let q : 0 + length p.0 ≡ length p.0 = omega arith in (
      p.0,
      p.1,
      p.2,
      p.3,
      ap (λ (ps : List Span). get_or ps k nowhere) (accepted-spans s l.0 (reading_of s) refl c.0 c.1 few) ∙ p.4
          ∙ (λ i. record { start = q i; len = length (get_or (uris_of s) k []) }),
    )

pub one_place : OnePlace
unfolding span_of
one_place s k a b h before e =
    let l = its-list s (has-entry s k h) in
    let c = complete-places s (uris_of s) l.1 in
    let few : length c.0 ≤ most_entries = omega (arith, l.2, length-map c.0 (part_of s), ap length c.2) in
    let q : 0 + length a ≡ length a = omega arith in
    ap (λ (ps : List Span). (get_or ps k nowhere).start) (accepted-spans s l.0 (reading_of s) refl c.0 c.1 few)
    ∙ starts-after s before 0 (omega arith) b e c.0 (sym (reading-start s) ∙ c.1) ∙ q

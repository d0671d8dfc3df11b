-- What the pass over a value gives is judged as `Value` has it.
-- Assumes nothing.
use mathlib.Core.Path.{◌≡◌, refl, sym, ap, ◌∙◌, subst}
use mathlib.Core.List.{List}
use Prim.Native.Nat.{ℕ, ◌+◌, ◌-◌, ◌≤◌, ◌<◌}
use native.Mathlib.Omega.{arith}
use lib.Dec.{ltb}
use lib.ListN.{length, get_or, drop, take}
use borrow.Author.Tests.{ne_eqb, lt-ltb, le-ltb, ltb-true, ltb-false}
use Rattle.std.specs.Prelude.{Option, Some, None, Result, Ok, Err}
use Rattle.base_numbers.specs.Numbers.{most_entries, most_value_bytes}
use Rattle.base_numbers.specs.Refusals.{refusal_number}
use Rattle.base_numbers.specs.declared.refusal.Refusal.{Refusal}
use Rattle.base_numbers.specs.declared.refusal.Refusal.TheVariants.{ValueTooLong, ValueMisfit, TooManyEntries}
use Rattle.base_numbers.proofs.Refusals.{refusal-some}
use Rattle.value_cursor.specs.Reading.{Reading, unfit, spans, reading_of}
use Rattle.value_cursor.specs.Pass.{nowhere, note_all, summary, blank, scan_of}
use Rattle.value_cursor.specs.declared.alert_param.Span.{Span}
use Rattle.value_cursor.specs.declared.pass.Scan.{Scan}
use Rattle.value_cursor.proofs.Lands.{SpanIn}
use Rattle.value_cursor.proofs.RunLaws.{by-test}
use Rattle.value_cursor.proofs.PassLaws.{all-entries, all-span}
use Rattle.value_reader.specs.Value.{refusal_of, entries_of, entry_of, spans_of, span_of, entry_refusal_of}
use Rattle.value_reader.specs.Judged.{judged_reading, judged_of}
use Rattle.value_reader.proofs.ValueLaws.{refusal-long, refused-spans, refusal-unfit, refusal-many, refusal-none}
use Rattle.value_reader.proofs.ValueLaws.{accepted-spans, span-in, span-entry, entries-spans}

module _ (s : List ℕ) (k : ℕ) where
  -- what is answered of an accepted value
  abbrev answer : Scan
  answer = record { entries = length (spans_of s); span = span_of s k }

  -- the judge's steps
  pub judged-long : most_value_bytes < length s → Err ValueTooLong ≡ judged_of s k
  unfolding judged_of
  judged-long h = sym (simp (lt-ltb _ _ h))

  module _ (short : length s ≤ most_value_bytes) where
    judged-short : (r : Reading) → reading_of s ≡ r → judged_of s k ≡ judged_reading r answer
    unfolding judged_of
    judged-short r e = simp (le-ltb _ _ short) (ap (λ (x : Reading). judged_reading x answer) e)

    scan-short : (r : Reading) → reading_of s ≡ r → scan_of s k ≡ summary k blank r
    unfolding scan_of
    scan-short r e = ap (summary k blank) e

    misfit : (r : Reading) → reading_of s ≡ r → summary k blank r ≡ None → Err ValueMisfit ≡ judged_of s k
    misfit unfit e f = sym (judged-short unfit e)
    misfit (spans ps) e f = absurd (let z : ◌≡◌ {A = ℕ} 0 1 = cc in omega arith)

    pub judged-misfit : (o : Option Scan) → o ≡ scan_of s k → o ≡ None → Err ValueMisfit ≡ judged_of s k
    judged-misfit o is f = misfit (reading_of s) refl (sym (scan-short (reading_of s) refl) ∙ sym is ∙ f)

    module _ (t : Scan) where
      many : (r : Reading) → reading_of s ≡ r → summary k blank r ≡ Some t → most_entries < t.entries → Err TooManyEntries ≡ judged_of s k
      many unfit e f h = absurd (let z : ◌≡◌ {A = ℕ} 0 1 = cc in omega arith)
      many (spans ps) e f h =
          let q : note_all k blank ps ≡ t = cc in
          let n : most_entries < length ps = omega (arith, all-entries k blank ps, ap (λ (x : Scan). x.entries) q) in
          sym (judged-short (spans ps) e ∙ simp (lt-ltb _ _ n))

      fine : (r : Reading) → reading_of s ≡ r → summary k blank r ≡ Some t → t.entries ≤ most_entries → Ok t ≡ judged_of s k
      unfolding span_of
      fine unfit e f h = absurd (let z : ◌≡◌ {A = ℕ} 0 1 = cc in omega arith)
      fine (spans ps) e f h =
          let q : note_all k blank ps ≡ t = cc in
          let g : length ps ≤ most_entries = omega (arith, all-entries k blank ps, ap (λ (x : Scan). x.entries) q) in
          let y = accepted-spans s short (spans ps) e ps refl g in
          let n : (note_all k blank ps).entries ≡ length ps = omega (arith, all-entries k blank ps) in
          let p = all-span k blank ps k (omega arith) in
          let a : note_all k blank ps ≡ answer = simp y (λ i. record { entries = n i; span = p i }) in
          ap Ok (sym q ∙ a) ∙ sym (judged-short (spans ps) e ∙ simp (le-ltb _ _ g))

      -- from what the pass gave
      module _ (o : Option Scan) (is : o ≡ scan_of s k) (f : o ≡ Some t) where
        pub judged-many : most_entries < t.entries → Err TooManyEntries ≡ judged_of s k
        judged-many h = many (reading_of s) refl (sym (scan-short (reading_of s) refl) ∙ sym is ∙ f) h

        pub judged-fine : t.entries ≤ most_entries → Ok t ≡ judged_of s k
        judged-fine h = fine (reading_of s) refl (sym (scan-short (reading_of s) refl) ∙ sym is ∙ f) h

  -- what an answer says of the value
  abbrev Says : Result Scan Refusal → Type 0
  Says (Ok t) = (refusal_of s ≡ 0) × (t ≡ answer)
  Says (Err r) = refusal_number r ≡ refusal_of s

  says-reading : length s ≤ most_value_bytes → (r : Reading) → reading_of s ≡ r → Says (judged_reading r answer)
  unfolding refusal_number
  says-reading h unfit e = sym (refusal-unfit s h unfit e refl)
  says-reading h (spans ps) e =
      by-test Says (ltb most_entries (length ps)) (Err TooManyEntries) (Ok answer)
      (λ m. sym (refusal-many s h (spans ps) e ps refl (ltb-true _ _ m)))
      (λ m. (refusal-none s h (spans ps) e ps refl (ltb-false _ _ m), refl))

  says : Says (judged_of s k)
  unfolding judged_of refusal_number
  says =
      by-test Says (ltb most_value_bytes (length s)) (Err ValueTooLong) (judged_reading (reading_of s) answer)
      (λ m. sym (refusal-long s (ltb-true _ _ m)))
      (λ m. says-reading (ltb-false _ _ m) (reading_of s) refl)

  -- what the public functions take from an accepted value
  module _ (t : Scan) (is : Ok t ≡ judged_of s k) where
    ok-says : (refusal_of s ≡ 0) × (t ≡ answer)
    ok-says = subst Says (sym is) says

    pub accepted : 0 ≡ refusal_of s
    accepted = sym ok-says.0

    pub entries-of : t.entries ≡ entries_of s
    entries-of = ap (λ (x : Scan). x.entries) ok-says.1 ∙ sym (entries-spans s)

    pub span-of : t.span ≡ span_of s k
    span-of = ap (λ (x : Scan). x.span) ok-says.1

    pub entry-there : k < t.entries → 0 ≡ entry_refusal_of s k
    unfolding entry_refusal_of
    entry-there h = let q = ok-says.0 in let e = entries-of in simp (q, ← e, lt-ltb _ _ h)

    pub entry-missing : t.entries ≤ k → 18 ≡ entry_refusal_of s k
    unfolding entry_refusal_of
    entry-missing h = let q = ok-says.0 in let e = entries-of in simp (q, ← e, le-ltb _ _ h)

  -- and from a refused one
  module _ (r : Refusal) (is : Err r ≡ judged_of s k) where
    pub refused-by : refusal_number r ≡ refusal_of s
    refused-by = subst Says (sym is) says

    some : refusal_of s ≡ 0 → ⊥
    some z = omega (arith, refused-by, refusal-some r)

    pub no-entries : 0 ≡ entries_of s
    no-entries = sym (entries-spans s ∙ ap length (refused-spans s some))

    pub no-span : nowhere ≡ span_of s k
    unfolding span_of
    no-span = sym (ap (λ (l : List Span). get_or l k nowhere) (refused-spans s some))

    pub entry-refused : refusal_number r ≡ entry_refusal_of s k
    unfolding entry_refusal_of
    entry-refused = refused-by ∙ sym (simp (ne_eqb _ _ some))

-- the part at a place
module _ (s : List ℕ) (k : ℕ) (p : Span) (is : p ≡ span_of s k) where
  pub span_fits : p.start + p.len ≤ length s
  span_fits = subst (SpanIn s) (sym is) (span-in s k)

  pub entry-of : take (p.start + p.len - p.start) (drop p.start s) ≡ entry_of s k
  entry-of =
      let n : p.start + p.len - p.start ≡ p.len = omega arith in
      ap (λ (m : ℕ). take m (drop p.start s)) n ∙ ap (λ (x : Span). take x.len (drop x.start s)) is ∙ span-entry s k

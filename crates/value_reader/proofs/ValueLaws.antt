-- What a value's length and its reading say about the answers.
-- Assumes nothing.
use mathlib.Core.Path.{◌≡◌, sym, ap, ◌∙◌}
use mathlib.Core.Bool.{Bool, true, false, cond}
use mathlib.Core.List.{List, [], ◌∷◌, map}
use Prim.Native.Nat.{ℕ, zero, suc, ◌≤◌, ◌<◌}
use native.Mathlib.Omega.{arith}
use lib.Dec.{eqb}
use lib.ListN.{length, get_or, length-map, get_or-map}
use borrow.Author.Tests.{ne_eqb, lt-ltb, le-ltb}
use Rattle.base_numbers.specs.Numbers.{most_entries, most_value_bytes}
use Rattle.value_cursor.specs.Reading.{Reading, unfit, spans, reading_from, reading_of}
use Rattle.value_cursor.specs.Pass.{nowhere}
use Rattle.value_cursor.specs.declared.alert_param.Span.{Span}
use Rattle.value_cursor.proofs.Lands.{SpanIn}
use Rattle.value_cursor.proofs.ReadingLaws.{Within, ReadingIn, reading-in}
use Rattle.value_reader.specs.Value.{reading_refusal, refusal_of, spans_in, spans_of, part_of, uris_of, entries_of}
use Rattle.value_reader.specs.Value.{entry_of, span_of}

-- the answers, from the value's length and its reading
module _ (s : List ℕ) where
  pub refusal-long : most_value_bytes < length s → refusal_of s ≡ 1
  unfolding refusal_of
  refusal-long h = simp (lt-ltb _ _ h)

  pub refused-spans : (refusal_of s ≡ 0 → ⊥) → spans_of s ≡ []
  unfolding spans_of
  refused-spans n = simp (ne_eqb (refusal_of s) 0 n)

  pub refused-uris : (refusal_of s ≡ 0 → ⊥) → uris_of s ≡ []
  unfolding uris_of
  refused-uris n = ap (map (part_of s)) (refused-spans n)

  module _ (short : length s ≤ most_value_bytes) (r : Reading) (is : reading_of s ≡ r) where
    pub refusal-short : refusal_of s ≡ reading_refusal r
    unfolding refusal_of
    refusal-short = simp (le-ltb most_value_bytes (length s) short) (ap reading_refusal is)

    pub refusal-unfit : r ≡ unfit → refusal_of s ≡ 2
    refusal-unfit e = refusal-short ∙ ap reading_refusal e

    module _ (ps : List Span) (read : r ≡ spans ps) where
      pub refusal-many : most_entries < length ps → refusal_of s ≡ 3
      refusal-many h = refusal-short ∙ ap reading_refusal read ∙ simp (lt-ltb most_entries (length ps) h)

      module _ (few : length ps ≤ most_entries) where
        pub refusal-none : refusal_of s ≡ 0
        refusal-none = refusal-short ∙ ap reading_refusal read ∙ simp (le-ltb most_entries (length ps) few)

        pub accepted-spans : spans_of s ≡ ps
        unfolding spans_of
        accepted-spans = simp refusal-none (ap spans_in (is ∙ read))

        pub accepted-uris : uris_of s ≡ map (part_of s) ps
        unfolding uris_of
        accepted-uris = ap (map (part_of s)) accepted-spans

  spans-in : (r : Reading) → ReadingIn s r → Within s (spans_in r)
  spans-in unfit l = tt
  spans-in (spans ps) l = l

  pub accepted-in : Within s (spans_of s)
  unfolding spans_of reading_of
  accepted-in = go (eqb (refusal_of s) 0)
    where
      go : (b : Bool) → Within s (cond b (spans_in (reading_from s 0)) [])
      go true = spans-in (reading_from s 0) (reading-in s 0)
      go false = tt

  span-at : (ps : List Span) (k : ℕ) → Within s ps → SpanIn s (get_or ps k nowhere)
  span-at [] k w = omega arith
  span-at (p ∷ ps) zero w = w.0
  span-at (p ∷ ps) (suc k) w = span-at ps k w.1

  -- the part that is answered for entry k lies within the value, and is the URI of entry k
  pub span-in : (k : ℕ) → SpanIn s (span_of s k)
  unfolding span_of
  span-in k = span-at (spans_of s) k accepted-in

  pub span-entry : (k : ℕ) → part_of s (span_of s k) ≡ entry_of s k
  unfolding entry_of uris_of span_of
  span-entry k = sym (get_or-map (part_of s) (spans_of s) k nowhere)

  pub entries-spans : entries_of s ≡ length (spans_of s)
  unfolding entries_of uris_of
  entries-spans = length-map (spans_of s) (part_of s)

-- Each refusal number is given to some value and to some entry, by computation; values without folded lines.
-- Assumes nothing.
use mathlib.Core.Path.{◌≡◌, refl, sym, subst, ◌∙◌}
use mathlib.Core.Logic.{inl, inr}
use mathlib.Core.Bool.{Bool, true, ◌&&◌, and-eq-true_iff}
use mathlib.Core.List.{List, [], ◌∷◌}
use Prim.Native.Nat.{ℕ, zero, suc}
use native.Mathlib.Omega.{arith}
use lib.Dec.{T}
use lib.ListN.{replicate, length-replicate}
use Rattle.base_lists.specs.Cuts.{run}
use Rattle.base_ascii.specs.Ascii.{bytes}
use Rattle.value_cursor.specs.Bytes.{is_blank, is_escapable, is_text, is_token, is_uri}
use Rattle.value_cursor.specs.Parts.{blank_at, ending_at, ending_step, entry_at, following_at, param_at, quote_at, quoted_at, quoted_from, quoted_step}
use Rattle.value_cursor.specs.Parts.{setting_at, token_at, white_at, white_step}
use Rattle.value_cursor.specs.Walk.{run_at, walk, walk_at}
use Rattle.value_cursor.specs.Reading.{reading_from, reading_of, value_step}
use Rattle.value_reader.specs.Value.{refusal_of, spans_of, uris_of, entries_of, entry_refusal_of}
use Rattle.value_reader.specs.Grammar.{Any, Blanks, Value}
use Rattle.value_reader.specs.Grammar as G
use Rattle.value_reader.specs.Claims.{refused, not_cr, Unfolded, EachNumber, EachEntryNumber}
use Rattle.value_reader.specs.Examples.{entries_more, on_one_line, Examples}
use Rattle.value_reader.proofs.ValueLaws.{refusal-long}
use Rattle.value_reader.proofs.Agree.{refused-exactly}
use Rattle.value_reader.proofs.EntryLaws.{entry-refused-exactly}
use Rattle.value_reader.proofs.Unfolded.{as_before}

-- 64 entries are accepted, 65 are not
accepted : refusal_of (entries_more 63) ≡ 0
unfolding is_blank is_escapable is_text is_token is_uri blank_at ending_at ending_step entry_at following_at param_at quote_at quoted_at quoted_from
    quoted_step setting_at token_at white_at white_step reading_from reading_of refusal_of spans_of uris_of value_step run run_at walk walk_at
accepted = refl

many : refusal_of (entries_more 64) ≡ 3
unfolding is_blank is_escapable is_text is_token is_uri blank_at ending_at ending_step entry_at following_at param_at quote_at quoted_at quoted_from
    quoted_step setting_at token_at white_at white_step reading_from reading_of refusal_of spans_of uris_of value_step run run_at walk walk_at
many = refl

empty : refusal_of [] ≡ 2
unfolding is_blank blank_at entry_at white_at white_step reading_from reading_of refusal_of value_step walk walk_at
empty = refl

-- one entry: number 0 is there, number 1 is not
first : entry_refusal_of (bytes "<a>") 0 ≡ 0
unfolding is_blank is_escapable is_text is_token is_uri blank_at ending_at ending_step entry_at following_at param_at quote_at quoted_at quoted_from
    quoted_step setting_at token_at white_at white_step reading_from reading_of refusal_of spans_of uris_of value_step run run_at walk walk_at entries_of entry_refusal_of
first = refl

second : entry_refusal_of (bytes "<a>") 1 ≡ 18
unfolding is_blank is_escapable is_text is_token is_uri blank_at ending_at ending_step entry_at following_at param_at quote_at quoted_at quoted_from
    quoted_step setting_at token_at white_at white_step reading_from reading_of refusal_of spans_of uris_of value_step run run_at walk walk_at entries_of entry_refusal_of
second = refl

pub each_number : EachNumber
each_number zero h = (entries_more 63, accepted)
each_number (suc zero) h = (replicate 4097 0, refusal-long (replicate 4097 0) (omega (arith, length-replicate {A = ℕ} 4097 0)))
each_number (suc (suc zero)) h = ([], empty)
each_number (suc (suc (suc zero))) h = (entries_more 64, many)
each_number (suc (suc (suc (suc n)))) h = absurd (omega arith)

pub each-entry-number : EachEntryNumber
each-entry-number zero h = (bytes "<a>", 0, first)
each-entry-number (suc n) (inl h) =
    let v = each_number (suc n) h in
    (v.0, 0, (entry-refused-exactly v.0 0 (suc n)).1 (refused ((refused-exactly v.0 (suc n)).0 v.1)))
each-entry-number (suc n) (inr e) = (bytes "<a>", 1, second ∙ sym e)

-- bytes of which each passes a test
abbrev every : (ℕ → Bool) → List ℕ → Bool
every p [] = true
every p (b ∷ l) = p b && every p l

any-every : (p : ℕ → Bool) (l : List ℕ) → every p l ≡ true → Any p l
any-every p [] e = G.none
any-every p (b ∷ l) e =
    let a = (and-eq-true_iff (p b) (every p l)).0 e in
    G.more (subst T (sym a.0) tt) (any-every p l a.1)

one_line : Unfolded on_one_line
one_line = any-every not_cr on_one_line refl

-- the value is accepted, and these are its URIs
line_read : (refusal_of on_one_line ≡ 0) × (uris_of on_one_line ≡ bytes "urn:a" ∷ bytes "http://b/?c" ∷ [])
unfolding is_blank is_escapable is_text is_token is_uri blank_at ending_at ending_step entry_at following_at param_at quote_at quoted_at quoted_from
    quoted_step setting_at token_at white_at white_step reading_from reading_of refusal_of spans_of uris_of value_step run run_at walk walk_at
line_read = (refl, refl)

line-accepted : Value Blanks on_one_line (bytes "urn:a" ∷ bytes "http://b/?c" ∷ [])
line-accepted = subst (Value Blanks on_one_line) line_read.1 ((as_before on_one_line one_line).1 line_read.0)

pub examples : Examples
unfolding is_blank
examples = record { unfolded = one_line; accepted = line-accepted; before = no-fold }
  where
    no-fold : Blanks (bytes "\r\n ") → ⊥
    no-fold (G.more n k) = n

-- All that is answered about a value and one of its entries. Only private functions promise this; the public answers are
-- in `Value`.
-- Assumes nothing.
use Rattle.std.specs.Prelude.{ℕ, cond, List, length, ltb, Result, Ok, Err}
use Rattle.base_numbers.specs.Numbers.{most_entries, most_value_bytes}
use Rattle.base_numbers.specs.declared.refusal.Refusal.{Refusal}
use Rattle.base_numbers.specs.declared.refusal.Refusal.TheVariants.{ValueTooLong, ValueMisfit, TooManyEntries}
use Rattle.value_cursor.specs.Reading.{Reading, unfit, spans, reading_of}
use Rattle.value_cursor.specs.declared.pass.Scan.{Scan}
use Rattle.value_reader.specs.Value.{spans_of, span_of}

-- a value that does not fit or has too many entries is refused; of another this is answered
abbrev pub judged_reading : Reading → Scan → Result Scan Refusal
judged_reading unfit t = Err ValueMisfit
judged_reading (spans ps) t = cond (ltb most_entries (length ps)) (Err TooManyEntries) (Ok t)

-- the whole answer about a value and its entry k: why it is refused, or its entries and where the URI of entry k lies
unfoldable pub judged_of : List ℕ → ℕ → Result Scan Refusal
judged_of s k =
    cond (ltb most_value_bytes (length s)) (Err ValueTooLong)
    (judged_reading (reading_of s) (record { entries = length (spans_of s); span = span_of s k }))

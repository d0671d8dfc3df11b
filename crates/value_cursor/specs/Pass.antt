-- One pass over a value that counts its entries and keeps the place of one of them.
-- Assumes nothing.
use Rattle.std.specs.Prelude.{ℕ, ◌+◌, cond, Option, Some, None, List, [], ◌∷◌, eqb}
use Rattle.value_cursor.specs.Reading.{Reading, unfit, spans, reading_of}
use Rattle.value_cursor.specs.declared.alert_param.Span.{Span}
use Rattle.value_cursor.specs.declared.pass.Scan.{Scan}

abbrev pub nowhere : Span
nowhere = record { start = 0; len = 0 }

-- one entry more, kept if it is entry k
abbrev pub noted : ℕ → Scan → Span → Scan
noted k t p = record { entries = t.entries + 1; span = cond (eqb t.entries k) p t.span }

unfoldable pub note_all : ℕ → Scan → List Span → Scan
note_all k t [] = t
note_all k t (p ∷ ps) = note_all k (noted k t p) ps

-- the entries of a value that fits
abbrev pub summary : ℕ → Scan → Reading → Option Scan
summary k t unfit = None
summary k t (spans ps) = Some (note_all k t ps)

abbrev pub blank : Scan
blank = record { entries = 0; span = nowhere }

unfoldable pub scan_of : List ℕ → ℕ → Option Scan
scan_of s k = summary k blank (reading_of s)

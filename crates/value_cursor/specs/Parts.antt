-- What passing white space, a token, a quoted string, a parameter and an entry gives at each position of a value.
-- Past the end the byte at a position counts as 0; only the rule after \ takes 0, and it asks for the length first.
-- Assumes nothing.
use Rattle.std.specs.Prelude.{ℕ, zero, suc, ◌+◌, ◌-◌, Bool, cond, ◌&&◌, List, length, get_or, leb, eqb, Option, Some, None}
use Rattle.value_cursor.specs.Bytes.{is_blank, is_uri, is_token, is_text, is_escapable}
use Rattle.value_cursor.specs.Walk.{run_at, Move, halt, move, walk_at}
use Rattle.value_cursor.specs.declared.cursor.Quote.{Quote}
use Rattle.value_cursor.specs.declared.cursor.Quote.TheVariants.{Closed, Escaped}
use Rattle.value_cursor.specs.declared.alert_param.Span.{Span}
use Rattle.value_cursor.specs.declared.alert_param.Following.{Following}
use Rattle.value_cursor.specs.declared.alert_param.Following.TheVariants.{Nothing, Comma, Param}
use Rattle.value_cursor.specs.declared.alert_param.Ending.{Ending}
use Rattle.value_cursor.specs.declared.alert_param.Ending.TheVariants.{ValueEnd, NextEntry}
use Rattle.value_cursor.specs.declared.alert_param.Found.{Found}
use Rattle.value_cursor.specs.declared.alert_param.Found.TheVariants.{Last, More}
use Rattle.value_cursor.specs.declared.cursor.Cursor.{Cursor}

-- White space.

-- CR (13), LF (10) and a space or a tab
abbrev pub fold_at : List ℕ → ℕ → Bool
fold_at s at = eqb (get_or s at 0) 13 && (eqb (get_or s (at + 1) 0) 10 && is_blank (get_or s (at + 2) 0))

-- how long the fold at a position is: 3, or 0 where there is none
abbrev pub fold_length : List ℕ → ℕ → ℕ
fold_length s at = cond (fold_at s at) 3 0

-- how many bytes of white space stand right at a position: 1 for a space or a tab, 3 for a fold, else 0
unfoldable pub blank_at : List ℕ → ℕ → ℕ
blank_at s at = cond (is_blank (get_or s at 0)) 1 (fold_length s at)

abbrev pub blank_move : ℕ → ℕ → Move ℕ
blank_move at zero = halt at
blank_move at (suc n) = move (λ r. r) (at + suc n)

unfoldable pub white_step : List ℕ → ℕ → Move ℕ
white_step s at = blank_move at (blank_at s at)

-- the position after the white space at a position
unfoldable pub white_at : List ℕ → ℕ → ℕ
white_at s at = walk_at (white_step s) 0 s at

-- Tokens and quoted strings.

-- a run that may not be empty
abbrev pub moved : ℕ → ℕ → Option Cursor
moved at to = cond (eqb at to) None (Some (record { at = to }))

unfoldable pub token_at : List ℕ → ℕ → Option Cursor
token_at s at = moved at (run_at is_token s at)

-- after a \: one byte that may stand there
abbrev pub escape_byte : List ℕ → ℕ → Option Quote
escape_byte s e =
    cond (leb (length s) e) None (cond (is_escapable (get_or s e 0)) (Some (Escaped (record { at = e + 1 }))) None)

-- after text in a quoted string: " (34) closes it, \ (92) escapes the next byte
abbrev pub quote_byte : List ℕ → ℕ → Option Quote
quote_byte s e =
    cond (eqb (get_or s e 0) 34) (Some (Closed (record { at = e + 1 })))
    (cond (eqb (get_or s e 0) 92) (escape_byte s (e + 1)) None)

unfoldable pub quote_at : List ℕ → ℕ → Option Quote
quote_at s at = quote_byte s (run_at is_text s at)

abbrev pub quote_move : Option Quote → Move (Option Cursor)
quote_move (Some (Closed c)) = halt (Some c)
quote_move (Some (Escaped c)) = move (λ p. p) c.at
quote_move None = halt None

unfoldable pub quoted_step : List ℕ → ℕ → Move (Option Cursor)
quoted_step s at = quote_move (quote_at s at)

-- a quoted string after its opening quote
unfoldable pub quoted_from : List ℕ → ℕ → Option Cursor
quoted_from s at = walk_at (quoted_step s) None s at

unfoldable pub quoted_at : List ℕ → ℕ → Option Cursor
quoted_at s at = cond (eqb (get_or s at 0) 34) (quoted_from s (at + 1)) None

-- Parameters.

-- what a parameter is set to: a quoted string or a token
unfoldable pub setting_at : List ℕ → ℕ → Option Cursor
setting_at s at = cond (eqb (get_or s at 0) 34) (quoted_at s at) (token_at s at)

-- after a parameter's token: = (61) and a setting, or no more
abbrev pub named : List ℕ → Option Cursor → Option Cursor
named s (Some c) =
    cond (eqb (get_or s (white_at s c.at) 0) 61) (setting_at s (white_at s (white_at s c.at + 1))) (Some c)
named s None = None

-- a parameter after its semicolon
unfoldable pub param_at : List ℕ → ℕ → Option Cursor
param_at s at = named s (token_at s (white_at s at))

abbrev pub param_next : Option Cursor → Option Following
param_next (Some c) = Some (Param c)
param_next None = None

-- after an entry's URI or one of its parameters: the end, a comma (44), or a semicolon (59) and one more parameter
abbrev pub following_byte : List ℕ → ℕ → Option Following
following_byte s w =
    cond (leb (length s) w) (Some Nothing)
    (cond (eqb (get_or s w 0) 44) (Some (Comma (record { at = w + 1 })))
    (cond (eqb (get_or s w 0) 59) (param_next (param_at s (w + 1))) None))

unfoldable pub following_at : List ℕ → ℕ → Option Following
following_at s at = following_byte s (white_at s at)

abbrev pub following_move : Option Following → Move (Option Ending)
following_move (Some Nothing) = halt (Some ValueEnd)
following_move (Some (Comma c)) = halt (Some (NextEntry c))
following_move (Some (Param c)) = move (λ t. t) c.at
following_move None = halt None

unfoldable pub ending_step : List ℕ → ℕ → Move (Option Ending)
ending_step s at = following_move (following_at s at)

-- after an entry's URI: all its parameters, and then the end of the value or the next entry
unfoldable pub ending_at : List ℕ → ℕ → Option Ending
ending_at s at = walk_at (ending_step s) None s at

-- Entries.

abbrev pub found : Span → Option Ending → Option Found
found p (Some ValueEnd) = Some (Last p)
found p (Some (NextEntry c)) = Some (More p c)
found p None = None

-- the part from one position up to before another
abbrev pub span_to : ℕ → ℕ → Span
span_to a e = record { start = a; len = e - a }

-- the URI from a to e, which may not be empty and is closed by > (62), and what follows
abbrev pub closed_uri : List ℕ → ℕ → ℕ → Option Found
closed_uri s a e = cond (eqb a e) None (cond (eqb (get_or s e 0) 62) (found (span_to a e) (ending_at s (e + 1))) None)

-- from an entry's < (60)
abbrev pub bracket : List ℕ → ℕ → Option Found
bracket s w = cond (eqb (get_or s w 0) 60) (closed_uri s (w + 1) (run_at is_uri s (w + 1))) None

-- what stands at a position: the last entry, an entry with where the next one begins, or no entry
unfoldable pub entry_at : List ℕ → ℕ → Option Found
entry_at s at = bracket s (white_at s at)

-- Examples that the claims are not empty.
-- Assumes nothing.
use Rattle.std.specs.Prelude.{ℕ, zero, suc, List, [], ◌∷◌, ◌++◌}
use Rattle.base_ascii.specs.Ascii.{bytes}
use Rattle.value_reader.specs.Grammar.{Blanks, Value}
use Rattle.value_reader.specs.Claims.{Unfolded}

-- a value of n + 1 entries
abbrev pub entries_more : ℕ → List ℕ
entries_more zero = bytes "<a>"
entries_more (suc n) = bytes "<a>," ++ entries_more n

-- a value on one line: spaces and tabs wherever they may stand, parameters without a setting, with a token and with a quoted string
-- that has a comma and a quote in it
abbrev pub on_one_line : List ℕ
on_one_line = bytes " \t<urn:a> ; x\t;\ty = 1.0 ;z=\"2, \\\"3\\\"\"\t, <http://b/?c>\t "

pub record Examples : Type 0 where
  -- it is without CR, and was accepted with these URIs before lines were folded
  pub unfolded : Unfolded on_one_line
  pub accepted : Value Blanks on_one_line (bytes "urn:a" ∷ bytes "http://b/?c" ∷ [])
  -- a folded line was no white space before
  pub before : Blanks (bytes "\r\n ") → ⊥

-- Capital letters in a table: each is refused with 7, and no other table is refused anew for letter case.
use Rattle.std.specs.Prelude.{ℕ, ◌≡◌, Bool, true, false, cond, ◌&&◌, List, length}
use Rattle.base_numbers.specs.Numbers.{most_urn_names, table_bad_category, table_bad_form}
use Rattle.base_lists.specs.Tests.{all}
use Rattle.base_lists.specs.Numbers.{within}
use Rattle.base_text.specs.Text.{fields}
use Rattle.urn_names.specs.Names.{name_ok}
use Rattle.urn_names.specs.Urn.{no_capital}
use Rattle.table_sections.specs.Stored.{got, Stored, sections}
use Rattle.table_decode.specs.Tables.{listed, table_in, verdict, table_refusal}

-- no name of a category and no URN has a capital letter
abbrev pub without_capitals : Stored → Bool
without_capitals s = all no_capital s.names && all (all no_capital) s.signals

-- the rule of 7 in any letter case: a URN is a category and 1 to 8 parts
abbrev pub urn_in_any_case : List ℕ → Bool
urn_in_any_case u = within 2 most_urn_names (length (fields 58 u)) && all name_ok (fields 58 u)

abbrev pub formed_in_any_case : Stored → Bool
formed_in_any_case s = all name_ok s.names && all (all urn_in_any_case) s.signals

-- the number of what is stored, in any letter case
abbrev pub judged_in_any_case : Stored → ℕ
judged_in_any_case s = cond (formed_in_any_case s) (cond (listed s) (verdict (table_in s)) table_bad_category) table_bad_form

-- of a table that can be read
pub record CapitalsRefused (t : List ℕ) (s : Stored) (at : ℕ) (read : sections t ≡ got s at) : Type 0 where
  pub capital : without_capitals s ≡ false → table_refusal t ≡ table_bad_form
  pub no_other : without_capitals s ≡ true → table_refusal t ≡ judged_in_any_case s

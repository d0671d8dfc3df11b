-- Which table the bytes say, and with which of the numbers 4 to 12 they are refused.
use Rattle.std.specs.Prelude.{ℕ, ◌≤◌, ◌≡◌, ◌⊎◌, Bool, cond, ◌&&◌, List, [], map, length}
use Rattle.base_numbers.specs.Numbers.{table_bad_category, table_bad_form}
use Rattle.base_lists.specs.Tests.{all, any, no_two}
use Rattle.base_lists.specs.Lists.{index_by}
use Rattle.theory_resolution.specs.Names.{Name, same_name}
use Rattle.theory_resolution.specs.Table.{Urn, urn, Table}
use Rattle.base_text.specs.Text.{fields}
use Rattle.urn_names.specs.Urn.{stored_name, urn_ok, category_of, path_of}
use Rattle.table_sections.specs.Stored.{Read, fault, got, Stored, stored, sections}
unfoldable pub use Rattle.table_places.specs.Verdict.{single, zero_silent, distinct, few_nodes, verdict}
unfoldable pub use Rattle.table_names.specs.Categories.{is_listed}

-- 7: every category name and every URN has its form, without capital letters, and a URN 1 to 8 parts
unfoldable pub formed : Stored → Bool
formed s = all stored_name s.names && all (all urn_ok) s.signals

-- a signal has a URN of this category
unfoldable pub uses : Name → List (List ℕ) → Bool
uses x sig = any (λ u. same_name (category_of u) x) sig

-- 8: no category is listed twice, each is used by a signal, and each that a URN names is listed
unfoldable pub listed : Stored → Bool
listed s =
    no_two same_name s.names
    && (all (λ x. any (uses x) s.signals) s.names && all (all (is_listed s.names)) s.signals)

-- a stored URN as the theory has it: its category's number, and the parts after its first colon
abbrev pub to_urn : List Name → List ℕ → Urn
to_urn names u = urn (index_by same_name (category_of u) names) (fields 58 (path_of u))

-- the table that is stored
abbrev pub table_in : Stored → Table
table_in s = record { cats = length s.names; signals = map (map (to_urn s.names)) s.signals }

-- the first of 7 to 12 that holds of what is stored, or 0
unfoldable pub judged : Stored → ℕ
judged s = cond (formed s) (cond (listed s) (verdict (table_in s)) table_bad_category) table_bad_form

unfoldable pub judged_read : Read Stored → ℕ
judged_read (fault k) = k
judged_read (got s at) = judged s

-- the number with which a stored table is refused, or 0: well-formed
unfoldable pub table_refusal : List ℕ → ℕ
table_refusal t = judged_read (sections t)

-- no other numbers are given, and each of these is
abbrev pub RefusalNumber : ℕ → Type 0
RefusalNumber n = (n ≡ 0) ⊎ ((4 ≤ n) × (n ≤ 12))

abbrev pub RefusalNumbers : Type 0
RefusalNumbers = (t : List ℕ) → RefusalNumber (table_refusal t)

abbrev pub EachNumber : Type 0
EachNumber = (n : ℕ) → RefusalNumber n → (t : List ℕ) × (table_refusal t ≡ n)

-- the names of the categories, in their order; none where the bytes cannot be read
unfoldable pub names_read : Read Stored → List Name
names_read (fault k) = []
names_read (got s at) = s.names

unfoldable pub category_names : List ℕ → List Name
category_names t = names_read (stored t)

-- the table that the bytes say; one without categories and signals where they cannot be read
unfoldable pub table_read : Read Stored → Table
table_read (fault k) = record { cats = 0; signals = [] }
table_read (got s at) = table_in s

unfoldable pub table_of : List ℕ → Table
table_of t = table_read (stored t)

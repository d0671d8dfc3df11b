-- Alert URNs: in a value with `urn:alert:` before them, in a stored table without it.
use Rattle.std.specs.Prelude.{ℕ, Bool, true, false, cond, not, ◌&&◌, List, [], ◌∷◌, Option, Some, None, length, drop, eqb, leb}
use Rattle.base_numbers.specs.Numbers.{most_urn_names}
use Rattle.base_lists.specs.Cuts.{up_to, past}
use Rattle.base_lists.specs.Tests.{all}
use Rattle.base_lists.specs.Numbers.{within}
use Rattle.base_ascii.specs.Ascii.{bytes}
use Rattle.base_text.specs.Text.{fields, lower}
use Rattle.urn_names.specs.Names.{label_byte, name_ok}

-- no capital letter
abbrev pub not_capital : ℕ → Bool
not_capital x = not (within 65 90 x)

-- a text without capital letters
unfoldable pub no_capital : List ℕ → Bool
no_capital s = all not_capital s

-- the text begins with these small letters, in any letter case
unfoldable pub begins : List ℕ → List ℕ → Bool
begins [] s = true
begins (x ∷ w) [] = false
begins (x ∷ w) (y ∷ s) = eqb (lower y) x && begins w s

-- what stands after `urn:alert:` : a category and one or more parts, with colons between
unfoldable pub rest_ok : List ℕ → Bool
rest_ok s = leb 2 (length (fields 58 s)) && all name_ok (fields 58 s)

-- a URI is an alert URN
unfoldable pub alert_urn : List ℕ → Bool
alert_urn uri = begins (bytes "urn:alert:") uri && rest_ok (drop 10 uri)

-- a name in a stored table: without capital letters
unfoldable pub stored_name : List ℕ → Bool
stored_name s = no_capital s && name_ok s

-- a URN in a stored table, without `urn:alert:` : a category and 1 to 8 parts, without capital letters
unfoldable pub urn_ok : List ℕ → Bool
urn_ok s = no_capital s && (within 2 most_urn_names (length (fields 58 s)) && all name_ok (fields 58 s))

-- what stands before the first colon of a URN without `urn:alert:`
abbrev pub category_of : List ℕ → List ℕ
category_of = up_to 58

-- what stands after the first colon of a URN without `urn:alert:`
abbrev pub path_of : List ℕ → List ℕ
path_of = past 58

-- how many names stand between the colons, or 0 if one of them does not pass the test
unfoldable pub names_by : (List ℕ → Bool) → List ℕ → ℕ
names_by ok s = cond (all ok (fields 58 s)) (length (fields 58 s)) 0

-- how many names stand between the colons, if all of them pass the test
unfoldable pub count_by : (List ℕ → Bool) → List ℕ → Option ℕ
count_by ok s = cond (all ok (fields 58 s)) (Some (length (fields 58 s))) None

-- a byte that may stand in a label of a stored name
unfoldable pub stored_byte : ℕ → Bool
stored_byte b = label_byte b && not_capital b

-- Labels and names, as bytes.
use Rattle.std.specs.Prelude.{ℕ, ◌-◌, Bool, cond, not, ◌&&◌, ◌||◌, List, Option, Some, None, length, get_or, eqb}
use Rattle.base_numbers.specs.Numbers.{most_label_bytes}
use Rattle.base_lists.specs.Cuts.{up_to, past}
use Rattle.base_lists.specs.Tests.{all}
use Rattle.base_lists.specs.Numbers.{within}

-- a letter, a digit or a hyphen: a to z, A to Z, 0 to 9, `-`
unfoldable pub label_byte : ℕ → Bool
label_byte b = within 97 122 b || (within 65 90 b || (within 48 57 b || eqb b 45))

-- at least 1 and at most 27 letters, digits and hyphens; a hyphen stands at neither end
unfoldable pub label_ok : List ℕ → Bool
label_ok s =
    within 1 most_label_bytes (length s)
    && (not (eqb (get_or s 0 0) 45) && (not (eqb (get_or s (length s - 1) 0) 45) && all label_byte s))

-- a category or part: a label, or a label, `@` (64) and a label
unfoldable pub name_ok : List ℕ → Bool
name_ok s = label_ok s || (label_ok (up_to 64 s) && label_ok (past 64 s))

-- how long the name up to the first colon or the end is, if it passes the test
unfoldable pub length_by : (List ℕ → Bool) → List ℕ → Option ℕ
length_by ok s = cond (ok (up_to 58 s)) (Some (length (up_to 58 s))) None

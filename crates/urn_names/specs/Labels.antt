-- Labels and names over which bytes may stand in them, as the code reads them.
use Rattle.std.specs.Prelude.{◌≡◌, ℕ, ◌-◌, Bool, false, not, ◌&&◌, ◌||◌, List, length, get_or, eqb, refl}
use Rattle.base_numbers.specs.Numbers.{most_label_bytes}
use Rattle.base_lists.specs.Cuts.{up_to, past}
use Rattle.base_lists.specs.Tests.{all}
use Rattle.base_lists.specs.Numbers.{within}
use Rattle.urn_names.specs.Names.{label_byte}
use Rattle.urn_names.specs.Urn.{stored_byte}

-- n bytes at the front are as many as a label has, and a hyphen stands at neither end
abbrev pub label_shape : ℕ → List ℕ → Bool
label_shape n s = within 1 most_label_bytes n && (not (eqb (get_or s 0 0) 45) && not (eqb (get_or s (n - 1) 0) 45))

-- a label of bytes that pass the test: `label_ok` where these are letters, digits and hyphens
unfoldable pub label_by : (ℕ → Bool) → List ℕ → Bool
label_by p s =
    within 1 most_label_bytes (length s)
    && (not (eqb (get_or s 0 0) 45) && (not (eqb (get_or s (length s - 1) 0) 45) && all p s))

-- a name of such labels: `name_ok`, or `stored_name` where no byte is a capital letter
unfoldable pub name_by : (ℕ → Bool) → List ℕ → Bool
name_by p s = label_by p s || (label_by p (up_to 64 s) && label_by p (past 64 s))

-- neither a colon nor an `@` stands in a label
pub colon_no_label : label_byte 58 ≡ false
unfolding label_byte
colon_no_label = refl

pub at_no_label : label_byte 64 ≡ false
unfolding label_byte
at_no_label = refl

pub colon_not_stored : stored_byte 58 ≡ false
unfolding stored_byte label_byte
colon_not_stored = refl

pub at_not_stored : stored_byte 64 ≡ false
unfolding stored_byte label_byte
at_not_stored = refl

-- The byte rules of an Alert-Info value. Bytes are numbers.
-- Assumes nothing.
use Rattle.std.specs.Prelude.{◌≡◌, ℕ, zero, suc, ◌/◌, ◌%◌, ◌^◌, ◌<◌, Bool, false, not, ◌&&◌, ◌||◌, List, [], ◌∷◌, leb, eqb, get_or}
use Rattle.base_lists.specs.Numbers.{within}
use Rattle.base_ascii.specs.Ascii.{bytes}

-- one of some bytes
abbrev pub one_of : List ℕ → ℕ → Bool
one_of [] b = false
one_of (x ∷ xs) b = eqb b x || one_of xs b

-- space or tab
unfoldable pub is_blank : ℕ → Bool
is_blank b = one_of (bytes " \t") b

-- in a URI: 0x21 to 0x7E without < > "
unfoldable pub is_uri : ℕ → Bool
is_uri b = within 0x21 0x7E b && not (one_of (bytes "<>\"") b)

-- in a token: letters, digits and - . ! % * _ + ` ' ~
unfoldable pub is_token : ℕ → Bool
is_token b = within 65 90 b || (within 97 122 b || (within 48 57 b || one_of (bytes "-.!%*_+`'~") b))

-- in a quoted string, as itself: a tab, 32 to 126 but for " and \, and 128 to 255
unfoldable pub is_text : ℕ → Bool
is_text b = eqb b 9 || (within 32 126 b && not (one_of (bytes "\"\\") b) || within 128 255 b)

-- in a quoted string, after \: all below 128 but LF and CR
unfoldable pub is_escapable : ℕ → Bool
is_escapable b = leb b 127 && not (one_of (10 ∷ 13 ∷ []) b)

-- the classes by number, as the table's bits have them: 0 blank, 1 URI, 2 token, 3 quoted text, 4 after \
abbrev pub in_class : ℕ → ℕ → Bool
in_class zero b = is_blank b
in_class (suc zero) b = is_uri b
in_class (suc (suc zero)) b = is_token b
in_class (suc (suc (suc zero))) b = is_text b
in_class (suc (suc (suc (suc k)))) b = is_escapable b

-- a table of classes: bit k of entry b says whether b is in class k
unfoldable pub Classes : List ℕ → Type 0
Classes t = (k b : ℕ) → k < 5 → b < 256 → eqb (get_or t b 0 / 2 ^ k % 2) 1 ≡ in_class k b

-- How a form is written to a lent buffer: from the front, as far as there is room.
use Rattle.std.specs.Prelude.{ℕ, ◌+◌, ◌≤◌, max, ◌≡◌, Bool, cond, ◌&&◌, length, take, set, eqb, leb, ltb}
use mathlib.Core.List.{List, [], ◌∷◌, ◌++◌, foldl}
use Rattle.base_numbers.specs.Numbers.{most_categories, most_table_urns, most_urns}
use Rattle.base_lists.specs.Cuts.{stretch}
use Rattle.base_lists.specs.Lists.{tabulate, laid}
use Rattle.table_sections.specs.Held.{Tagged}
use Rattle.tree_sections.specs.Held.{number_at}
use Rattle.tree_forms.specs.Bytes.{text_bytes, section}
use Rattle.tree_forms.specs.Conversion.{Converted, converted}
use Rattle.base_bytes.specs.declared.Built.{Built as Answer}

-- what a conversion answers, without the buffer
abbrev pub answer : Converted → Answer
answer c = record { refusal = c.refusal; len = c.len }

-- the first n bytes of a buffer, with zeros after them, or 22
unfoldable pub finished : List ℕ → ℕ → Bool → Converted
finished b n fits = converted 0 (fits && leb n (length b)) (take n b) (length b)

-- a buffer, and a position in it or past its end
pub record Spot : Type 0 where
  pub buffer : List ℕ
  pub at : ℕ

abbrev pub spot : List ℕ → ℕ → Spot
spot b at = record { buffer = b; at = at }

-- the position up to which bytes are counted that there is no room for; no form is as long
abbrev pub farthest : ℕ
farthest = 1000000000

-- one byte at the position, if that is in the buffer, and the position after it; the farthest is passed only inside a buffer
abbrev pub put_byte : Spot → ℕ → Spot
put_byte s v = spot (set s.buffer s.at v) (cond (ltb s.at (max (length s.buffer) farthest)) (s.at + 1) s.at)

-- these bytes, one after the other
unfoldable pub put_all : Spot → List ℕ → Spot
put_all s bytes = foldl put_byte s bytes

-- these bytes were put into the buffer old from a position on: the buffer is new then, and r the position after them
pub record Wrote (old new : List ℕ) (at : ℕ) (bytes : List ℕ) (r : ℕ) : Type 0 where
  pub is : spot new r ≡ put_all (spot old at) bytes

-- where a form was laid up to `at`, these bytes are laid behind it; r is the position after them
pub record Puts (old new : List ℕ) (at : ℕ) (bytes : List ℕ) (r : ℕ) : Type 0 where
  pub end : r ≡ at + length bytes
  pub long : length new ≡ length old
  pub goes_on : (p b : List ℕ) → length p ≡ at → old ≡ laid p b → new ≡ laid (p ++ bytes) b

-- what the things of signal s are, in order
unfoldable pub of_signal : {A : Type 0} → ℕ → List (Tagged A) → List A
of_signal s [] = []
of_signal s (x ∷ xs) = cond (eqb x.signal s) (x.what ∷ of_signal s xs) (of_signal s xs)

-- how many of the first m numbers are of signal s; 0 for over 256
unfoldable pub count_of : List ℕ → List ℕ → ℕ → ℕ → ℕ
count_of signal number m s = cond (leb m most_table_urns) (length (of_signal s (tabulate (number_at signal number) m))) 0

-- the section of n categories at the front of the buffer b; nothing for over 8
unfoldable pub names_at : (t name_at name_len : List ℕ) → ℕ → List ℕ → Spot
names_at t name_at name_len n b = cond (leb n most_categories) (put_all (spot b 0) (section text_bytes (tabulate (stretch t name_at name_len) n))) (spot b 0)

-- no signal has over 8 numbers
abbrev pub Eight : (signal number : List ℕ) → ℕ → Type 0
Eight signal number m = (s : ℕ) → length (of_signal s (tabulate (number_at signal number) m)) ≤ most_urns

-- The conversions of bytes, into a buffer. Refusal 22.
use Rattle.std.specs.Prelude.{ℕ, ◌-◌, min, Bool, cond, List, [], ◌++◌, length, take, replicate, leb, eqb}
use Rattle.base_numbers.specs.Numbers.{form_no_room, most_table_bytes}
use Rattle.table_sections.specs.Stored.{Read, fault, got, Stored, stored}
use Rattle.table_decode.specs.Tables.{table_refusal}
use Rattle.tree_sections.specs.Tree.{Tree, tree}
use Rattle.tree_forms.specs.Bytes.{tree_bytes, stored_bytes}
use Rattle.tree_forms.specs.Meaning.{tree_of, stored_of}
use Rattle.tree_forms.specs.Refusals.{tree_refusal}

-- the tree form of a table that could be read
unfoldable pub tree_form_read : Read Stored → List ℕ
tree_form_read (fault k) = []
tree_form_read (got s at) = tree_bytes (tree_of s)

-- the tree form of a well-formed table
unfoldable pub tree_form : List ℕ → List ℕ
tree_form t = tree_form_read (stored t)

-- the old form of a table in the tree form that could be read
unfoldable pub old_form_read : Read Tree → List ℕ
old_form_read (fault k) = []
old_form_read (got x at) = stored_bytes (stored_of x)

-- the old form of a well-formed table in the tree form
unfoldable pub old_form : List ℕ → List ℕ
old_form t = old_form_read (tree t)

-- what a conversion answers, and the whole buffer after it
pub record Converted : Type 0 where
  pub refusal : ℕ
  pub len : ℕ
  pub buffer : List ℕ

-- refused with k: length 0, and a buffer of zeros
abbrev pub refused : ℕ → ℕ → Converted
refused k room = record { refusal = k; len = 0; buffer = replicate room 0 }

-- these bytes, and zeros after them
abbrev pub filled : List ℕ → ℕ → Converted
filled bytes room = record { refusal = 0; len = length bytes; buffer = bytes ++ replicate (room - length bytes) 0 }

-- the form that was made, by the number of the refusal of what it was made from, and whether it may be written
unfoldable pub converted : ℕ → Bool → List ℕ → ℕ → Converted
converted k fits bytes room = cond (eqb k 0) (cond fits (filled bytes room) (refused form_no_room room)) (refused k room)

-- old to new
unfoldable pub to_tree : List ℕ → ℕ → Converted
to_tree t room = converted (table_refusal t) (leb (length (tree_form t)) room) (tree_form t) room

-- an old form of n bytes may be written: it has 8,192 bytes at most, and there is room for it
unfoldable pub fits_old : ℕ → ℕ → Bool
fits_old n room = leb n (min most_table_bytes room)

-- new to old
unfoldable pub from_tree : List ℕ → ℕ → Converted
from_tree t room = converted (tree_refusal t) (fits_old (length (old_form t)) room) (old_form t) room

-- the bytes that a conversion made
abbrev pub made : Converted → List ℕ
made c = take c.len c.buffer

-- What holds of the conversions.
use Rattle.std.specs.Prelude.{ℕ, ◌-◌, ◌≤◌, ◌<◌, ◌≡◌, ◌⊎◌, ◌↔◌, ◌≢◌, List, length, drop, replicate}
use Rattle.table_decode.specs.Tables.{table_refusal, table_of}
use Rattle.tree_forms.specs.Refusals.{tree_refusal, tree_table}
use Rattle.tree_forms.specs.Conversion.{tree_form, old_form, Converted, to_tree, from_tree, made}

-- of a well-formed table t and its tree form: it is well-formed, has at most 4,451 bytes, says the same table, and its old form is t
pub record OldNewOld (t : List ℕ) : Type 0 where
  pub accepted : tree_refusal (tree_form t) ≡ 0
  pub small : length (tree_form t) ≤ 4451
  pub says : tree_table (tree_form t) ≡ table_of t
  pub back : old_form (tree_form t) ≡ t

-- of a well-formed table t in the tree form and its old form of at most 8,192 bytes
pub record NewOldNew (t : List ℕ) : Type 0 where
  pub accepted : table_refusal (old_form t) ≡ 0
  pub says : table_of (old_form t) ≡ tree_table t
  pub back : tree_form (old_form t) ≡ t

-- two conversions, one after the other: neither is refused, and the bytes come back
pub record ThereAndBack (t : List ℕ) (one two : Converted) : Type 0 where
  pub first : one.refusal ≡ 0
  pub second : two.refusal ≡ 0
  pub same : made two ≡ t

-- old to new and back, into buffers of any length: unless refused with 22
abbrev pub OldAndBack : List ℕ → ℕ → ℕ → Type 0
OldAndBack t room room₂ =
    table_refusal t ≡ 0 → (to_tree t room).refusal ≢ 22 → (from_tree (made (to_tree t room)) room₂).refusal ≢ 22
    → ThereAndBack t (to_tree t room) (from_tree (made (to_tree t room)) room₂)

-- new to old and back
abbrev pub NewAndBack : List ℕ → ℕ → ℕ → Type 0
NewAndBack t room room₂ =
    tree_refusal t ≡ 0 → (from_tree t room).refusal ≢ 22 → (to_tree (made (from_tree t room)) room₂).refusal ≢ 22
    → ThereAndBack t (from_tree t room) (to_tree (made (from_tree t room)) room₂)

-- of every conversion: the buffer keeps its length, and is zero after the form
pub record Kept (room : ℕ) (c : Converted) : Type 0 where
  pub long : length c.buffer ≡ room
  pub fits : c.len ≤ room
  pub after : drop c.len c.buffer ≡ replicate (room - c.len) 0

-- of a refused conversion: its length is 0, and the buffer is all zero
pub record Cleared (room : ℕ) (c : Converted) : Type 0 where
  pub none : c.len ≡ 0
  pub zeros : c.buffer ≡ replicate room 0

-- a conversion of what has the number k by itself, into this form, there being no room for it if NoRoom
pub record Converts (k : ℕ) (form : List ℕ) (NoRoom : Type 0) (c : Converted) : Type 0 where
  -- the number of what is converted comes first
  pub own-number : k ≢ 0 → c.refusal ≡ k
  -- then 22, exactly if there is no room
  pub no_room : (c.refusal ≡ 22) ↔ ((k ≡ 0) × NoRoom)
  -- else the form is made
  pub form-made : k ≡ 0 → (NoRoom → ⊥) → (c.refusal ≡ 0) × (made c ≡ form)

-- old to new: 22 where the tree form is longer than the buffer
abbrev pub ToTree22 : Type 0
ToTree22 = (t : List ℕ) (room : ℕ) → Converts (table_refusal t) (tree_form t) (room < length (tree_form t)) (to_tree t room)

-- new to old: 22 where the old form has over 8,192 bytes, or is longer than the buffer
abbrev pub FromTree22 : Type 0
FromTree22 = (t : List ℕ) (room : ℕ) → Converts (tree_refusal t) (old_form t) ((8192 < length (old_form t)) ⊎ (room < length (old_form t))) (from_tree t room)

-- The entries of a value that are read one by one: up to its end, or up to where it does not fit. The comma
-- behind an entry, or the value's end, is read with it.
use Rattle.std.specs.Prelude.{ℕ, ◌<◌, ◌≡◌, ◌↔◌, ◌⊎◌, Bool, true, false, ◌&&◌, List, [], ◌∷◌, ◌++◌, map, leb, length, take, Option, Some, None}
use Prim.Native.Char.{code}
use Rattle.value_cursor.specs.Walk.{Move, halt, move, walk_at}
use Rattle.value_cursor.specs.Parts.{entry_at}
use Rattle.value_cursor.specs.declared.alert_param.Span.{Span}
use Rattle.value_cursor.specs.declared.alert_param.Found.{Found}
use Rattle.value_cursor.specs.declared.alert_param.Found.TheVariants.{Last, More}
use Rattle.value_reader.specs.Value.{part_of}
use Rattle.value_reader.specs.Grammar.{White, Entry, Value}

-- the parts of the value that are the URIs of the entries read, in order, and whether the value ends with the last of them
pub record Front : Type 0 where
  pub parts : List Span
  pub ended : Bool

-- no entry; the last entry; an entry before others
abbrev pub nothing : Front
nothing = record { parts = []; ended = false }

abbrev pub only : Span → Front
only p = record { parts = p ∷ []; ended = true }

abbrev pub before : Span → Front → Front
before p f = record { parts = p ∷ f.parts; ended = f.ended }

-- what is read at a position, by what the reader finds there
abbrev pub front_move : Option Found → Move Front
front_move (Some (Last p)) = halt (only p)
front_move (Some (More p c)) = move (before p) c.at
front_move None = halt nothing

unfoldable pub front_step : List ℕ → ℕ → Move Front
front_step s at = front_move (entry_at s at)

-- the entries read from a position on
unfoldable pub front_from : List ℕ → ℕ → Front
front_from s at = walk_at (front_step s) nothing s at

-- the first n of them
abbrev pub first_of : ℕ → Front → Front
first_of n f = record { parts = take n f.parts; ended = f.ended && leb (length f.parts) n }

-- their URIs
abbrev pub uris_in : List ℕ → Front → List (List ℕ)
uris_in s f = map (part_of s) f.parts

-- The same in the words of the grammar: entries with a comma after each, and their URIs in order.
pub data Begins (W : List ℕ → Type 0) : List ℕ → List (List ℕ) → Type 0 where
  start : Begins W [] []
  comma : {w e x u b : List ℕ} {us : List (List ℕ)} → W w → Entry W e u → W x → Begins W b us
      → Begins W (w ++ (e ++ (x ++ (code "," ∷ b)))) (u ∷ us)

-- what is read of a value, both ways
pub record FrontClaims (s : List ℕ) : Type 0 where
  -- entries at its front, with a comma after each, are the first that are read, whatever follows
  pub begins : (b r : List ℕ) (us : List (List ℕ)) → Begins White b us → s ≡ b ++ r → take (length us) (uris_in s (front_from s 0)) ≡ us
  -- the first k that are read stand at its front with a comma after each, unless the value ends with the last of them
  pub stands : (k : ℕ) → (k < length (front_from s 0).parts) ⊎ ((k ≡ length (front_from s 0).parts) × ((front_from s 0).ended ≡ false))
      → (b : List ℕ) × (r : List ℕ) × Begins White b (take k (uris_in s (front_from s 0))) × (s ≡ b ++ r)
  -- all are read up to the end exactly if the bytes are a value, and these are its URIs
  pub whole : (us : List (List ℕ)) → Value White s us ↔ (((front_from s 0).ended ≡ true) × (uris_in s (front_from s 0) ≡ us))

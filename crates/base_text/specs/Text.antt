-- Texts as bytes: the parts between colons, what two of them have in common, and letter case.
use Rattle.std.specs.Prelude.{ℕ, suc, ◌+◌, min, Bool, cond, List, [], ◌∷◌, ◌++◌, length, eqb}
use Rattle.base_lists.specs.Numbers.{within}
use Rattle.theory_resolution.specs.Names.{Parts, below, some_below}

-- a byte put before the first of some texts
unfoldable pub on_first : ℕ → List (List ℕ) → List (List ℕ)
on_first x [] = (x ∷ []) ∷ []
on_first x (f ∷ fs) = (x ∷ f) ∷ fs

-- the texts between the bytes c: one more than there are such bytes. The path that a text says is its `fields 58`:
-- the parts, with colons (58) between
unfoldable pub fields : ℕ → List ℕ → List (List ℕ)
fields c [] = [] ∷ []
fields c (x ∷ xs) = cond (eqb x c) ([] ∷ fields c xs) (on_first x (fields c xs))

-- the path that p says is the path that w says, or an ancestor of it
unfoldable pub covers : List ℕ → List ℕ → Bool
covers p w = some_below (below (fields 58 p) (fields 58 w))

-- parts as a text, each after a colon
unfoldable pub after_colons : Parts → List ℕ
after_colons [] = []
after_colons (x ∷ p) = 58 ∷ (x ++ after_colons p)

-- a path as a text: its parts, with colons between
unfoldable pub text_of : Parts → List ℕ
text_of [] = []
text_of (x ∷ p) = x ++ after_colons p

-- how many bytes two texts have in common at their beginnings
unfoldable pub common : List ℕ → List ℕ → ℕ
common [] w = 0
common (x ∷ p) [] = 0
common (x ∷ p) (y ∷ w) = cond (eqb x y) (suc (common p w)) 0

-- how many bytes of p are compared with w, from the first: those that w has at the same places, and the first that it lacks there
unfoldable pub compared_bytes : List ℕ → List ℕ → ℕ
compared_bytes p w = min (length p) (common p w + 1)

-- a letter as a small one
abbrev pub lower : ℕ → ℕ
lower x = cond (within 65 90 x) (x + 32) x

-- a text with all its letters as small ones: names of URIs are compared so, without regard to letter case
unfoldable pub lowered : List ℕ → List ℕ
lowered [] = []
lowered (x ∷ s) = lower x ∷ lowered s

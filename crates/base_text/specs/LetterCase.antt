-- Texts that are the same but for letter case, said of their bytes alone, and what is claimed of texts with small letters.
-- The proof is in proofs/LetterCase.antt.
use Rattle.std.specs.Prelude.{ℕ, ◌+◌, ◌≤◌, ◌≡◌, ◌↔◌, ◌⊎◌, List, [], ◌∷◌}
use Rattle.base_text.specs.Text.{lowered}

-- x is a capital letter, A to Z, and y the small one, 32 above it
pub record Capital (x y : ℕ) : Type 0 where
  pub from-a : 65 ≤ x
  pub to-z : x ≤ 90
  pub small : y ≡ x + 32

-- two bytes are the same but for letter case: they are equal, or one is a capital letter and the other its small one
abbrev pub SameLetter : ℕ → ℕ → Type 0
SameLetter x y = (x ≡ y) ⊎ (Capital x y ⊎ Capital y x)

-- two texts are so byte by byte
pub data SameButCase : List ℕ → List ℕ → Type 0 where
  none : SameButCase [] []
  more : {x y : ℕ} {a b : List ℕ} → SameLetter x y → SameButCase a b → SameButCase (x ∷ a) (y ∷ b)

-- with their letters as small ones two texts are equal exactly if they are the same but for letter case
abbrev pub LoweredExactly : Type 0
LoweredExactly = (a b : List ℕ) → (lowered a ≡ lowered b) ↔ SameButCase a b

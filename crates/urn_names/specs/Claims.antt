-- What is claimed of capital letters. The proof is in proofs/Cases.antt.
use Rattle.std.specs.Prelude.{ℕ, ◌≡◌, ◌↔◌, true, List}
use Rattle.base_text.specs.Text.{lowered}
use Rattle.urn_names.specs.Urn.{no_capital}

-- a text has no capital letter exactly if it stays as it is with its letters as small ones
abbrev pub NoCapitalExactly : Type 0
NoCapitalExactly = (s : List ℕ) → (no_capital s ≡ true) ↔ (lowered s ≡ s)

-- With which numbers a table with the tree written once can be refused. 12 is not among them: a tree has at most 64 nodes.
use Rattle.std.specs.Prelude.{ℕ, ◌≤◌, ◌≡◌, ◌⊎◌, List}
use Rattle.tree_forms.specs.Refusals.{tree_refusal}

-- no other numbers are given
abbrev pub TreeNumber : ℕ → Type 0
TreeNumber n = (n ≡ 0) ⊎ (((4 ≤ n) × (n ≤ 11)) ⊎ (n ≡ 21))

abbrev pub TreeNumbers : Type 0
TreeNumbers = (t : List ℕ) → TreeNumber (tree_refusal t)

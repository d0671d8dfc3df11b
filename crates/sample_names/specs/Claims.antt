-- What is claimed of the names: each is another, and the one chosen is the first that is free.
use Rattle.std.specs.Prelude.{ℕ, ◌<◌, ◌≡◌, Bool, true, false, List}
use Rattle.theory_resolution.specs.Names.{Name}
use Rattle.theory_resolution.specs.Table.{Urn}
use Rattle.sample_names.specs.FirstFree.{z_name, name_taken, part_taken, foreign, strange}

-- no two numbers have the same name
abbrev pub NamesDiffer : Type 0
NamesDiffer = (n m : ℕ) → z_name n ≡ z_name m → n ≡ m

-- a name of a number that is not taken, where all before it are
abbrev pub First : (ℕ → Bool) → Name → Type 0
First taken x = (k : ℕ) × (x ≡ z_name k) × (taken k ≡ false) × ((j : ℕ) → j < k → taken j ≡ true)

abbrev pub ForeignFirst : Type 0
ForeignFirst = (names : List Name) → First (name_taken names) (foreign names)

abbrev pub StrangeFirst : Type 0
StrangeFirst = (ns : List Urn) (u : Urn) → First (part_taken ns u) (strange ns u)

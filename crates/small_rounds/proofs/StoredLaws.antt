-- Laws of a row's test of classes.
use Prim.Native.Nat.{ℕ}
use mathlib.Core.Path.{◌≡◌}
use mathlib.Core.List.{List}
use borrow.Author.Tests.{eq-eqb}
use Rattle.base_lists.specs.Lists.{all_below}
use Rattle.theory_minimal.specs.Machine.{Machine}
use Rattle.theory_minimal.specs.Proposal.{class_of}
use Rattle.theory_minimal.specs.Refine.{same_target, same_row}

pub row-rest : (m : Machine) (p : List ℕ) (i j : ℕ) → class_of p i ≡ class_of p j → all_below m.symbols (same_target m p i j) ≡ same_row m p i j
row-rest m p i j e = rw (eq-eqb (class_of p i) (class_of p j) e)

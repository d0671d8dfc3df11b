-- The states found, as the code keeps them: a list of bytes, and a mark for each state.
use Rattle.std.specs.Prelude.{ℕ, ◌≤◌, ◌<◌, ◌≡◌, cond, eqb, get_or, length, take}
use mathlib.Core.List.{List, Memᴰ}
use Rattle.base_lists.specs.Lists.{member_by, add_by, Distinct}
use Rattle.theory_resolution.specs.Discovery.{expand}
use Rattle.theory_minimal.specs.Machine.{Machine}
use Rattle.theory_minimal.specs.Proposal.{class_of}

-- the first count bytes of the list are states below n, none twice, and just these are marked
pub record Kept (n : ℕ) (list seen : List ℕ) (count : ℕ) : Type 0 where
  pub wide : length list ≡ n
  pub marks : length seen ≡ n
  pub few : count ≤ n
  pub distinct : Distinct eqb (take count list)
  pub states : (x : ℕ) → Memᴰ x (take count list) → x < n
  pub marked : (x : ℕ) → x < n → get_or seen x 0 ≡ cond (member_by eqb x (take count list)) 1 0

-- r states after x
pub record Visited (n : ℕ) (list : List ℕ) (count x : ℕ) (list' seen' : List ℕ) (r : ℕ) : Type 0 where
  pub found : take r list' ≡ add_by eqb (take count list) x
  pub kept : Kept n list' seen' r

-- r states after the targets of state j for the symbols below k
pub record Turned (m : Machine) (list : List ℕ) (count j k : ℕ) (list' seen' : List ℕ) (r : ℕ) : Type 0 where
  pub found : take r list' ≡ expand eqb m.target j k (take count list)
  pub kept : Kept m.states list' seen' r

-- each of the first n entries is at most its own place, and the entry at that place is the same
pub record Firsts (b : List ℕ) (n : ℕ) : Type 0 where
  pub before : (i : ℕ) → i < n → class_of b i ≤ i
  pub leads : (i : ℕ) → i < n → class_of b (class_of b i) ≡ class_of b i

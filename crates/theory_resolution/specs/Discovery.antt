-- Breadth-first discovery over any type of states, with a test of equality, a step by a symbol's number, a number of
-- symbols and a start.
use Rattle.std.specs.Prelude.{ℕ, zero, suc, ◌<◌, ◌≡◌, ◌⊎◌, Bool, true, cond, ltb, get_or, length, take}
use mathlib.Core.List.{List, [], ◌∷◌, foldl, Memᴰ}
use Rattle.base_lists.specs.Lists.{member_by, add_by, index_by, tabulate, Distinct}

module _ {S : Type 0} (same : S → S → Bool) (next : S → ℕ → S) where
  -- the list after the targets of s at the symbols below k, in order, each at the end unless it is there
  unfoldable pub expand : S → ℕ → List S → List S
  expand s zero l = l
  expand s (suc k) l = add_by same (expand s k l) (next s k)

  -- the list after the turn of the state with number i, if there is one
  abbrev pub turn : ℕ → S → ℕ → List S → List S
  turn count begin i l = cond (ltb i (length l)) (expand (get_or l i begin) count l) l

  -- the states found after the turns of those numbered below n; a state's number is its place in the list
  unfoldable pub discover : ℕ → S → ℕ → List S
  discover count begin zero = begin ∷ []
  discover count begin (suc i) = turn count begin i (discover count begin i)

  -- the numbers of the targets of s
  abbrev pub targets : ℕ → List S → S → List ℕ
  targets count l s = tabulate (λ k. index_by same (next s k) l) count

module _ {S : Type 0} (next : S → ℕ → S) (count : ℕ) (begin : S) where
  -- some sequence of symbols leads from the start to s
  pub record Reached (s : S) : Type 0 where
    pub by : List ℕ
    pub listed : (k : ℕ) → Memᴰ k by → k < count
    pub leads : foldl next begin by ≡ s

  -- more than n states are reached: a list of them, without repeats, is longer than n
  pub record ReachedOver (same : S → S → Bool) (n : ℕ) : Type 0 where
    pub states : List S
    pub distinct : Distinct same states
    pub reached : (s : S) → Memᴰ s states → Reached s
    pub over : n < length states

  -- how breadth-first numbers are given: the state with number j is first met from state `from` by `symbol`; all that
  -- earlier states lead to, and this one by smaller symbols, has a smaller number than j
  pub record FirstMet (same : S → S → Bool) (l : List S) (j : ℕ) : Type 0 where
    pub from : ℕ
    pub symbol : ℕ
    pub earlier : from < j
    pub listed : symbol < count
    pub leads : next (get_or l from begin) symbol ≡ get_or l j begin
    pub before : (a b : ℕ) → (a < from) ⊎ ((a ≡ from) × (b < symbol)) → b < count → member_by same (next (get_or l a begin) b) (take j l) ≡ true

  -- a list of all states that are reached, numbered breadth first from the start on, each once
  pub record BreadthFirst (same : S → S → Bool) (l : List S) : Type 0 where
    pub begins : get_or l 0 begin ≡ begin
    pub distinct : Distinct same l
    pub numbered : (j : ℕ) → 0 < j → j < length l → FirstMet same l j
    pub complete : (s : S) → Reached s → Memᴰ s l

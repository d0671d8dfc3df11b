-- Laws of the rounds as the code makes them: it stops when a round changes nothing.
use Prim.Native.Nat.{ℕ, zero, suc, ◌+◌, ◌-◌, ◌≤◌}
use mathlib.Core.Path.{◌≡◌, sym, ap, ◌∙◌}
use mathlib.Core.List.{List}
use lib.ListN.{length}
use native.Mathlib.Numerals.{add-one}
use native.Mathlib.Omega.{arith}
use Rattle.base_lists.proofs.Tabulated.{tabulate-length}
use Rattle.base_lists.specs.Lists.{tabulate}
use Rattle.theory_minimal.specs.Machine.{Machine}
use Rattle.theory_minimal.specs.Refine.{leader, same_row, refine, refined, blocks}

module _ (m : Machine) where
  pub refined-length : (r : ℕ) → length (refined m r) ≡ m.states
  unfolding refined
  refined-length zero = tabulate-length m.signal m.states
  refined-length (suc r) = tabulate-length (leader (same_row m (refined m r))) m.states

  pub refine-length : (p : List ℕ) → length (refine m p) ≡ m.states
  refine-length p = tabulate-length (leader (same_row m p)) m.states

  -- once a round changes nothing, no later one does
  stays : (r d : ℕ) → refine m (refined m r) ≡ refined m r → refined m (r + d) ≡ refined m r
  unfolding refined
  stays r zero e = let i : r + 0 ≡ r = omega arith in ap (refined m) i
  stays r (suc d) e =
      let i : r + suc d ≡ suc (r + d) = omega arith in
      ap (refined m) i ∙ ap (refine m) (stays r d e) ∙ e

  pub rounds-begin : (p : List ℕ) → p ≡ tabulate m.signal m.states → p ≡ refined m 0
  unfolding refined
  rounds-begin p e = e

  pub rounds-end : (p q : List ℕ) (r : ℕ) → p ≡ refined m r → q ≡ refine m p → p ≡ q → r ≤ m.states → p ≡ blocks m
  rounds-end p q r e d i h =
      let j : refine m (refined m r) ≡ refined m r = rw (← e) (sym d ∙ sym i) in
      let k : r + (m.states - r) ≡ m.states = omega arith in
      e ∙ sym (stays r (m.states - r) j) ∙ ap (refined m) k

  pub rounds-more : (p q s : List ℕ) (r : ℕ) → p ≡ refined m r → q ≡ refine m p → s ≡ q → s ≡ refined m (r + 1)
  unfolding refined
  rounds-more p q s r e d i = i ∙ d ∙ ap (refine m) e ∙ sym (ap (refined m) (add-one r))

  pub rounds-all : (p : List ℕ) (r : ℕ) → r ≤ m.states → m.states ≤ r → p ≡ refined m r → p ≡ blocks m
  rounds-all p r a b e = let i : r ≡ m.states = omega arith in e ∙ ap (refined m) i

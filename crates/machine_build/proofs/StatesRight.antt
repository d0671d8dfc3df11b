-- The states that the code discovers are the theory's.
use Prim.Native.Nat.{ℕ, ◌<◌}
use mathlib.Core.Path.{◌≡◌, sym, ap, subst, ◌∙◌}
use mathlib.Core.Bool.{Bool}
use mathlib.Core.List.{List, map, Memᴰ}
use lib.ListN.{length}
use Rattle.theory_resolution.specs.Table.{Table, WellFormed}
use Rattle.theory_resolution.specs.Direct.{start, same_state, StateOf}
use Rattle.theory_resolution.specs.Direct as direct
use Rattle.theory_resolution.specs.Symbols.{symbols, symbol_at, steps_as, step_at}
use Rattle.theory_resolution.specs.Discovery.{discover, targets}
use Rattle.theory_resolution.specs.Build.{discovered}
use Rattle.theory_resolution.proofs.Direct.{state-exact}
use Rattle.theory_resolution.proofs.TableStep.{state-start, state-step}
use Rattle.theory_resolution.proofs.Coded.{discover-all, discover-code, targets-code}
use Rattle.node_search.specs.Arrays.{InnerIn}
use Rattle.node_step.specs.Rows.{Numbers}
use Rattle.node_step.specs.StatusByte.{same_packed}
use Rattle.node_step.specs.declared.stored.Packed.{Packed}
use Rattle.node_step.proofs.Both.{packed-test}
use Rattle.machine_symbols.specs.Listed.{SymbolsIn}
use Rattle.machine_symbols.specs.Steps.{next_state}
use Rattle.machine_symbols.proofs.StepRight.{code, code-start, next-code}
use Rattle.machine_build.specs.States.{found}

module _ (T : Table) (wf : WellFormed T) (rows ps : List ℕ) (signals : ℕ) (nu : Numbers rows ps signals T) (sy : List ℕ) (count : ℕ) (si : SymbolsIn T sy count)
    (inner : List Bool) (ii : InnerIn inner T) where
  keeps : (st : direct.State) (k : ℕ) → StateOf T st → k < count → StateOf T (step_at T st k)
  keeps st k g h = state-step T wf st (steps_as (symbol_at T k)) g

  abbrev next : Packed → ℕ → Packed
  next = next_state rows ps inner signals sy

  -- discovery
  pub found-code : (n : ℕ) → found next count n ≡ map (code T) (discovered T n)
  found-code n =
      ap (λ z. discover same_packed next count z n) (sym (code-start T T.cats))
      ∙ discover-code same_state state-exact (step_at T) same_packed next (code T) count (StateOf T) keeps
      (packed-test T nu.few-cats nu.few-nodes) (next-code T wf rows ps signals nu sy count si inner ii) (start T.cats) (state-start T wf) n
      ∙ ap (λ z. map (code T) (discover same_state (step_at T) z (start T.cats) n)) (sym si.all-symbols)

  pub all_found : (n : ℕ) (st : direct.State) → Memᴰ st (discovered T n) → StateOf T st
  all_found n =
      subst (λ (z : ℕ). (st : direct.State) → Memᴰ st (discover same_state (step_at T) z (start T.cats) n) → StateOf T st) (sym si.all-symbols)
      (discover-all same_state state-exact (step_at T) same_packed next (code T) count (StateOf T) keeps
      (packed-test T nu.few-cats nu.few-nodes) (next-code T wf rows ps signals nu sy count si inner ii) (start T.cats) (state-start T wf) n)

  pub targets-found : (l : List direct.State) (st : direct.State) → StateOf T st → ((x : direct.State) → Memᴰ x l → StateOf T x)
      → targets same_packed next count (map (code T) l) (code T st) ≡ targets same_state (step_at T) (length (symbols T)) l st
  targets-found l st g a =
      targets-code same_state state-exact (step_at T) same_packed next (code T) count (StateOf T) keeps
      (packed-test T nu.few-cats nu.few-nodes) (next-code T wf rows ps signals nu sy count si inner ii) l st g a
      ∙ ap (λ z. targets same_state (step_at T) z l st) (sym si.all-symbols)

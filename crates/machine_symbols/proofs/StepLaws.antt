-- Laws of the step at a symbol's bytes, and of the test that two states are the same.
use Prim.Native.Nat.{ℕ, ◌≤◌, ◌<◌}
use mathlib.Core.Path.{◌≡◌, sym, ap, ◌∙◌}
use mathlib.Core.Bool.{Bool}
use mathlib.Core.List.{List}
use lib.Dec.{eqb}
use borrow.Author.Tests.{lt-ltb, le-ltb}
use Rattle.base_numbers.specs.Numbers.{most_symbols}
use Rattle.node_step.specs.StatusByte.{step_packed}
use Rattle.node_step.specs.declared.stored.Packed.{Packed}
use Rattle.machine_symbols.specs.declared.Symbol.{Symbol}
use Rattle.machine_symbols.specs.Listed.{symbol_in}
use Rattle.machine_symbols.specs.Steps.{next_state}

module _ (rows ps : List ℕ) (inner : List Bool) (n : ℕ) (sy : List ℕ) (st : Packed) (k : ℕ) where
  pub next_past : most_symbols ≤ k → st ≡ next_state rows ps inner n sy st k
  unfolding next_state
  next_past h = sym (rw (le-ltb k most_symbols h))

  pub next-is : k < most_symbols → {s : Symbol} {c : ℕ} {r : Packed} → s ≡ symbol_in sy k → c ≡ s.category
      → r ≡ step_packed rows ps inner n st c s.node (eqb s.kind 0) → r ≡ next_state rows ps inner n sy st k
  unfolding next_state
  next-is h {s} e f g =
      g ∙ ap (λ z. step_packed rows ps inner n st z s.node (eqb s.kind 0)) f
      ∙ ap (λ (x : Symbol). step_packed rows ps inner n st x.category x.node (eqb x.kind 0)) e ∙ sym (rw (lt-ltb k most_symbols h))

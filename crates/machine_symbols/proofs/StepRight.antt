-- The step of a symbol on states with their statuses in one number is the theory's.
use Prim.Native.Nat.{ℕ, ◌+◌, ◌*◌, ◌<◌}
use mathlib.Core.Path.{◌≡◌, refl, sym, ap, ap₂, ◌∙◌}
use mathlib.Core.Bool.{Bool, true, false, cond, not}
use mathlib.Core.List.{List, []}
use lib.Dec.{eqb}
use lib.ListN.{get_or}
use lib.Seq.{get_or-take}
use borrow.Author.Tests.{lt-ltb}
use native.Mathlib.Omega.{arith}
use Rattle.base_numbers.specs.Numbers.{most_symbols}
use Rattle.base_lists.proofs.Each.{each_at}
use Rattle.base_lists.proofs.Lists.{mem-at}
use Rattle.theory_resolution.specs.Table.{Table, WellFormed}
use Rattle.theory_resolution.specs.Direct.{start, StateOf}
use Rattle.theory_resolution.specs.Nodes.{nodes, number}
use Rattle.theory_resolution.specs.Symbols.{other, symbols, symbol_at, step_at}
use Rattle.theory_resolution.proofs.Symbols.{symbol-known}
use Rattle.theory_resolution.proofs.TableStep.{state-valid}
use Rattle.node_search.specs.Arrays.{InnerIn}
use Rattle.node_step.specs.Rows.{Numbers}
use Rattle.node_step.specs.Step.{coded, step_numbers}
use Rattle.node_step.specs.StatusByte.{packed, packed_of, step_packed}
use Rattle.node_step.specs.declared.stored.Packed.{Packed}
use Rattle.node_step.proofs.Both.{step-symbol, coded-start, of-packed}
use Rattle.machine_image.specs.Image.{symbol_bytes, kind_of}
use Rattle.machine_symbols.specs.Listed.{SymbolsIn}
use Rattle.machine_symbols.specs.Steps.{begin, next_state}
use Rattle.theory_resolution.specs.Direct as direct

-- a state of the theory as the code has it
abbrev pub code : Table → direct.State → Packed
code T st = packed_of (coded T st)

pub code-start : (T : Table) (k : ℕ) → code T (start k) ≡ begin
unfolding packed
code-start T k = ap packed_of (coded-start T k)

kind-whole : (b : Bool) → eqb (kind_of b) 0 ≡ not b
kind-whole true = refl
kind-whole false = refl

module _ (T : Table) (wf : WellFormed T) (rows ps : List ℕ) (signals : ℕ) (nu : Numbers rows ps signals T) (sy : List ℕ) (count : ℕ)
    (si : SymbolsIn T sy count) where
  -- the bytes of symbol k
  module _ (k : ℕ) (h : k < count) where
    byte_at : (j : ℕ) → j < 3 → get_or sy (k * 3 + j) 0 ≡ get_or (symbol_bytes (nodes T) (symbol_at T k)) j 0
    byte_at j l =
        sym (get_or-take (3 * count) sy (k * 3 + j) 0 (omega arith)) ∙ ap (λ z. get_or z (k * 3 + j) 0) si.held
        ∙ each_at (symbol_bytes (nodes T)) 3 (other 0 []) (symbols T) (λ i m. refl) k j (omega (arith, si.all-symbols)) l

    pub category-at : get_or sy (3 * k) 0 ≡ (symbol_at T k).cat
    category-at = ap (λ z. get_or sy z 0) (the (3 * k ≡ k * 3 + 0) (omega arith)) ∙ byte_at 0 (omega arith)
      where
        the : (A : Type 0) → A → A
        the A x = x

    pub node_at_lem : get_or sy (3 * k + 1) 0 ≡ number (nodes T) (symbol_at T k).cat (symbol_at T k).path
    node_at_lem = ap (λ z. get_or sy z 0) (the (3 * k + 1 ≡ k * 3 + 1) (omega arith)) ∙ byte_at 1 (omega arith)
      where
        the : (A : Type 0) → A → A
        the A x = x

    pub kind_at : get_or sy (3 * k + 2) 0 ≡ kind_of (symbol_at T k).other
    kind_at = ap (λ z. get_or sy z 0) (the (3 * k + 2 ≡ k * 3 + 2) (omega arith)) ∙ byte_at 2 (omega arith)
      where
        the : (A : Type 0) → A → A
        the A x = x

  module _ (inner : List Bool) (ii : InnerIn inner T) where
    -- the step
    pub next-code : (st : direct.State) (k : ℕ) → StateOf T st → k < count → next_state rows ps inner signals sy (code T st) k ≡ code T (step_at T st k)
    unfolding next_state step_packed
    next-code st k g h =
        let w = symbol-known T (symbol_at T k) (mem-at (symbols T) k (other 0 []) (omega (arith, si.all-symbols))) in
        ap (λ b. cond b (step_packed rows ps inner signals (code T st) (get_or sy (3 * k) 0) (get_or sy (3 * k + 1) 0) (eqb (get_or sy (3 * k + 2) 0) 0)) (code T st))
        (lt-ltb k most_symbols (omega (arith, si.few-symbols)))
        ∙ ap₂ (λ x y. packed_of (step_numbers rows ps inner signals x y (get_or sy (3 * k + 1) 0) (eqb (get_or sy (3 * k + 2) 0) 0)))
        (of-packed T nu.few-cats nu.few-nodes st g) (category-at k h)
        ∙ ap₂ (λ x y. packed_of (step_numbers rows ps inner signals (coded T st) (symbol_at T k).cat x y)) (node_at_lem k h)
        (ap (λ z. eqb z 0) (kind_at k h) ∙ kind-whole (symbol_at T k).other)
        ∙ ap packed_of (step-symbol rows ps inner signals T wf nu ii st (state-valid T st g) (symbol_at T k) w.0 w.1)

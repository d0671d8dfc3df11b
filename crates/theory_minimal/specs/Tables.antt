-- The machines of a signal table by their numbers, and their smaller machines' walks over URIs.
use Rattle.std.specs.Prelude.{ℕ, ◌≤◌, ◌≡◌, length}
use Rattle.std.proofs.Math.Option.{Option, some}
use mathlib.Core.List.{List, foldl}
use Rattle.theory_resolution.specs.Table.{Urn, Table}
use Rattle.theory_resolution.specs.Direct.{direct, used_of, AllUsed, step_uri}
use Rattle.theory_resolution.specs.Nodes.{nodes}
use Rattle.theory_resolution.specs.Symbols.{symbols, symbol_of, symbol_index}
use Rattle.theory_resolution.specs.Machine.{signal_at, target, Accepted}
use Rattle.theory_resolution.specs.Machine as tables
use Rattle.theory_resolution.specs.Build.{discovered, machine_of}
use Rattle.theory_minimal.specs.Machine.{Machine, Formed}
use Rattle.theory_minimal.specs.Proposal.{small, Fits}
use Rattle.theory_minimal.specs.Refine.{classes}
use Rattle.theory_minimal.specs.Test.{proposed}

-- a table's machine by its numbers: its states' signals and rows, without their statuses
abbrev pub numbers_of : Table → tables.Machine → Machine
numbers_of t m = record { states = length m; symbols = length (symbols t); signal = signal_at m; target = target m }

-- the number of a used URN's symbol
abbrev pub symbol_number : Table → Urn → ℕ
symbol_number t u = symbol_index (symbol_of (nodes t) u) (symbols t)

-- the state of a walk over a list of URIs, used and skipped, from state 0
abbrev pub walk_by : Table → Machine → List (Option Urn) → ℕ
walk_by t m l = foldl (step_uri (λ j u. m.target j (symbol_number t u))) 0 l

-- right machines of a table, with any numbering, repeated pairs and states that nothing reaches
pub record TableLaw (t : Table) (m : tables.Machine) : Type 0 where
  -- by numbers they are formed
  pub formed : Accepted t m → Formed (numbers_of t m)
  -- and the smaller machine of a proposal that fits resolves as they do, and as direct resolution does
  pub small-walks : Accepted t m → (p : List ℕ) → Fits (numbers_of t m) p → (l : List (Option Urn)) → AllUsed t l
      → (small (numbers_of t m) p).signal (walk_by t (small (numbers_of t m) p) l) ≡ (direct t (used_of l)).signal

-- a built machine always has a proposal that fits
abbrev pub BuiltLaw : Table → ℕ → Type 0
BuiltLaw t n =
    length (discovered t n) ≤ n
    → proposed (numbers_of t (machine_of t (discovered t n))) ≡ some (classes (numbers_of t (machine_of t (discovered t n))))

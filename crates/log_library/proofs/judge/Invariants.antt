use Prim.Native.Nat.{◌+◌, ◌-◌, ◌*◌, ◌≤◌}
use mathlib.Core.Path.{◌≡◌}
use Rattle.log_library.specs.Log.{calls_from, calls_of}
use Rattle.log_library.specs.Verdict.{judged}
use Rattle.log_library.proofs.judge.Given as goal

abbrev pub invariant-loop-k : goal.invariant-loop-k
invariant-loop-k l = (judged l.t 0 (calls_of l.log) ≡ judged l.t l.k (calls_from l.log l.at (l.calls - l.k))) × (l.at ≤ 2 + 65540 * l.k)

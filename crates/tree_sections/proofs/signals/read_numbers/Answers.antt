use native.Mathlib.Omega.{arith}
use Prim.Native.Nat.{◌<◌}
use mathlib.Core.Path.{refl, sym}
use lib.ListN.{length}
use Rattle.base_lists.proofs.Numbers.{one_byte}
use Rattle.table_sections.proofs.Readings.{passed-on, run_more, run-stop, run-ends, byte-read}
use Rattle.tree_sections.proofs.TreeReadings.{number-keep, number_put}
use Rattle.tree_sections.proofs.signals.read_numbers.Goals as goal

pub loop-i-init : goal.loop-i-init
loop-i-init c = refl

pub returns-in_err-b-clause-result_after : goal.returns-in_err-b-clause-result_after
returns-in_err-b-clause-result_after c = rw (passed-on c.from_residual.result c.from_residual.ensures)
    (run-stop _ _ _ _ _ _ _ c.loop-i.invariant _ (omega arith) (sym c.in_err-b.ensures))

pub loop-i-preserved : goal.loop-i-preserved
loop-i-preserved c = let i = c.loop-i.i in
    let number = c.loop-i.number in
    let signal = c.loop-i.signal in
    let h : i < length signal = omega arith in
    let k : i < length number = omega arith in
    run_more _ _ _ _ _ _ _ c.loop-i.invariant _ _ _ (omega arith) (sym c.in_ok-b.ensures) (λ j l. number-keep signal number i _ _ j l)
    (number_put signal number i _ (one_byte c.small.ensures (omega (arith, (byte-read _ _ _ _ _ _ (sym c.in_ok-b.ensures)).high))) h k)

pub returns-clause-result_after : goal.returns-clause-result_after
returns-clause-result_after c = run-ends _ _ _ _ _ _ _ c.loop-i.invariant (omega arith)

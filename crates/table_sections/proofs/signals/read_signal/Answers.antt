use native.Mathlib.Omega.{arith}
use mathlib.Core.Path.{sym}
use Rattle.table_sections.proofs.Readings.{passed-on, byte-read}
use Rattle.table_sections.proofs.SectionLaws.{signal-fault, signal-more, at_most}
use Rattle.table_sections.proofs.signals.read_signal.Goals as goal

pub returns-in_err-k-clause-result_after : goal.returns-in_err-k-clause-result_after
returns-in_err-k-clause-result_after c = rw (passed-on c.from_residual.result c.from_residual.ensures) (λ a. signal-fault _ _ _ _ (sym c.in_err-k.ensures))

pub returns-in_err-k-clause-few : goal.returns-in_err-k-clause-few
returns-in_err-k-clause-few c = rw (passed-on c.from_residual.result c.from_residual.ensures) (tt, λ a. a)

pub overflow_add-start : goal.overflow_add-start
overflow_add-start c = omega (arith, (byte-read _ _ _ _ _ _ (sym c.in_ok-k.ensures)).high)

pub read_urns-requires : goal.read_urns-requires
read_urns-requires c = (omega arith, omega (arith, (byte-read _ _ _ _ _ _ (sym c.in_ok-k.ensures)).high), omega arith)

pub returns-clause-result_after : goal.returns-clause-result_after
returns-clause-result_after c = λ a. signal-more _ _ _ _ _ c.args.start (sym c.in_ok-k.ensures) (c.read_urns.ensures.result_after a)

pub returns-clause-few : goal.returns-clause-few
returns-clause-few c = (at_most c.read_urns.result c.args.start _ _ c.read_urns.ensures.few.0 (byte-read _ _ _ _ _ _ (sym c.in_ok-k.ensures)).high, c.read_urns.ensures.few.1)

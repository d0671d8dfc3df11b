use native.Mathlib.Omega.{arith}
use mathlib.Core.Path.{sym}
use Rattle.base_numbers.specs.Refusals.{refusal_number}
use Rattle.table_sections.proofs.Readings.{passed-on, byte-read}
use Rattle.table_sections.proofs.SectionLaws.{rest-fault, rest-bad, rest_more, rest-good}
use Rattle.table_sections.proofs.read_rest.Goals as goal

pub returns-in_err-signals-clause-read_from : goal.returns-in_err-signals-clause-read_from
returns-in_err-signals-clause-read_from c = rw (passed-on c.from_residual.result c.from_residual.ensures)
    (λ a. rest-fault _ _ _ (sym c.in_err-signals.ensures))

pub read_signals-requires : goal.read_signals-requires
read_signals-requires c = ((byte-read _ _ _ _ _ _ (sym c.in_ok-signals.ensures)).high, omega arith)

pub returns-in_err-urns-clause-read_from : goal.returns-in_err-urns-clause-read_from
returns-in_err-urns-clause-read_from c = rw (passed-on c.from_residual-in_err-urns.result c.from_residual-in_err-urns.ensures)
    (λ a. rest-bad _ _ _ _ (sym c.in_ok-signals.ensures) _ (c.in_err-urns.ensures.result_after a))

pub returns-then-q-t-clause-read_from : goal.returns-then-q-t-clause-read_from
unfolding refusal_number
returns-then-q-t-clause-read_from c = λ a. rest_more _ _ _ _ (sym c.in_ok-signals.ensures) _ _ _ (c.in_ok-urns.ensures.result_after a) c.if-q-t.true

pub returns-clause-read_from : goal.returns-clause-read_from
returns-clause-read_from c = λ a.
    let g = rest-good _ _ _ _ (sym c.in_ok-signals.ensures) _ _ _ (c.in_ok-urns.ensures.result_after a) c.if-q-t.false in
    record {
      signals = g.0;
      next = _;
      whole = g.1;
      urns = g.2;
      all-signals = g.3;
      few-signals = (byte-read _ _ _ _ _ _ (sym c.in_ok-signals.ensures)).high;
      few-urns = c.in_ok-urns.ensures.few;
    }

use mathlib.Core.Path.{refl, sym}
use Rattle.base_numbers.specs.Refusals.{refusal_number}
use Rattle.table_sections.proofs.Readings.{passed-on, byte-read}
use Rattle.tree_sections.proofs.TreeReadings.{rest-fault, rest-bad, rest_more, rest-good}
use Rattle.tree_sections.proofs.read_rest.Goals as goal

pub returns-in_err-signals : goal.returns-in_err-signals
returns-in_err-signals c = rw (passed-on c.from_residual.result c.from_residual.ensures) (rest-fault _ _ (sym c.in_err-signals.ensures))

pub read_signals-requires : goal.read_signals-requires
read_signals-requires c = (byte-read _ _ _ _ _ _ (sym c.in_ok-signals.ensures)).high

pub returns-in_err-numbers : goal.returns-in_err-numbers
returns-in_err-numbers c = rw (passed-on c.from_residual-in_err-numbers.result c.from_residual-in_err-numbers.ensures)
    (rest-bad _ _ _ _ (sym c.in_ok-signals.ensures) _ c.in_err-numbers.ensures.result_after)

pub returns-then-q-t : goal.returns-then-q-t
unfolding refusal_number
returns-then-q-t c = rest_more _ _ _ _ (sym c.in_ok-signals.ensures) _ _ _ c.in_ok-numbers.ensures.result_after c.if-q-t.true

pub returns : goal.returns
returns c = let g = rest-good _ _ _ _ (sym c.in_ok-signals.ensures) _ _ _ c.in_ok-numbers.ensures.result_after c.if-q-t.false in
    record {
      signals = g.0;
      next = _;
      whole = g.1;
      held = record {
        numbers = g.2;
        all-signals = g.3;
        few-signals = (byte-read _ _ _ _ _ _ (sym c.in_ok-signals.ensures)).high;
        few-numbers = c.in_ok-numbers.ensures.few;
      };
      same-categories = refl;
      same_nodes = refl;
    }

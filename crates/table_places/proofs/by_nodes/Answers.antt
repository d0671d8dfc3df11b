use native.Mathlib.Omega.{arith}
use mathlib.Core.Path.{sym, ◌∙◌}
use Rattle.base_numbers.specs.Refusals.{refusal_number}
use Rattle.table_places.proofs.Placing.{is-nine, is-ten, passed, fillable, rows-good, rows-eleven, not-placed}
use Rattle.table_places.proofs.FilledLaws.{silent-none, silent-some, number-nine, number-ten, number-last, last-first, last-eleven}
use Rattle.table_places.proofs.FilledLaws.{many-signals, many-urns, by_rows}
use Rattle.table_places.proofs.by_nodes.Goals as goal
use Rattle.table_places.proofs.by_nodes.Goals.{then-n-gt-MOST_SIGNALS-via-then-n-gt-MOST_SIGNALS, then-n-gt-MOST_SIGNALS-via-else-n-gt-MOST_SIGNALS+then-m-gt-MOST_TABLE_URNS}

pub returns-then-n-gt-MOST_SIGNALS-clause-value : goal.returns-then-n-gt-MOST_SIGNALS-clause-value
unfolding refusal_number
returns-then-n-gt-MOST_SIGNALS-clause-value c = elim c.then-n-gt-MOST_SIGNALS.branch [
  | then-n-gt-MOST_SIGNALS-via-then-n-gt-MOST_SIGNALS w ↦ many-signals _ _ _ _ _ _ w.if-n-gt-MOST_SIGNALS.true
  | then-n-gt-MOST_SIGNALS-via-else-n-gt-MOST_SIGNALS+then-m-gt-MOST_TABLE_URNS w ↦ many-urns _ _ _ _ _ _ w.if-n-gt-MOST_SIGNALS.false w.if-m-gt-MOST_TABLE_URNS.true
]

pub returns-then-not-fill_rows-clause-value : goal.returns-then-not-fill_rows-clause-value
unfolding refusal_number
returns-then-not-fill_rows-clause-value c = by_rows _ _ _ _ _ _ c.if-n-gt-MOST_SIGNALS.false c.if-m-gt-MOST_TABLE_URNS.false c.fill_rows.ensures.all
    (number-nine _ _ 0 c.if-not-fill_rows.true)

pub returns-then-not-fill_rows-clause-placed : goal.returns-then-not-fill_rows-clause-placed
unfolding refusal_number
returns-then-not-fill_rows-clause-placed c = λ T path L N p.
    not-placed 9 (λ z. omega arith) (is-nine L (c.fill_rows.ensures.value (fillable L c.args.rows.now N p)) c.if-not-fill_rows.true)

pub returns-then-not-silent-clause-value : goal.returns-then-not-silent-clause-value
unfolding refusal_number
returns-then-not-silent-clause-value c = by_rows _ _ _ _ _ _ c.if-n-gt-MOST_SIGNALS.false c.if-m-gt-MOST_TABLE_URNS.false c.fill_rows.ensures.all
    (number-ten _ 0 c.if-not-fill_rows.false (sym c.silent.ensures ∙ c.if-not-silent.true))

pub returns-then-not-silent-clause-placed : goal.returns-then-not-silent-clause-placed
unfolding refusal_number
returns-then-not-silent-clause-placed c = λ T path L N p. not-placed 10 (λ z. omega arith)
    (is-ten L (c.fill_rows.ensures.value (fillable L c.args.rows.now N p)) c.if-not-fill_rows.false (silent-none _ _ c.silent.ensures)
    (silent-some _ _ c.silent.ensures) c.if-not-silent.true)

pub returns-then-not-rows_distinct-clause-value : goal.returns-then-not-rows_distinct-clause-value
unfolding refusal_number
returns-then-not-rows_distinct-clause-value c = by_rows _ _ _ _ _ _ c.if-n-gt-MOST_SIGNALS.false c.if-m-gt-MOST_TABLE_URNS.false c.fill_rows.ensures.all
    (number-last _ 0 c.if-not-fill_rows.false (sym c.silent.ensures ∙ c.if-not-silent.false)
    (last-eleven 0 (sym c.rows_distinct.ensures ∙ c.if-not-rows_distinct.true)))

pub returns-then-not-rows_distinct-clause-placed : goal.returns-then-not-rows_distinct-clause-placed
unfolding refusal_number
returns-then-not-rows_distinct-clause-placed c = λ T path L N p. let f = fillable L c.args.rows.now N p in
    let S = passed L (c.fill_rows.ensures.value f) c.if-not-fill_rows.false (silent-none _ _ c.silent.ensures) (silent-some _ _ c.silent.ensures)
    c.if-not-silent.false in
    let v = c.fill_rows.ensures.filled f c.if-not-fill_rows.false in
    not-placed 11 (λ z. omega arith) (rows-eleven S N c.fill_rows.new.rows v.1 c.rows_distinct.ensures c.if-not-rows_distinct.true)

pub returns-clause-value : goal.returns-clause-value
returns-clause-value c = by_rows _ _ _ _ _ _ c.if-n-gt-MOST_SIGNALS.false c.if-m-gt-MOST_TABLE_URNS.false c.fill_rows.ensures.all
    (number-last _ 0 c.if-not-fill_rows.false (sym c.silent.ensures ∙ c.if-not-silent.false)
    (last-first 0 (sym c.rows_distinct.ensures ∙ c.if-not-rows_distinct.false)))

pub returns-clause-placed : goal.returns-clause-placed
returns-clause-placed c = λ T path L N p. let f = fillable L c.args.rows.now N p in
    let S = passed L (c.fill_rows.ensures.value f) c.if-not-fill_rows.false (silent-none _ _ c.silent.ensures) (silent-some _ _ c.silent.ensures)
    c.if-not-silent.false in
    let v = c.fill_rows.ensures.filled f c.if-not-fill_rows.false in
    rows-good S N _ v.1 c.rows_distinct.ensures c.if-not-rows_distinct.false v.0

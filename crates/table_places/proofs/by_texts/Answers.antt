use native.Mathlib.Omega.{arith}
use mathlib.Core.Path.{refl, sym, ◌∙◌}
use Rattle.base_numbers.specs.Numbers.{most_table_urns}
use Rattle.base_numbers.specs.Refusals.{refusal_number}
use Rattle.table_sections.proofs.Padding.{clear}
use Rattle.table_places.proofs.Placing.{in-range, is-nine, is-ten, passed, crowded-right}
use Rattle.table_places.proofs.FilledLaws.{silent-none, silent-some, number-nine, number-ten, number-last, texts-signals, texts-urns}
use Rattle.table_places.proofs.FilledLaws.{texts-categories, by_slots}
use Rattle.table_places.proofs.by_texts.Goals as goal
use Rattle.table_places.proofs.by_texts.Goals.{then-n-gt-MOST_SIGNALS-via-then-n-gt-MOST_SIGNALS, then-n-gt-MOST_SIGNALS-via-else-n-gt-MOST_SIGNALS+then-m-gt-MOST_TABLE_URNS, then-n-gt-MOST_SIGNALS-via-else-n-gt-MOST_SIGNALS+else-m-gt-MOST_TABLE_URNS+then-categories-gt-MOST_CATEGORIES}

pub returns-then-n-gt-MOST_SIGNALS-clause-value : goal.returns-then-n-gt-MOST_SIGNALS-clause-value
unfolding refusal_number
returns-then-n-gt-MOST_SIGNALS-clause-value c = elim c.then-n-gt-MOST_SIGNALS.branch [
  | then-n-gt-MOST_SIGNALS-via-then-n-gt-MOST_SIGNALS w ↦ texts-signals _ _ _ _ _ _ _ _ w.if-n-gt-MOST_SIGNALS.true
  | then-n-gt-MOST_SIGNALS-via-else-n-gt-MOST_SIGNALS+then-m-gt-MOST_TABLE_URNS w ↦
      texts-urns _ _ _ _ _ _ _ _ w.if-n-gt-MOST_SIGNALS.false w.if-m-gt-MOST_TABLE_URNS.true
  | then-n-gt-MOST_SIGNALS-via-else-n-gt-MOST_SIGNALS+else-m-gt-MOST_TABLE_URNS+then-categories-gt-MOST_CATEGORIES w ↦
      texts-categories _ _ _ _ _ _ _ _ w.if-n-gt-MOST_SIGNALS.false w.if-m-gt-MOST_TABLE_URNS.false w.if-categories-gt-MOST_CATEGORIES.true
]

pub fill_slots-requires : goal.fill_slots-requires
fill_slots-requires c = (omega arith, refl, λ k. (clear most_table_urns).1 k (omega arith))

pub returns-then-not-fill_slots-clause-value : goal.returns-then-not-fill_slots-clause-value
unfolding refusal_number
returns-then-not-fill_slots-clause-value c = by_slots _ _ _ _ _ _ _ _ c.if-n-gt-MOST_SIGNALS.false c.if-m-gt-MOST_TABLE_URNS.false
    c.if-categories-gt-MOST_CATEGORIES.false c.fill_slots.ensures.all (number-nine _ _ 12 c.if-not-fill_slots.true)

pub returns-then-not-fill_slots-clause-number : goal.returns-then-not-fill_slots-clause-number
unfolding refusal_number
returns-then-not-fill_slots-clause-number c = λ T L g h. is-nine L (c.fill_slots.ensures.value (in-range L)) c.if-not-fill_slots.true

pub returns-then-not-silent-clause-value : goal.returns-then-not-silent-clause-value
unfolding refusal_number
returns-then-not-silent-clause-value c = by_slots _ _ _ _ _ _ _ _ c.if-n-gt-MOST_SIGNALS.false c.if-m-gt-MOST_TABLE_URNS.false
    c.if-categories-gt-MOST_CATEGORIES.false c.fill_slots.ensures.all
    (number-ten _ 12 c.if-not-fill_slots.false (sym c.silent.ensures ∙ c.if-not-silent.true))

pub returns-then-not-silent-clause-number : goal.returns-then-not-silent-clause-number
unfolding refusal_number
returns-then-not-silent-clause-number c = λ T L g h. is-ten L (c.fill_slots.ensures.value (in-range L)) c.if-not-fill_slots.false
    (silent-none _ _ c.silent.ensures) (silent-some _ _ c.silent.ensures) c.if-not-silent.true

pub returns-clause-value : goal.returns-clause-value
returns-clause-value c = by_slots _ _ _ _ _ _ _ _ c.if-n-gt-MOST_SIGNALS.false c.if-m-gt-MOST_TABLE_URNS.false
    c.if-categories-gt-MOST_CATEGORIES.false c.fill_slots.ensures.all
    (number-last _ 12 c.if-not-fill_slots.false (sym c.silent.ensures ∙ c.if-not-silent.false) c.crowded.ensures)

pub returns-clause-number : goal.returns-clause-number
returns-clause-number c = λ T L g h. let S = passed L (c.fill_slots.ensures.value (in-range L)) c.if-not-fill_slots.false
    (silent-none _ _ c.silent.ensures) (silent-some _ _ c.silent.ensures) c.if-not-silent.false in
    crowded-right _ _ _ S c.fill_slots.new.slots (c.fill_slots.ensures.filled (in-range L) c.if-not-fill_slots.false) c.args.categories
    g c.if-categories-gt-MOST_CATEGORIES.false h c.crowded.ensures

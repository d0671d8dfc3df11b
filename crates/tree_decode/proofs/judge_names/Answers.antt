use lib.ListN.{replicate}
use Rattle.base_numbers.specs.Refusals.{refusal_number}
use Rattle.base_numbers.specs.Numbers.{most_signals}
use Rattle.table_sections.proofs.Padding.{clear}
use Rattle.tree_decode.proofs.Composed.{nodes-all, listed-twice, not-used, by-places}
use Rattle.table_names.proofs.RoomLaws.{distinct-in, used-in}
use Rattle.tree_decode.proofs.judge_names.Goals as goal

pub urn_categories-requires : goal.urn_categories-requires
urn_categories-requires c = (
  c.requires.grows.read.held.few-numbers,
  nodes-all c.args.t.now c.args.s.now.name_at c.args.s.now.name_len c.args.s.now.category c.args.s.now.parent c.args.s.now.at c.args.s.now.len
      c.args.s.now.signal c.args.s.now.number c.args.s.now.counts c.requires.grows,
)

pub returns : goal.returns
returns c = by-places c.args.t.now c.args.s.now.name_at c.args.s.now.name_len c.args.s.now.category c.args.s.now.parent c.args.s.now.at c.args.s.now.len
    c.args.s.now.signal c.args.s.now.number c.args.s.now.counts c.requires (distinct-in _ _ _ _ c.names_distinct.ensures c.requires.grows.read.few-categories)
    c.if-not-names_distinct.false c.urn_categories.new.out c.urn_categories.ensures
    (used-in _ _ _ c.all_used.ensures c.requires.grows.read.held.few-numbers) c.if-not-all_used.false _ (replicate most_signals 0) _ (clear most_signals)
    c.by_nodes.ensures.placed

pub returns-then-not-all_used : goal.returns-then-not-all_used
unfolding refusal_number
returns-then-not-all_used c = not-used c.args.t.now c.args.s.now.name_at c.args.s.now.name_len c.args.s.now.category c.args.s.now.parent c.args.s.now.at c.args.s.now.len
    c.args.s.now.signal c.args.s.now.number c.args.s.now.counts c.requires (distinct-in _ _ _ _ c.names_distinct.ensures c.requires.grows.read.few-categories)
    c.if-not-names_distinct.false c.urn_categories.new.out c.urn_categories.ensures
    (used-in _ _ _ c.all_used.ensures c.requires.grows.read.held.few-numbers) c.if-not-all_used.true

pub returns-then-not-names_distinct : goal.returns-then-not-names_distinct
unfolding refusal_number
returns-then-not-names_distinct c = listed-twice c.args.t.now c.args.s.now.name_at c.args.s.now.name_len c.args.s.now.category c.args.s.now.parent c.args.s.now.at c.args.s.now.len
    c.args.s.now.signal c.args.s.now.number c.args.s.now.counts c.requires (distinct-in _ _ _ _ c.names_distinct.ensures c.requires.grows.read.few-categories) c.if-not-names_distinct.true

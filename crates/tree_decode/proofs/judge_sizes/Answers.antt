use Rattle.base_numbers.specs.Refusals.{refusal_number}
use Rattle.tree_decode.proofs.Composed.{parented, nodes-all, is-six, is-seven, fit-as}
use Rattle.tree_decode.proofs.judge_sizes.Goals as goal

pub sizes-requires : goal.sizes-requires
sizes-requires c = (
  c.requires.read.few-nodes,
  c.requires.read.short,
  parented c.args.t.now c.args.s.now.name_at c.args.s.now.name_len c.args.s.now.category c.args.s.now.parent c.args.s.now.at c.args.s.now.len
      c.args.s.now.signal c.args.s.now.number c.args.s.now.counts c.requires,
)

pub depths-requires : goal.depths-requires
depths-requires c = (
  c.requires.read.few-nodes,
  parented c.args.t.now c.args.s.now.name_at c.args.s.now.name_len c.args.s.now.category c.args.s.now.parent c.args.s.now.at c.args.s.now.len
      c.args.s.now.signal c.args.s.now.number c.args.s.now.counts c.requires,
)

pub all_within-requires : goal.all_within-requires
all_within-requires c = (
  c.requires.read.held.few-numbers,
  nodes-all c.args.t.now c.args.s.now.name_at c.args.s.now.name_len c.args.s.now.category c.args.s.now.parent c.args.s.now.at c.args.s.now.len
      c.args.s.now.signal c.args.s.now.number c.args.s.now.counts c.requires,
)

pub all_within-requires-2 : goal.all_within-requires-2
all_within-requires-2 c = (
  c.requires.read.held.few-numbers,
  nodes-all c.args.t.now c.args.s.now.name_at c.args.s.now.name_len c.args.s.now.category c.args.s.now.parent c.args.s.now.at c.args.s.now.len
      c.args.s.now.signal c.args.s.now.number c.args.s.now.counts c.requires,
)

pub judge_names-requires : goal.judge_names-requires
judge_names-requires c = fit-as c.args.t.now c.args.s.now.name_at c.args.s.now.name_len c.args.s.now.category c.args.s.now.parent c.args.s.now.at c.args.s.now.len c.args.s.now.signal
    c.args.s.now.number c.args.s.now.counts c.requires c.sizes.new.out c.sizes.ensures c.all_within.ensures c.if-not-all_within.false
    c.depths.new.out c.depths.ensures c.all_within-2.ensures c.if-not-all_within-2.false

pub returns-then-not-all_within-2 : goal.returns-then-not-all_within-2
unfolding refusal_number
returns-then-not-all_within-2 c = record {
  value = is-seven c.args.t.now c.args.s.now.name_at c.args.s.now.name_len c.args.s.now.category c.args.s.now.parent c.args.s.now.at c.args.s.now.len
      c.args.s.now.signal c.args.s.now.number c.args.s.now.counts c.requires c.sizes.new.out c.sizes.ensures
      c.all_within.ensures c.if-not-all_within.false c.depths.new.out c.depths.ensures c.all_within-2.ensures c.if-not-all_within-2.true;
  measured = record { sizes = c.sizes.ensures; depths = c.depths.ensures };
}

pub returns-then-not-all_within : goal.returns-then-not-all_within
unfolding refusal_number
returns-then-not-all_within c = record {
  value = is-six c.args.t.now c.args.s.now.name_at c.args.s.now.name_len c.args.s.now.category c.args.s.now.parent c.args.s.now.at c.args.s.now.len
      c.args.s.now.signal c.args.s.now.number c.args.s.now.counts c.requires c.sizes.new.out c.sizes.ensures
      c.all_within.ensures c.if-not-all_within.true;
  measured = record { sizes = c.sizes.ensures; depths = c.depths.ensures };
}

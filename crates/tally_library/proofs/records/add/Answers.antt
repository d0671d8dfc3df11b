use Rattle.base_numbers.specs.Refusals.{refusal_number}
use mathlib.Core.Path.{ap, ◌∙◌}
use Rattle.resolve_library.specs.Resolve.{refused}
use Rattle.tally_library.proofs.PlusLaws.{add-past, add-some, add-none}
use Rattle.tally_library.proofs.records.add.Goals as goal

pub returns-then-records-s : goal.returns-then-records-s
returns-then-records-s c = add-past c.args.records.now c.args.s c.args.r c.if-records-s.true

pub returns-in-Some : goal.returns-in-Some
returns-in-Some c = add-some c.args.records.now c.args.s c.args.r c.if-records-s.false c.in-Some.ensures

pub returns-in-None : goal.returns-in-None
unfolding refusal_number
returns-in-None c = add-none c.args.records.now c.args.s c.args.r c.if-records-s.false (c.refused.ensures ∙ ap refused c.from.ensures) c.in-None.ensures

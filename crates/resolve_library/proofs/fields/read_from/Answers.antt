use Prim.Native.Nat.{◌+◌}
use mathlib.Core.Path.{ap, ◌∙◌}
use Rattle.node_step.specs.declared.State.{State}
use Rattle.resolve_record.specs.Coded.{carried_with}
use Rattle.resolve_library.proofs.ReadLaws.{read-refused, read_taken, fed-ends}
use Rattle.resolve_library.proofs.fields.read_from.Goals as goal

pub returns-then-e-ne0 : goal.returns-then-e-ne0
returns-then-e-ne0 c =
    let e = fed-ends _ _ c.requires.0 _ c.requires.2 c.requires.1 _ c.state.ensures c.resolved-e.ensures in
    c.counted.ensures ∙ read-refused _ c.requires.0.refusal _ c.args.carried _ e c.if-e-ne0.true

pub returns : goal.returns
returns c =
    let e = fed-ends _ _ c.requires.0 _ c.requires.2 c.requires.1 _ c.state.ensures c.resolved-e.ensures in
    read_taken _ c.requires.0.refusal _ c.args.carried _ e c.if-e-ne0.false _
    (c.after.ensures ∙ ap (λ (s : State). carried_with s (c.args.carried.values + 1)) c.state-2.ensures)

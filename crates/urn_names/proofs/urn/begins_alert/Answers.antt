use mathlib.Core.Path.{ap, sym, ◌∙◌}
use mathlib.Core.List.{List}
use Prim.Native.Nat.{ℕ}
use Rattle.theory_resolution.specs.Names.{same_name}
use Rattle.theory_resolution.proofs.Names.{name-exact}
use Rattle.base_text.specs.Text.{lowered}
use Rattle.urn_names.proofs.Turns.{scheme, begins-as_is, begins-front, same-pointwise}
use Rattle.urn_names.proofs.urn.begins_alert.Goals as goal

pub returns-then-eq : goal.returns-then-eq
returns-then-eq c =
    let front = c.part-front.result.now in
    let other = c.as_slice.result.now in
    c.if-eq.true ∙ begins-as_is c.args.s.now front c.part-front.ensures
    (name-exact.to front other (sym (same-pointwise front other) ∙ sym c.eq.ensures ∙ c.if-eq.true) ∙ c.as_slice.ensures)

pub returns-else-eq : goal.returns-else-eq
returns-else-eq c =
    c.same_lowered.ensures ∙ ap (λ (t : List ℕ). same_name (lowered t) scheme) c.part-front.ensures ∙ begins-front scheme c.args.s.now

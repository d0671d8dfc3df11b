use mathlib.Core.Path.{ap, ◌∙◌}
use mathlib.Core.Bool.{not}
use Rattle.resolve_early.proofs.SettledLaws.{place-of, beside-no, beside-yes}
use Rattle.resolve_early.proofs.settled.beside_keeps.Goals as goal

pub returns-then-not-is_beside : goal.returns-then-not-is_beside
returns-then-not-is_beside c = ap not c.if-not-is_beside.true ∙ beside-no _ _ _ _ _ _ _ _ c.is_beside.ensures c.if-not-is_beside.true

pub returns-else-not-is_beside : goal.returns-else-not-is_beside
returns-else-not-is_beside c = beside-yes _ _ _ _ _ _ _ _ c.is_beside.ensures c.if-not-is_beside.false
    (place-of _ _ c.requires c.place_in.ensures) c.keeps.ensures

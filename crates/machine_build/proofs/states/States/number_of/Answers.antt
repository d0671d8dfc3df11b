use mathlib.Core.Bool.{◌&&◌}
use mathlib.Core.Path.{refl, ap, ◌∙◌}
use lib.Dec.{ltb}
use lib.ListN.{get_or}
use Rattle.node_step.specs.StatusByte.{same_packed}
use Rattle.machine_symbols.specs.Steps.{begin}
use Rattle.machine_build.proofs.KeptLaws.{found-kept, none-hashed}
use Rattle.machine_build.proofs.states.States.number_of.Goals as goal

pub returns-then-is : goal.returns-then-is
returns-then-is c = λ l k. found-kept c.args.self.now l k c.args.st
    (c.is.ensures ∙ ap (λ j. ltb j c.args.self.now.count && same_packed (get_or c.args.self.now.kept j begin) c.args.st) c.from.ensures) c.if-is.true

pub returns-then-j-eq0 : goal.returns-then-j-eq0
returns-then-j-eq0 c = λ l k. none-hashed c.args.self.now l k c.args.st c.slot_of.ensures.0 refl
    (c.is.ensures ∙ ap (λ j. ltb j c.args.self.now.count && same_packed (get_or c.args.self.now.kept j begin) c.args.st) c.from.ensures)
    c.if-is.false c.if-j-eq0.true

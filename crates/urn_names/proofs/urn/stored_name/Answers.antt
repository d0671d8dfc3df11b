use mathlib.Core.Path.{◌∙◌}
use Rattle.urn_names.proofs.Capitals.{name-small}
use Rattle.urn_names.proofs.urn.stored_name.Goals as goal

pub returns : goal.returns
returns c = c.name.ensures ∙ name-small c.args.s.now

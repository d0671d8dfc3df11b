use mathlib.Core.Path.{◌∙◌}
use Rattle.urn_names.proofs.Turns.{alert-other, alert-rest}
use Rattle.urn_names.proofs.urn.is_alert_urn.Goals as goal

pub returns-then-begins_alert : goal.returns-then-begins_alert
returns-then-begins_alert c = alert-rest _ _ c.begins_alert.ensures c.if-begins_alert.true c.part.ensures c.rest_formed.ensures

pub returns-else-begins_alert : goal.returns-else-begins_alert
returns-else-begins_alert c = c.if-begins_alert.false ∙ alert-other _ c.begins_alert.ensures c.if-begins_alert.false

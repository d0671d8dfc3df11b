use Rattle.std.proofs.Common.{ap, ◌∙◌, not, arith}
use Rattle.theory_resolution.specs.Names.{same_name}
use Rattle.node_search.proofs.TextLaws.{text_in_lem}
use Rattle.resolve_pair.specs.Alone.{other_at}
use Rattle.resolve_pair.proofs.names.is_other.Goals as goal

pub returns : goal.returns
unfolding other_at
returns c = ap not (c.same.ensures ∙ ap (same_name c.args.x.now) (text_in_lem _ _ _ _ _ c.text_at.ensures.result_value c.requires))

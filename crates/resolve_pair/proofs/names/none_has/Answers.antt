use Rattle.std.proofs.Common.{ap, ◌∙◌, List, ℕ}
use Rattle.base_lists.proofs.Chains.{all_below-is}
use Rattle.base_lists.specs.Lists.{all_below}
use Rattle.node_search.proofs.TextLaws.{text_in_lem}
use Rattle.resolve_pair.specs.Alone.{other_at, none_at}
use Rattle.resolve_pair.proofs.names.none_has.Goals as goal

pub returns : goal.returns
unfolding none_at
returns c =
    all_below-is c.none_is.result c.args.n (other_at c.text_at.result.now c.args.lamp.now c.args.l.now.name_at c.args.l.now.name_len) c.none_is.ensures
    ∙ ap (λ (x : List ℕ). all_below c.args.n (other_at x c.args.lamp.now c.args.l.now.name_at c.args.l.now.name_len))
    (text_in_lem _ _ _ _ _ c.text_at.ensures.result_value c.requires.1)

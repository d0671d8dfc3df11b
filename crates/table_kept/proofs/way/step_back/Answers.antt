use Rattle.std.proofs.Common.{ap, ◌∙◌, ◌∷◌}
use Rattle.table_kept.specs.Marks.{next_in}
use Rattle.table_kept.specs.Held.{signals_in, nodes_in}
use Rattle.table_kept.proofs.WayLaws.{back_at, back-node}
use Rattle.table_kept.proofs.way.step_back.Goals as goal

pub returns : goal.returns
returns c = let h = c.at-x.ensures in
    let b = c.signal_before-b.ensures in (
      back_at (next_in c.args.all.now) c.args.nodes (signals_in c.args.h) c.args.at h b,
      c.with_first.ensures.0,
      c.with_first.ensures.1 ∙ ap (λ v. v ∷ nodes_in c.args.w) (back-node (next_in c.args.all.now) c.args.nodes
          (signals_in c.args.h) c.args.at h b c.at.ensures c.node_to-k.ensures.0),
    )

use Rattle.std.proofs.Common.{ℕ, ap, refl, sym, ◌∙◌}
use Rattle.theory_resolution.specs.Nodes.{nodes, node_at}
use Rattle.table_decode.specs.Tables.{table_of, category_names}
use Rattle.sample_seed.specs.Numbers.{choice_of}
use Rattle.sample_library.specs.Sample.{foreign_uri, node_uri}
use Rattle.sample_library.proofs.WriteLaws.{draw-foreign, draw-node, drawn-as, node-chosen}
use Rattle.sample_library.proofs.entry.entry.Goals as goal

pub node_entry-requires : goal.node_entry-requires
node_entry-requires c = (c.requires.0, node-chosen _ _ c.requires.0 _ _ _ c.choice-i.ensures refl, c.requires.1)

pub returns-then-kind-eq2 : goal.returns-then-kind-eq2
returns-then-kind-eq2 c =
    let names = category_names c.args.t.now in
    let ns = nodes (table_of c.args.t.now) in
    let kind = c.choice-kind.ensures ∙ ap (λ (z : ℕ). choice_of z 3) (c.draw.ensures.0 ∙ sym c.draw.ensures.1) in
    drawn-as c.args.buf.now c.args.at (foreign_uri names) (draw-foreign names ns c.args.seed.now.x c.draw.ensures.1 kind c.if-kind-eq2.true) c.foreign_entry.ensures

pub returns-else-kind-eq2 : goal.returns-else-kind-eq2
returns-else-kind-eq2 c =
    let names = category_names c.args.t.now in
    let ns = nodes (table_of c.args.t.now) in
    let kind = c.choice-kind.ensures ∙ ap (λ (z : ℕ). choice_of z 3) (c.draw.ensures.0 ∙ sym c.draw.ensures.1) in
    let next = c.draw-else-kind-eq2.ensures in
    let i = c.choice-i.ensures ∙ ap (λ (z : ℕ). choice_of z c.args.d.now.nodes) (next.0 ∙ sym next.1) in
    drawn-as c.args.buf.now c.args.at (node_uri names ns c.choice-kind.result (node_at ns c.choice-i.result))
    (draw-node names ns c.args.seed.now.x c.draw.ensures.1 kind c.if-kind-eq2.false next.1 i (sym c.requires.0.holds.nodes.all-nodes)) c.node_entry.ensures

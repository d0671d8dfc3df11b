use Rattle.std.proofs.Common.{ap, ◌∙◌, arith, length, ◌+◌}
use Rattle.std.proofs.lemmas.List.Edits.{sets}
use Rattle.base_lists.specs.Lists.{joined}
use Rattle.sample_names.proofs.SearchLaws.{strange-held}
use Rattle.sample_library.proofs.ValueLaws.{node-fits}
use Rattle.sample_library.proofs.WriteLaws.{name-is, path-is, node-plain, node-strange}
use Rattle.sample_library.proofs.entry.node_entry.Goals as goal

pub put-requires : goal.put-requires
unfolding joined
put-requires c =
    let r = c.requires.0 in let h = c.requires.1 in
    let name = name-is _ _ r _ h c.from.ensures c.text_at-name.ensures.result_value in
    let path = path-is _ _ r _ h c.text_at-path.ensures.result_value in
    let row = node-strange _ _ r _ h _ _ name path c.args.kind c.if-kind-eq1.true (c.text.ensures.text ∙ strange-held _ _ _ _ _ _ _ c.strange-z.ensures r.holds.nodes) in
    omega (arith, ap length row, node-fits c.args.t.now r.formed c.args.kind c.args.i (omega (arith, h, r.holds.nodes.all-nodes)), c.requires.2)

pub put-requires-else-kind-eq1 : goal.put-requires-else-kind-eq1
unfolding joined
put-requires-else-kind-eq1 c =
    let r = c.requires.0 in let h = c.requires.1 in
    let name = name-is _ _ r _ h c.from.ensures c.text_at-name.ensures.result_value in
    let path = path-is _ _ r _ h c.text_at-path.ensures.result_value in
    let row = node-plain _ _ r _ h _ _ name path c.args.kind c.if-kind-eq1.false in
    omega (arith, ap length row, node-fits c.args.t.now r.formed c.args.kind c.args.i (omega (arith, h, r.holds.nodes.all-nodes)), c.requires.2)

pub returns-then-kind-eq1 : goal.returns-then-kind-eq1
returns-then-kind-eq1 c =
    let r = c.requires.0 in let h = c.requires.1 in
    let name = name-is _ _ r _ h c.from.ensures c.text_at-name.ensures.result_value in
    let path = path-is _ _ r _ h c.text_at-path.ensures.result_value in
    let row = node-strange _ _ r _ h _ _ name path c.args.kind c.if-kind-eq1.true (c.text.ensures.text ∙ strange-held _ _ _ _ _ _ _ c.strange-z.ensures r.holds.nodes) in
    (c.put.ensures.0 ∙ ap (λ l. c.args.at + length l) row, c.put.ensures.1 ∙ ap (sets c.args.buf.now c.args.at) row)

pub returns-else-kind-eq1 : goal.returns-else-kind-eq1
returns-else-kind-eq1 c =
    let r = c.requires.0 in let h = c.requires.1 in
    let name = name-is _ _ r _ h c.from.ensures c.text_at-name.ensures.result_value in
    let path = path-is _ _ r _ h c.text_at-path.ensures.result_value in
    let row = node-plain _ _ r _ h _ _ name path c.args.kind c.if-kind-eq1.false in
    (c.put-else-kind-eq1.ensures.0 ∙ ap (λ l. c.args.at + length l) row, c.put-else-kind-eq1.ensures.1 ∙ ap (sets c.args.buf.now c.args.at) row)

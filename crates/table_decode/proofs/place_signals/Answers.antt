use mathlib.Core.Path.{refl, sym, ◌∙◌}
use Rattle.base_numbers.specs.Numbers.{most_nodes, most_signals}
use Rattle.base_lists.specs.Cuts.{stretch}
use Rattle.base_text.specs.Text.{fields}
use Rattle.table_sections.proofs.Padding.{clear}
use Rattle.table_sections.proofs.Readings.{passed-on}
use Rattle.table_decode.specs.Tables.{table_of}
use Rattle.table_decode.proofs.Decoding.{over, numbering, means-accepted}
use Rattle.node_search.proofs.MarkLaws.{shared-in, inner-in}
use Rattle.table_decode.proofs.place_signals.Goals as goal

pub returns-in_default : goal.returns-in_default
returns-in_default c = let A = c.in_default.ensures c.requires.listing.few-urns (refl, clear most_nodes, clear most_nodes, clear most_nodes, clear most_nodes) in
    c.by_texts.ensures.number (table_of c.args.t.now) c.requires.listing c.requires.cats (over _ _ _ _ _ _ _ _ c.requires A) ∙ sym c.requires.refusal

pub returns-in_err-by_nodes : goal.returns-in_err-by_nodes
returns-in_err-by_nodes c = let A = c.in-Some.ensures c.requires.listing.few-urns (refl, clear most_nodes, clear most_nodes, clear most_nodes, clear most_nodes) in
    let P = c.in_err-by_nodes.ensures.placed (table_of c.args.t.now) (λ i. fields 58 (stretch c.args.t.now c.args.path_at.now c.args.path_len.now i)) c.requires.listing
    (numbering _ _ _ _ _ _ _ _ c.requires A) (clear most_signals) in
    rw (passed-on c.from_residual.result c.from_residual.ensures) (P.refusal ∙ sym c.requires.refusal)

pub returns : goal.returns
returns c = let A = c.in-Some.ensures c.requires.listing.few-urns (refl, clear most_nodes, clear most_nodes, clear most_nodes, clear most_nodes) in
    let P = c.in_ok-by_nodes.ensures.placed (table_of c.args.t.now) (λ i. fields 58 (stretch c.args.t.now c.args.path_at.now c.args.path_len.now i)) c.requires.listing
    (numbering _ _ _ _ _ _ _ _ c.requires A) (clear most_signals) in
    means-accepted _ _ _ _ _ _ _ _ c.requires A P c.of_nodes.result.shared (shared-in _ _ _ _ _ c.of_nodes.ensures.0)
    c.of_nodes.result.inner (inner-in _ _ c.of_nodes.ensures.1)

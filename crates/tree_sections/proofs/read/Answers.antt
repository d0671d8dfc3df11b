use Rattle.base_numbers.specs.Refusals.{refusal_number}
use Rattle.std.specs.Prelude.{Ok}
use Rattle.table_sections.proofs.Padding.{clear}
use Rattle.table_sections.proofs.Readings.{passed-on}
use Rattle.tree_sections.proofs.TreeReadings.{tree-long, tree-stop, tree-bad, tree-read, both-fault, both-bad, both_read}
use Rattle.tree_sections.proofs.read.Goals as goal

pub returns-then-t-gt-MOST_TABLE_BYTES : goal.returns-then-t-gt-MOST_TABLE_BYTES
unfolding refusal_number
returns-then-t-gt-MOST_TABLE_BYTES c = tree-long _ c.if-t-gt-MOST_TABLE_BYTES.true

pub returns-in_err-categories : goal.returns-in_err-categories
returns-in_err-categories c = rw (passed-on c.from_residual.result c.from_residual.ensures)
    (tree-stop _ _ c.if-t-gt-MOST_TABLE_BYTES.false (c.in_err-categories.ensures.names_read c.if-t-gt-MOST_TABLE_BYTES.false (clear 8) (clear 8)).0)

pub returns-in_err-nodes : goal.returns-in_err-nodes
returns-in_err-nodes c = let v = (c.in_ok-categories.ensures.names_read c.if-t-gt-MOST_TABLE_BYTES.false (clear 8) (clear 8)).0 in
    rw (passed-on c.from_residual-in_err-nodes.result c.from_residual-in_err-nodes.ensures)
    (tree-bad _ _ _ c.if-t-gt-MOST_TABLE_BYTES.false _ _ v _ (both-fault _ _ _ c.in_err-nodes.ensures.result_after))

pub returns-in_err-counts : goal.returns-in_err-counts
returns-in_err-counts c = let v = (c.in_ok-categories.ensures.names_read c.if-t-gt-MOST_TABLE_BYTES.false (clear 8) (clear 8)).0 in
    rw (passed-on c.from_residual-in_err-counts.result c.from_residual-in_err-counts.ensures)
    (tree-bad _ _ _ c.if-t-gt-MOST_TABLE_BYTES.false _ _ v _
    (both-bad _ _ _ _ _ _ _ _ c.in_ok-nodes.ensures.result_after _ c.in_err-counts.ensures))

pub returns : goal.returns
returns c = let v = (c.in_ok-categories.ensures.names_read c.if-t-gt-MOST_TABLE_BYTES.false (clear 8) (clear 8)).0 in
    tree-read _ _ _ c.if-t-gt-MOST_TABLE_BYTES.false _ _ v _ _ _ _ _ _ c.in_ok-categories.ensures.few (Ok _)
    (both_read _ _ _ _ _ _ _ _ c.in_ok-nodes.ensures.result_after _ _ _ c.in_ok-nodes.ensures.few (Ok _) c.in_ok-counts.ensures)

use Prim.Native.Nat.{◌-◌}
use native.Mathlib.Omega.{arith}
use mathlib.Core.Path.{◌∙◌}
use lib.ListN.{length, take, drop, length-take, length-drop}
use Rattle.tree_from_table.proofs.LastNames.{puts-node}
use Rattle.tree_bytes.proofs.Laying.{puts_of, puts-text-of}
use Rattle.tree_from_table.proofs.nodes.put_node.Goals as goal

pub returns : goal.returns
returns c = let k = c.last_start.result in
    let p = c.text_in-path.result.now in
    let short = c.text_in-path.ensures.short in
    let F = puts_of c.byte.ensures.wrote (omega arith) in
    let G = puts_of c.byte-2.ensures.wrote (omega (arith, F.end)) in
    let H = puts-text-of (take (length p - k) (drop k p)) c.text.ensures.wrote (omega (arith, F.end, G.end))
    (omega (arith, length-take (length p - k) (drop k p), length-drop k p, short)) in
    let q = puts-node _ _ _ _ k c.args.t.now p c.text_in-path.ensures.result_value short c.last_start.ensures.1 F G H in
    record { same_reference = c.text.ensures.same_reference ∙ c.byte-2.ensures.same_reference ∙ c.byte.ensures.same_reference; puts = q.0; upper_bound = q.1 }

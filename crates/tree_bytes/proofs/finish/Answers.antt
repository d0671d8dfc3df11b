use Prim.Native.Nat.{◌-◌}
use mathlib.Core.Path.{◌≡◌}
use lib.ListN.{length, take, drop, replicate}
use Rattle.std.proofs.Common.{rules}
use Rattle.tree_bytes.proofs.Laying.{finish-fits, finish-over, finish-not}
use Rattle.tree_bytes.proofs.finish.Goals as goal
use Rattle.tree_bytes.proofs.finish.Goals.{else-fits-via-then-fits+else-n-buf, else-fits-via-else-fits}

pub returns-then-n-buf : goal.returns-then-n-buf
returns-then-n-buf c = let b = c.args.buf.now in let n = c.args.n in
    let g : c.fill.new.self ≡ replicate (length (take (length b - n) (drop n b))) 0 = search rules in
    let w = finish-fits b n c.fill.new.self c.if-fits.true c.if-n-buf.true g in record { value = w.0; buf_after = w.1 }

pub returns : goal.returns
returns c = elim c.else-fits.branch [
  | else-fits-via-then-fits+else-n-buf w ↦ let q = finish-over c.args.buf.now c.args.n w.if-fits.true w.if-n-buf.false c.refuse.ensures.value c.refuse.ensures.buf_after in record { value = q.0; buf_after = q.1 }
  | else-fits-via-else-fits w ↦ let q = finish-not c.args.buf.now c.args.n w.if-fits.false c.refuse.ensures.value c.refuse.ensures.buf_after in record { value = q.0; buf_after = q.1 }
]

use Rattle.std.proofs.Common.{sym, arith}
use Rattle.table_kept.proofs.SearchLaws.{from_start, from-hit, from_more, from_end}
use Rattle.table_kept.proofs.found.Found.number_of.Goals as goal

pub loop-i-init : goal.loop-i-init
loop-i-init c = from_start c.args.self c.args.s

pub returns-then-self-i : goal.returns-then-self-i
returns-then-self-i c = (from-hit c.args.self c.args.s c.loop-i.i (omega arith) c.loop-i.invariant c.if-self-i.true, omega arith)

pub loop-i-preserved : goal.loop-i-preserved
loop-i-preserved c = from_more c.args.self c.args.s c.loop-i.i (omega arith) c.loop-i.invariant c.if-self-i.false

pub returns : goal.returns
returns c = sym (from_end c.args.self c.args.s c.loop-i.i (omega arith) (omega arith) c.loop-i.invariant)

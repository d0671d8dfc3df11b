use Rattle.std.proofs.Common.{sym, ◌≡◌, true, false, rules, arith}
use Rattle.std.specs.Option.{is_none}
use Rattle.table_kept.proofs.SearchLaws.{loss-here, loss-later, loss-none, none_is, some-is}
use Rattle.table_kept.proofs.search.first_loss.Goals as goal

pub loop-j-init : goal.loop-j-init
loop-j-init c = λ k i. absurd (omega arith)

pub returns-then-is_none : goal.returns-then-is_none
returns-then-is_none c = let d = c.args.d.now in (
  loss-here d.rows d.signals c.args.h c.args.c c.args.node c.loop-j.j (omega arith) c.loop-j.invariant c.at-s.ensures (none_is _ c.with_node.ensures (let h : is_none c.with_node.result ≡ true = search rules in h)),
  omega arith,
)

pub loop-j-preserved : goal.loop-j-preserved
loop-j-preserved c = let d = c.args.d.now in
    loss-later d.rows d.signals c.args.h c.args.c c.args.node c.loop-j.j c.loop-j.invariant c.at-s.ensures (some-is _ c.with_node.ensures (let h : is_none c.with_node.result ≡ false = search rules in h))

pub returns : goal.returns
returns c = let d = c.args.d.now in sym (loss-none d.rows d.signals c.args.h c.args.c c.args.node c.loop-j.j (omega arith) c.loop-j.invariant)

use Rattle.std.proofs.Common.{rules, ◌≡◌, ◌∙◌, arith}
use Rattle.base_lists.proofs.Over.{laid-all}
use Rattle.small_rounds.specs.Rows.{machine_in}
use Rattle.small_rounds.proofs.RoundLaws.{rounds-begin, rounds-end, rounds-more, rounds-all}
use Rattle.small_rounds.proofs.stored.Machine.blocks.Goals as goal

pub loop-init : goal.loop-init
loop-init c = rounds-begin (machine_in c.args.self.rows) c.signals.new.p c.signals.ensures

pub returns-then-eq : goal.returns-then-eq
returns-then-eq c =
    let e : c.loop.p ≡ c.refine.new.q = search rules in
    rounds-end (machine_in c.args.self.rows) c.loop.p c.refine.new.q c.loop.counter c.loop.invariant c.refine.ensures e (omega arith)

pub loop-preserved : goal.loop-preserved
loop-preserved c =
    rounds-more (machine_in c.args.self.rows) c.loop.p c.refine.new.q _ c.loop.counter c.loop.invariant c.refine.ensures
    (c.copy.ensures ∙ laid-all _ _ (omega (arith, c.requires.0, c.requires.1, c.loop.auto.p, c.loop.auto.q, c.refine.auto.q)))

pub returns : goal.returns
returns c = rounds-all (machine_in c.args.self.rows) c.loop.p c.loop.counter (omega arith) (omega arith) c.loop.invariant

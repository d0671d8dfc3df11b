use Rattle.std.proofs.Common.{◌≡◌, length, ◌∙◌, rules, arith}
use Rattle.base_lists.proofs.Filled.{filled_none, filled_more, filled-all}
use Rattle.theory_minimal.specs.Refine.{block_number}
use Rattle.small_classes.proofs.NumberLaws.{number-none, number_small, first-number, later-number, first-next, later-next}
use Rattle.small_classes.proofs.numbers.number.Goals as goal
use Rattle.small_classes.proofs.numbers.number.Goals.{then-first-i, else-first-i}

pub loop-i-init : goal.loop-i-init
loop-i-init c = (number-none c.args.b.now, filled_none (block_number c.args.b.now) c.args.c.now)

pub overflow_cast-c : goal.overflow_cast-c
overflow_cast-c c = let h = number_small c.args.b.now (length c.args.b.now) c.loop-i.i c.loop-i.next (omega arith) c.requires.0 c.loop-i.invariant.0 in search rules

pub overflow_add-next : goal.overflow_add-next
overflow_add-next c = omega (arith, number_small c.args.b.now (length c.args.b.now) c.loop-i.i c.loop-i.next (omega arith) c.requires.0 c.loop-i.invariant.0)

pub loop-i-preserved : goal.loop-i-preserved
loop-i-preserved c = let b = c.args.b.now in
    let i = c.loop-i.i in
    elim c.if-first-i.branch [
      | then-first-i w ↦ (
        rw w.next-is (first-next b (length b) c.requires.2 i c.loop-i-test.true c.from-first.result c.from-first.ensures w.if-first-i.true c.loop-i.next c.loop-i.invariant.0),
        rw w.c-is (filled_more (block_number b) c.loop-i.c i _ (omega arith) (first-number b (length b) c.requires.2 i c.loop-i-test.true c.from-first.result c.from-first.ensures w.if-first-i.true c.loop-i.next c.loop-i.invariant.0) c.loop-i.invariant.1),
      )
      | else-first-i w ↦ (
        rw w.next-is (later-next b (length b) c.requires.2 i c.loop-i-test.true c.from-first.result c.from-first.ensures w.if-first-i.false c.loop-i.next c.loop-i.invariant.0),
        rw w.c-is (filled_more (block_number b) c.loop-i.c i _ (omega arith) (later-number b (length b) c.requires.2 i c.loop-i-test.true c.from-first.result c.from-first.ensures w.if-first-i.false c.loop-i.c c.loop-i.invariant.1) c.loop-i.invariant.1),
      )
    ]

pub returns : goal.returns
returns c =
    let e : length c.loop-i.c ≡ length c.args.b.now = c.loop-i.auto.c ∙ c.requires.1 in
    filled-all (block_number c.args.b.now) c.loop-i.c (length c.args.b.now) c.loop-i.i e (omega arith) c.loop-i.invariant.1

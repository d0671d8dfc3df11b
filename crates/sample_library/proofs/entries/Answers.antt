use Rattle.std.proofs.Common.{ℕ, suc, ◌+◌, ap, refl, ◌∙◌, arith, length-set}
use Rattle.sample_library.proofs.WriteLaws.{kept}
use Rattle.sample_seed.specs.Numbers.{next_of, choice_of}
use Rattle.sample_library.proofs.ValueLaws.{few-choice}
use Rattle.sample_library.proofs.WholeValue.{value_up_to, value-few, after_first, after_more, after-all}
use Rattle.sample_library.proofs.entries.Goals as goal

pub loop-init : goal.loop-init
loop-init c =
    let first = after_first c.args.t.now c.requires.0.formed (next_of c.args.seed.now.x) c.args.buf.now c.draw.ensures.1 c.entry-len.ensures in
    (kept c.args.buf.now 0 (value_up_to c.args.t.now (next_of c.args.seed.now.x) 1) first.1, first.0, first.1)

pub bounds-buf-len : goal.bounds-buf-len
bounds-buf-len c =
    let inv = c.loop.invariant in
    omega (
      arith,
      inv.0,
      inv.1.0,
      value-few c.args.t.now c.requires.0.formed (next_of c.args.seed.now.x) (suc c.loop.counter),
      c.loop-test.true,
      c.choice-more.ensures,
      few-choice c.draw.result,
      c.requires.1,
    )

pub overflow_add-len : goal.overflow_add-len
overflow_add-len c =
    let inv = c.loop.invariant in
    omega (
      arith,
      inv.1.0,
      value-few c.args.t.now c.requires.0.formed (next_of c.args.seed.now.x) (suc c.loop.counter),
      c.loop-test.true,
      c.choice-more.ensures,
      few-choice c.draw.result,
    )

pub entry-len-requires-in-loop : goal.entry-len-requires-in-loop
entry-len-requires-in-loop c =
    let inv = c.loop.invariant in (
      c.requires.0,
      omega (
        arith,
        length-set c.loop.buf c.loop.len 44,
        inv.0,
        inv.1.0,
        value-few c.args.t.now c.requires.0.formed (next_of c.args.seed.now.x) (suc c.loop.counter),
        c.loop-test.true,
        c.choice-more.ensures,
        few-choice c.draw.result,
        c.requires.1,
      ),
    )

pub loop-preserved : goal.loop-preserved
loop-preserved c =
    let inv = c.loop.invariant in
    let more = after_more c.args.t.now c.requires.0.formed (next_of c.args.seed.now.x) c.loop.counter inv.1 c.entry-len-in-loop.ensures in
    let written = more.1 c.args.buf.now inv.2 in
    (kept c.args.buf.now 0 (value_up_to c.args.t.now (next_of c.args.seed.now.x) (suc (c.loop.counter + 1))) written, more.0, written)

pub returns : goal.returns
returns c =
    let inv = c.loop.invariant in
    after-all c.args.t.now c.requires.0.formed c.args.seed.now.x c.args.buf.now refl
    (c.choice-more.ensures ∙ ap (λ (z : ℕ). choice_of z 8) c.draw.ensures.0) (omega (arith, c.loop-test.false)) c.requires.1 inv.1 inv.2

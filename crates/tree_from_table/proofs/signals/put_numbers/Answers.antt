use Rattle.base_lists.proofs.Numbers.{one_byte}
use native.Mathlib.Omega.{arith}
use mathlib.Core.Path.{refl, ◌∙◌}
use Rattle.tree_forms.specs.Bytes.{number_bytes}
use Rattle.tree_sections.specs.Held.{number_at}
use Rattle.tree_bytes.proofs.Laying.{of-start, of-next, of-pass, of_end, count-is, puts_of}
use Rattle.tree_from_table.proofs.signals.put_numbers.Goals as goal
use Rattle.tree_from_table.proofs.signals.put_numbers.Goals.{then-from-s, else-from-s}

pub loop-i-init : goal.loop-i-init
loop-i-init c = (omega arith, refl, of-start number_bytes c.args.s (number_at c.args.signal.now c.args.number.now) _ _)

pub loop-i-preserved : goal.loop-i-preserved
loop-i-preserved c = let inv = c.loop-i.invariant in
    let f = number_at c.args.signal.now c.args.number.now in
    elim c.if-from-s.branch [
      | then-from-s w ↦
          let G = puts_of w.byte-then-from-s.ensures.wrote (omega (arith, inv.0, (puts_of c.byte.ensures.wrote (omega arith)).end, c.requires.0, c.requires.1)) in
          rw w.w-is (
            omega (arith, inv.0, G.end),
            w.byte-then-from-s.ensures.same_reference ∙ inv.1,
            of-next number_bytes c.args.s f c.loop-i.i inv.2 G refl c.from.ensures w.if-from-s.true,
          )
      | else-from-s w ↦ rw w.w-is (omega (arith, inv.0), inv.1, of-pass number_bytes c.args.s f c.loop-i.i inv.2 c.from.ensures w.if-from-s.false)
    ]

pub returns : goal.returns
returns c = let inv = c.loop-i.invariant in
    let F = puts_of c.byte.ensures.wrote (omega arith) in
    let n = count-is _ _ _ _ c.count_of.ensures c.requires.0 in record {
      same_reference = inv.1 ∙ c.byte.ensures.same_reference;
      puts = of_end number_bytes c.args.s (number_at c.args.signal.now c.args.number.now) c.loop-i.i c.args.m
          (one_byte c.small.ensures (omega (arith, n, c.requires.2 c.args.s))) n c.loop-i.auto.i-end c.loop-i-test.false F inv.2;
      upper_bound = omega (arith, inv.0, F.end, c.requires.0);
    }

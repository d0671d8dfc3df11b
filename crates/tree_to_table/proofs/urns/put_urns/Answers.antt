use Rattle.base_lists.proofs.Numbers.{one_byte}
use native.Mathlib.Omega.{arith}
use mathlib.Core.Path.{refl, ap, ◌∙◌}
use Rattle.tree_sections.specs.Held.{number_at}
use Rattle.tree_to_table.specs.Urns.{urn_bytes}
use Rattle.tree_bytes.proofs.Laying.{of-start, of-next, of-pass, of_end, count-is, puts_of}
use Rattle.tree_to_table.proofs.Ancestry.{ready_at}
use Rattle.tree_to_table.proofs.urns.put_urns.Goals as goal
use Rattle.tree_to_table.proofs.urns.put_urns.Goals.{then-from-s, else-from-s}

pub loop-i-init : goal.loop-i-init
loop-i-init c = let d = c.args.d.now in
    let s = d.sections in
    (omega arith, refl, of-start (urn_bytes c.args.t.now s.name_at s.name_len s.category s.parent s.at s.len d.size d.depth) c.args.s (number_at s.signal s.number) _ _)

pub put_urn-requires : goal.put_urn-requires
put_urn-requires c = let d = c.args.d.now in
    let s = d.sections in
    let r = ready_at s.number s.category d.size d.depth s.counts.numbers c.requires.3 c.loop-i.i c.loop-i-test.true c.from-k.ensures in
    (r.0, r.1, r.2, r.3, r.4, omega (arith, c.loop-i.invariant.0, (puts_of c.byte.ensures.wrote (omega arith)).end, c.loop-i-test.true, c.requires.0, c.requires.1))

pub loop-i-preserved : goal.loop-i-preserved
loop-i-preserved c = let d = c.args.d.now in
    let s = d.sections in
    let inv = c.loop-i.invariant in
    let f = urn_bytes c.args.t.now s.name_at s.name_len s.category s.parent s.at s.len d.size d.depth in
    elim c.if-from-s.branch [
      | then-from-s w ↦ rw w.w-is (
        omega (arith, inv.0, w.put_urn.ensures.upper_bound),
        w.put_urn.ensures.same_reference ∙ inv.1,
        of-next f c.args.s (number_at s.signal s.number) c.loop-i.i inv.2 w.put_urn.ensures.puts (ap f w.from-k.ensures) c.from.ensures w.if-from-s.true,
      )
      | else-from-s w ↦ rw w.w-is (
        omega (arith, inv.0),
        inv.1,
        of-pass f c.args.s (number_at s.signal s.number) c.loop-i.i inv.2 c.from.ensures w.if-from-s.false,
      )
    ]

pub returns : goal.returns
returns c = let d = c.args.d.now in
    let s = d.sections in
    let inv = c.loop-i.invariant in
    let F = puts_of c.byte.ensures.wrote (omega arith) in
    let n = count-is _ _ _ _ c.count_of.ensures c.requires.0 in record {
      same_reference = inv.1 ∙ c.byte.ensures.same_reference;
      puts = of_end (urn_bytes c.args.t.now s.name_at s.name_len s.category s.parent s.at s.len d.size d.depth) c.args.s (number_at s.signal s.number) c.loop-i.i s.counts.numbers
          (one_byte c.small.ensures (omega (arith, n, c.requires.2 c.args.s))) n c.loop-i.auto.i-end c.loop-i-test.false F inv.2;
      upper_bound = omega (arith, inv.0, F.end, c.loop-i.auto.i-end, c.requires.0);
    }

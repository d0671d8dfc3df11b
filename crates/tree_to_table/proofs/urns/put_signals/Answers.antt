use Rattle.base_lists.proofs.Numbers.{one_byte}
use Rattle.base_lists.specs.Lists.{tabulate}
use native.Mathlib.Omega.{arith}
use Prim.Native.Nat.{ℕ}
use mathlib.Core.Path.{refl, ◌∙◌}
use Rattle.tree_forms.specs.Bytes.{section}
use Rattle.tree_sections.specs.Held.{number_at}
use Rattle.tree_bytes.specs.Laid.{of_signal}
use Rattle.tree_to_table.specs.Urns.{urn_bytes}
use Rattle.tree_bytes.proofs.Laying.{each_start, each_next, section-from, puts_of}
use Rattle.tree_to_table.proofs.urns.put_signals.Goals as goal

pub loop-s-init : goal.loop-s-init
loop-s-init c = let d = c.args.d.now in
    let z = d.sections in (
      omega arith,
      refl,
      each_start (section (urn_bytes c.args.t.now z.name_at z.name_len z.category z.parent z.at z.len d.size d.depth))
          (λ (s : ℕ). of_signal s (tabulate (number_at z.signal z.number) z.counts.numbers)) _ _,
    )

pub put_urns-requires : goal.put_urns-requires
put_urns-requires c = (
  c.requires.1,
  omega (arith, c.loop-s.invariant.0, (puts_of c.byte.ensures.wrote (omega arith)).end, c.loop-s-test.true, c.requires.0, c.requires.2),
  c.requires.3,
  c.requires.4,
)

pub loop-s-preserved : goal.loop-s-preserved
loop-s-preserved c = let d = c.args.d.now in
    let z = d.sections in
    let inv = c.loop-s.invariant in (
      omega (arith, inv.0, c.put_urns.ensures.upper_bound),
      c.put_urns.ensures.same_reference ∙ inv.1,
      each_next (section (urn_bytes c.args.t.now z.name_at z.name_len z.category z.parent z.at z.len d.size d.depth))
          (λ (s : ℕ). of_signal s (tabulate (number_at z.signal z.number) z.counts.numbers)) c.loop-s.s inv.2 c.put_urns.ensures.puts refl,
    )

pub returns : goal.returns
returns c = let d = c.args.d.now in
    let z = d.sections in
    let inv = c.loop-s.invariant in record {
      same_reference = inv.1 ∙ c.byte.ensures.same_reference;
      puts = section-from (section (urn_bytes c.args.t.now z.name_at z.name_len z.category z.parent z.at z.len d.size d.depth))
          (λ (s : ℕ). of_signal s (tabulate (number_at z.signal z.number) z.counts.numbers))
          c.loop-s.s z.counts.signals (one_byte c.small.ensures (omega arith)) c.loop-s.auto.s-end c.loop-s-test.false (puts_of c.byte.ensures.wrote (omega arith)) inv.2;
    }

use Rattle.base_lists.proofs.Numbers.{one_byte}
use Rattle.base_lists.specs.Lists.{tabulate}
use native.Mathlib.Omega.{arith}
use Prim.Native.Nat.{ℕ}
use mathlib.Core.Path.{refl, ◌∙◌}
use Rattle.tree_forms.specs.Bytes.{section, number_bytes}
use Rattle.tree_sections.specs.Held.{number_at}
use Rattle.tree_bytes.specs.Laid.{of_signal}
use Rattle.tree_bytes.proofs.Laying.{each_start, each_next, section-from, puts_of}
use Rattle.tree_from_table.proofs.signals.put_signals.Goals as goal

pub loop-s-init : goal.loop-s-init
loop-s-init c = (
  omega arith,
  refl,
  each_start (section number_bytes) (λ (s : ℕ). of_signal s (tabulate (number_at c.args.signal.now c.args.number.now) c.args.m)) _ _,
)

pub put_numbers-requires : goal.put_numbers-requires
put_numbers-requires c = (
  c.requires.1,
  omega (arith, c.loop-s.invariant.0, (puts_of c.byte.ensures.wrote (omega arith)).end, c.loop-s-test.true, c.requires.0, c.requires.2),
  c.requires.3,
)

pub loop-s-preserved : goal.loop-s-preserved
loop-s-preserved c = let inv = c.loop-s.invariant in (
  omega (arith, inv.0, c.put_numbers.ensures.upper_bound),
  c.put_numbers.ensures.same_reference ∙ inv.1,
  each_next (section number_bytes) (λ (s : ℕ). of_signal s (tabulate (number_at c.args.signal.now c.args.number.now) c.args.m)) c.loop-s.s inv.2
      c.put_numbers.ensures.puts refl,
)

pub returns : goal.returns
returns c = let inv = c.loop-s.invariant in record {
  same_reference = inv.1 ∙ c.byte.ensures.same_reference;
  puts = section-from (section number_bytes) (λ (s : ℕ). of_signal s (tabulate (number_at c.args.signal.now c.args.number.now) c.args.m)) c.loop-s.s
      c.args.n (one_byte c.small.ensures (omega arith)) c.loop-s.auto.s-end c.loop-s-test.false (puts_of c.byte.ensures.wrote (omega arith)) inv.2;
}

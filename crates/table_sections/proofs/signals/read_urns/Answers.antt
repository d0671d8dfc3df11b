use native.Mathlib.Omega.{arith}
use mathlib.Core.Path.{refl, sym, ◌∙◌}
use lib.ListN.{length-set}
use Rattle.base_lists.proofs.Numbers.{one_byte, two_bytes}
use Rattle.table_sections.proofs.Readings.{passed-on, run_more, run-stop, run-ends, stored-urn, urn-keep}
use Rattle.table_sections.proofs.signals.read_urns.Goals as goal

pub loop-i-init : goal.loop-i-init
loop-i-init c = (λ a. a, λ a. refl)

pub returns-in_err-m-clause-result_after : goal.returns-in_err-m-clause-result_after
returns-in_err-m-clause-result_after c = rw (passed-on c.from_residual.result c.from_residual.ensures)
    (λ a. run-stop _ _ _ _ _ _ _ (c.loop-i.invariant.1 a) _ (omega arith) (sym c.in_err-m.ensures.result_value))

pub returns-in_err-m-clause-few : goal.returns-in_err-m-clause-few
returns-in_err-m-clause-few c = rw (passed-on c.from_residual.result c.from_residual.ensures) (tt, c.loop-i.invariant.0)

pub overflow_sub-next : goal.overflow_sub-next
overflow_sub-next c = c.in_ok-m.ensures.inside.1

pub loop-i-preserved : goal.loop-i-preserved
loop-i-preserved c = let at = c.loop-i.at in
    let i = c.loop-i.i in
    let inv = c.loop-i.invariant in
    let len = c.loop-i.len in
    let signal = c.loop-i.signal in
    let s = c.args.s in
    let b = c.in_ok-m.ensures.inside in (
      λ a. let v = inv.0 a in (
        length-set at i c.short.result ∙ v.0,
        length-set len i c.small.result ∙ v.1,
        length-set signal i s ∙ v.2,
      ),
      λ a. let v = inv.0 a in run_more _ _ _ _ _ _ _ (inv.1 a) _ _ _ (omega arith) (sym c.in_ok-m.ensures.result_value)
          (λ j l. urn-keep _ signal at len i _ _ _ j l)
          (stored-urn _ signal at len i _ _ _ (two_bytes c.short.ensures (omega (arith, b.2)))
          (one_byte c.small.ensures (omega (arith, b.0))) (omega (arith, v.2)) (omega (arith, v.0)) (omega (arith, v.1))),
    )

pub returns-clause-result_after : goal.returns-clause-result_after
returns-clause-result_after c = λ a. run-ends _ _ _ _ _ _ _ (c.loop-i.invariant.1 a) (omega arith)

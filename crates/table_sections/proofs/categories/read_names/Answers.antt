use native.Mathlib.Omega.{arith}
use mathlib.Core.Path.{◌≡◌, sym, subst}
use Rattle.base_lists.proofs.Numbers.{one_byte, two_bytes}
use Rattle.table_sections.specs.Held.{Padded}
use Rattle.table_sections.proofs.Padding.{pad-set}
use Rattle.table_sections.proofs.Readings.{passed-on, run-start, run_more, run-stop, run-ends, stored-text, stretch-keep}
use Rattle.table_sections.proofs.categories.read_names.Goals as goal

pub loop-i-init : goal.loop-i-init
loop-i-init c = λ h a l. (a, l, run-start _ _ _ _)

pub returns-in_err-m-clause-names_read : goal.returns-in_err-m-clause-names_read
returns-in_err-m-clause-names_read c = rw (passed-on c.from_residual.result c.from_residual.ensures)
    (λ h a l. (run-stop _ _ _ _ _ _ _ (c.loop-i.invariant h a l).2 _ (omega arith) (sym c.in_err-m.ensures.result_value), tt, tt))

pub overflow_sub-next : goal.overflow_sub-next
overflow_sub-next c = c.in_ok-m.ensures.inside.1

pub loop-i-preserved : goal.loop-i-preserved
loop-i-preserved c = let at = c.loop-i.at in
    let i = c.loop-i.i in
    let len = c.loop-i.len in
    let b = c.in_ok-m.ensures.inside in
    λ h a l. let v = c.loop-i.invariant h a l in (
      pad-set 8 i at c.short.result v.0,
      pad-set 8 i len c.small.result v.1,
      run_more _ _ _ _ _ _ _ v.2 _ _ _ (omega arith) (sym c.in_ok-m.ensures.result_value)
          (λ j l. stretch-keep _ at len i _ _ j l)
          (stored-text _ at len i _ _ (two_bytes c.short.ensures (omega (arith, b.2, h)))
          (one_byte c.small.ensures (omega (arith, b.0))) (omega (arith, v.0.0)) (omega (arith, v.1.0))),
    )

pub returns-clause-names_read : goal.returns-clause-names_read
returns-clause-names_read c = λ h a l. let v = c.loop-i.invariant h a l in
    let e : c.loop-i.i ≡ c.args.n = omega arith in
    (run-ends _ _ _ _ _ _ _ v.2 e, subst (λ i. Padded 8 i c.loop-i.at) e v.0, subst (λ i. Padded 8 i c.loop-i.len) e v.1)

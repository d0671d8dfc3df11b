use mathlib.Core.Path.{refl, ◌∙◌}
use native.Mathlib.Omega.{arith}
use Rattle.resolve_run.specs.Run.{run_from}
use Rattle.resolve_run.proofs.RunLaws.{met, unmet, after-uri, after-counted, after-few, run_more, run-last, run_none}
use Rattle.resolve_run.proofs.run.run.Goals as goal

pub loop-e-init : goal.loop-e-init
unfolding run_from
loop-e-init c = (refl, omega arith, omega arith, omega arith)

pub returns-in_err-e : goal.returns-in_err-e
returns-in_err-e c = record {
  ends = c.from_residual.ensures ∙ run_none _ _ _ _ _ c.loop-e.invariant.0 (unmet _ _ c.entry_at.ensures c.in_err-e.was);
  few = rw c.from_residual.ensures tt;
}

pub overflow_add-end : goal.overflow_add-end
overflow_add-end c = omega (arith, (met _ _ c.entry_at.ensures _ c.in_ok-e.was).inside)

pub slice_bounds-uses-end : goal.slice_bounds-uses-end
slice_bounds-uses-end c = omega (arith, (met _ _ c.entry_at.ensures _ c.in_ok-e.was).inside)

pub taken-p-requires : goal.taken-p-requires
taken-p-requires c = omega (arith, c.requires.0, c.loop-e.invariant)

pub returns-in_default : goal.returns-in_default
returns-in_default c =
    let a = after-uri _ _ _ _ c.uses-u.ensures c.taken-p.ensures in
    let l = (met _ _ c.entry_at.ensures _ c.in_ok-e.was).last c.in_default.is in record {
      ends = run-last _ _ _ _ _ c.loop-e.invariant.0 _ l a;
      few = omega (arith, after-counted _ _ _ _ a, c.requires.0, c.loop-e.invariant);
    }

pub loop-e-smaller : goal.loop-e-smaller
loop-e-smaller c = omega (arith, (met _ _ c.entry_at.ensures _ c.in_ok-e.was).more _ c.in-Some.is)

pub loop-e-preserved : goal.loop-e-preserved
loop-e-preserved c =
    let a = after-uri _ _ _ _ c.uses-u.ensures c.taken-p.ensures in
    let m = (met _ _ c.entry_at.ensures _ c.in_ok-e.was).more _ c.in-Some.is in (
      run_more _ _ _ _ _ c.loop-e.invariant.0 _ _ m.0 a,
      omega (arith, m.1, after-counted _ _ _ _ a, c.loop-e.invariant),
      m.2,
      after-few _ _ _ _ a c.loop-e.invariant.3,
    )

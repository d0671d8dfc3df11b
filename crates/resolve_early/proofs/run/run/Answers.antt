use mathlib.Core.Path.{refl, ap, ◌∙◌}
use Rattle.std.specs.Prelude.{Some}
use Rattle.resolve_early.specs.declared.run.Reached.{Reached}
use native.Mathlib.Omega.{arith}
use Rattle.resolve_run.proofs.RunLaws.{met}
use Rattle.resolve_early.specs.SettledBy.{settled_by}
use Rattle.resolve_early.proofs.SettledLaws.{same-settled}
use Rattle.resolve_early.proofs.RunLaws.{after-uri, run_settled, run-full, run_more, run-last, run_none}
use Rattle.resolve_early.proofs.run.run.Goals as goal
use Rattle.resolve_early.proofs.run.run.Goals.{then-ne, else-ne}

pub loop-ends-init : goal.loop-ends-init
loop-ends-init c = (refl, c.settled-ends.ensures, omega arith, omega arith)

pub signal_at-requires : goal.signal_at-requires
signal_at-requires c = c.loop-ends.invariant.2

pub returns-then-ends : goal.returns-then-ends
returns-then-ends c = ap (λ (r : Reached). Some r) c.signal_at.ensures
    ∙ run_settled _ _ _ _ _ _ _ c.loop-ends.invariant.0 _ c.loop-ends.invariant.1 c.if-ends.true

pub returns-then-n-ge-MOST_ENTRIES : goal.returns-then-n-ge-MOST_ENTRIES
returns-then-n-ge-MOST_ENTRIES c = run-full _ _ _ _ _ _ _ c.loop-ends.invariant.0 _
    c.loop-ends.invariant.1 c.if-ends.false c.if-n-ge-MOST_ENTRIES.true

pub returns-in_err-e : goal.returns-in_err-e
returns-in_err-e c = c.from_residual.ensures ∙ run_none _ _ _ _ _ _ _ c.loop-ends.invariant.0 _
    c.loop-ends.invariant.1
    c.if-ends.false c.if-n-ge-MOST_ENTRIES.false
    c.entry_at.ensures c.in_err-e.was

pub overflow_add-end : goal.overflow_add-end
overflow_add-end c = omega (arith, (met _ _ c.entry_at.ensures _ c.in_ok-e.was).inside)

pub slice_bounds-uses-end : goal.slice_bounds-uses-end
slice_bounds-uses-end c = omega (arith, (met _ _ c.entry_at.ensures _ c.in_ok-e.was).inside)

pub overflow_add-n : goal.overflow_add-n
overflow_add-n c = omega (
  arith,
  c.if-n-ge-MOST_ENTRIES.false,
)

pub signal_at-requires-in_default : goal.signal_at-requires-in_default
signal_at-requires-in_default c = omega (arith, c.if-n-ge-MOST_ENTRIES.false)

pub returns-in_default : goal.returns-in_default
returns-in_default c = let l = c.loop-ends.invariant in
    let u = after-uri _ _ _ _ c.in_ok-e.e.span
    c.uses-u.ensures c.taken-next.ensures in
    ap (λ (r : Reached). Some r) c.signal_at-in_default.ensures ∙ run-last _ _ _ _ _ _ _ l.0 _ l.1
    c.if-ends.false
    c.if-n-ge-MOST_ENTRIES.false
    c.entry_at.ensures _ c.in_ok-e.was c.in_default.is u

pub overflow_add-n-in-loop-ends : goal.overflow_add-n-in-loop-ends
overflow_add-n-in-loop-ends c = omega (
  arith,
  c.if-n-ge-MOST_ENTRIES.false,
)

pub loop-ends-smaller : goal.loop-ends-smaller
loop-ends-smaller c = omega (
  arith,
  (met _ _ c.entry_at.ensures _ c.in_ok-e.was).more _ c.in-Some.is,
)

pub loop-ends-preserved : goal.loop-ends-preserved
loop-ends-preserved c = let l = c.loop-ends.invariant in
    let u = after-uri _ _ _ _ c.in_ok-e.e.span
    c.uses-u.ensures c.taken-next.ensures in (
      run_more _ _ _ _ _ _ _ l.0 _ l.1
          c.if-ends.false
          c.if-n-ge-MOST_ENTRIES.false
          c.entry_at.ensures _ c.in_ok-e.was _ c.in-Some.is u,
      elim c.if-ne.branch [
        | then-ne w ↦ w.ends-is ∙ w.settled-ends-then-ne.ensures
        | else-ne w ↦ w.ends-is ∙ same-settled (settled_by _ _ _ _ _) _ _ l.1 c.ne.ensures w.if-ne.false
      ],
      omega (
        arith,
        c.if-n-ge-MOST_ENTRIES.false,
      ),
      ((met _ _ c.entry_at.ensures _ c.in_ok-e.was).more _ c.in-Some.is).2,
    )

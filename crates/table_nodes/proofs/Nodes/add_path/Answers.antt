use native.Mathlib.Omega.{arith}
use mathlib.Core.Path.{◌≡◌, refl, ap}
use mathlib.Core.Bool.{◌||◌}
use mathlib.Core.List.{[], foldl}
use lib.ListN.{length, drop, length-take}
use lib.Dec.{eqb}
use Prim.Native.Nat.{◌+◌}
use Rattle.base_lists.proofs.Cuts.{up_to-le}
use Rattle.theory_resolution.specs.Nodes.{add_urn}
use Rattle.table_nodes.proofs.NodeArrays.{path-start, path-more, path-over, path-end, colon-start, colon-next, next_le}
use Rattle.table_nodes.proofs.Nodes.add_path.Goals as goal
use Rattle.table_nodes.proofs.Nodes.add_path.Goals.{then-r, else-r}

pub add-requires : goal.add-requires
add-requires c =
    (omega arith, omega arith, omega (arith, c.find-i.ensures, up_to-le 58 c.part-w.result.now, ap length c.part-w.ensures, length-take c.args.k (drop c.args.from c.args.t.now)), omega arith)

pub returns-in_err-r-clause-adds_path : goal.returns-in_err-r-clause-adds_path
returns-in_err-r-clause-adds_path c = rw c.from_residual.ensures
    (λ us N m. path-over _ _ c.args.c _ _ c.part-w.ensures (foldl add_urn [] us) c.add.new.self.category c.add.new.self.parent c.add.new.self.at c.add.new.self.len c.add.new.self.count c.find-i.result
    (path-start _ _ c.args.c _ _ c.part-w.ensures us c.args.self.now.count _ c.find-i.ensures refl c.in_err-r.ensures.adds_node N m))

pub loop-i-init : goal.loop-i-init
loop-i-init c = (
  omega (arith, c.find-i.ensures, up_to-le 58 c.part-w.result.now),
  colon-start _ _ c.find-i.ensures,
  c.in_ok-r.ensures.few.0,
  c.in_ok-r.ensures.few.1,
  λ ns x. x,
)

pub overflow_add-i : goal.overflow_add-i
overflow_add-i c = omega (arith, next_le c.part-w.result.now c.loop-i.i c.find.result c.find.ensures c.loop-i-test.true)

pub add-requires-in-loop-i : goal.add-requires-in-loop-i
add-requires-in-loop-i c = (
  c.loop-i.invariant.3,
  omega arith,
  omega (
    arith,
    next_le c.part-w.result.now c.loop-i.i c.find.result c.find.ensures c.loop-i-test.true,
    ap length c.part-w.ensures,
    length-take c.args.k (drop c.args.from c.args.t.now),
  ),
  c.loop-i.invariant.2,
)

pub returns-in_err-r-2-clause-adds_path : goal.returns-in_err-r-2-clause-adds_path
returns-in_err-r-2-clause-adds_path c = let w = c.part-w.result.now in
    let b : c.if-r.new ≡ (c.loop-i.r.new || eqb (c.loop-i.i + 1 + c.find.result) (length w)) = elim c.if-r.branch [
      | then-r x ↦ rw (x.new-is, x.if-r.true)
      | else-r x ↦ rw (x.new-is, x.if-r.false)
    ] in
    rw c.from_residual-in_err-r-2.ensures
    (λ us N m. let ns = foldl add_urn [] us in
    path-over _ w c.args.c _ _ c.part-w.ensures ns c.add-in-loop-i.new.self.category c.add-in-loop-i.new.self.parent c.add-in-loop-i.new.self.at
    c.add-in-loop-i.new.self.len c.add-in-loop-i.new.self.count _
    (path-more _ w c.args.c _ _ c.part-w.ensures ns _ c.loop-i.i c.loop-i.r
    (c.loop-i.invariant.4 ns (path-start _ w c.args.c _ _ c.part-w.ensures us c.args.self.now.count _ c.find-i.ensures refl c.in_ok-r.ensures.adds_node N m))
    c.find.result c.loop-i-test.true (c.loop-i.invariant.1 c.loop-i-test.true) c.find.ensures b c.in_err-r-2.ensures.adds_node))

pub loop-i-smaller : goal.loop-i-smaller
loop-i-smaller c = omega (arith, next_le c.part-w.result.now c.loop-i.i c.find.result c.find.ensures c.loop-i-test.true)

pub loop-i-preserved : goal.loop-i-preserved
loop-i-preserved c = let w = c.part-w.result.now in
    let b : c.if-r.new ≡ (c.loop-i.r.new || eqb (c.loop-i.i + 1 + c.find.result) (length w)) = elim c.if-r.branch [
      | then-r x ↦ rw (x.new-is, x.if-r.true)
      | else-r x ↦ rw (x.new-is, x.if-r.false)
    ] in (
      next_le w c.loop-i.i c.find.result c.find.ensures c.loop-i-test.true,
      colon-next w c.loop-i.i c.find.result c.find.ensures,
      c.in_ok-r-2.ensures.few.0,
      c.in_ok-r-2.ensures.few.1,
      λ ns D. path-more _ w c.args.c _ _ c.part-w.ensures ns _ c.loop-i.i c.loop-i.r (c.loop-i.invariant.4 ns D) c.find.result c.loop-i-test.true
          (c.loop-i.invariant.1 c.loop-i-test.true) c.find.ensures b c.in_ok-r-2.ensures.adds_node,
    )

pub returns-clause-adds_path : goal.returns-clause-adds_path
returns-clause-adds_path c = λ us N m. path-end _ c.part-w.result.now c.args.c _ _ c.part-w.ensures (foldl add_urn [] us) _ c.loop-i.i c.loop-i.r
    (c.loop-i.invariant.4 (foldl add_urn [] us)
    (path-start _ _ c.args.c _ _ c.part-w.ensures us c.args.self.now.count _ c.find-i.ensures refl c.in_ok-r.ensures.adds_node N m)) c.loop-i-test.false

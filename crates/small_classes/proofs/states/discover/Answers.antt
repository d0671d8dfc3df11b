use Rattle.std.proofs.Common.{◌≡◌, length, ◌∙◌, ap, rules, arith}
use Rattle.std.specs.Prelude.{replicate}
use Rattle.small_rounds.specs.Rows.{machine_in}
use Rattle.small_classes.proofs.FoundLaws.{kept-begin, found-begin, kept-state, kept-all, found-more, found-grows, found_all}
use Rattle.small_classes.proofs.states.discover.Goals as goal

pub loop-i-init : goal.loop-i-init
loop-i-init c = let m = machine_in c.args.m.rows in
    let some = c.args.m.stored.formed.some-state in
    let z : c.fill.new.self ≡ replicate (length c.args.seen.now) 0 = search rules in
    (omega arith, kept-begin m some c.args.list.now c.requires.0 c.fill.new.self (z ∙ ap (λ n. replicate n 0) c.requires.1), found-begin m some c.args.list.now c.requires.0)

pub turn-count-requires : goal.turn-count-requires
turn-count-requires c =
    let inv = c.loop-i.invariant in
    (inv.1, omega (arith, c.from-j.ensures, kept-state c.args.m.rows.states c.loop-i.list c.loop-i.seen c.loop-i.count inv.1 c.loop-i.i c.loop-i-test.true))

pub loop-i-preserved : goal.loop-i-preserved
loop-i-preserved c = let m = machine_in c.args.m.rows in
    let inv = c.loop-i.invariant in
    let test = c.loop-i-test.true in (
      omega (arith, test, found-grows m c.loop-i.list c.loop-i.seen c.loop-i.count inv.1 c.loop-i.i inv.2 test c.from-j.result c.from-j.ensures _ _ _ c.turn-count.ensures),
      c.turn-count.ensures.kept,
      found-more m c.loop-i.list c.loop-i.seen c.loop-i.count inv.1 c.loop-i.i inv.2 test c.from-j.result c.from-j.ensures _ _ _ c.turn-count.ensures,
    )

pub returns : goal.returns
returns c = let inv = c.loop-i.invariant in (
  found_all (machine_in c.args.m.rows) c.loop-i.list c.loop-i.seen c.loop-i.count inv.1 c.loop-i.i inv.2 (omega (arith, inv.0, inv.1.few)) (omega arith),
  inv.1.few,
  kept-all c.args.m.rows.states c.loop-i.list c.loop-i.seen c.loop-i.count inv.1,
)

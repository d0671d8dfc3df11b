use Rattle.std.proofs.Common.{sym}
use Prim.Native.Nat.{◌-◌}
use mathlib.Core.Path.{refl, ap}
use lib.ListN.{get_or}
use native.Mathlib.Omega.{arith}
use Rattle.table_kept.proofs.ArraysRight.{few-nodes, few-signals, few-before, kept-right, lost-right}
use Rattle.table_kept.proofs.kept.search.Goals as goal

pub before-may-requires : goal.before-may-requires
before-may-requires c = let r = c.requires.0 in few-nodes r.bytes r.formed c.args.d r.holds c.args.set c.among-a.result c.among-a.ensures

pub store_targets-requires : goal.store_targets-requires
store_targets-requires c = let r =
    c.requires.0 in (few-signals r.bytes r.formed c.args.d r.holds c.args.set c.among-a.result c.among-a.ensures, refl)

pub discover-h-requires : goal.discover-h-requires
discover-h-requires c = let r = c.requires.0 in (
  few-nodes r.bytes r.formed c.args.d r.holds c.args.set c.among-a.result c.among-a.ensures,
  few-before r.bytes r.formed c.args.d r.holds c.args.set c.among-a.result c.among-a.ensures c.args.node c.requires.1
      c.requires.2 (ap (λ z. get_or c.among-a.result.category (z - 1) 0) c.from.ensures) c.before-may.result
      c.before-may.ensures
      c.store_targets.new.all c.store_targets.ensures,
)

pub first_loss-requires : goal.first_loss-requires
first_loss-requires c = let r = c.requires.0 in few-signals r.bytes r.formed c.args.d r.holds c.args.set c.among-a.result c.among-a.ensures

pub way_to-requires : goal.way_to-requires
way_to-requires c = let r = c.requires.0 in
    (few-nodes r.bytes r.formed c.args.d r.holds c.args.set c.among-a.result c.among-a.ensures, omega (arith, c.in-Some.ensures.1, c.discover-h.result.few))

pub returns-in-Some : goal.returns-in-Some
returns-in-Some c = λ t f h.
    lost-right t f c.args.d h c.args.set c.among-a.result c.among-a.ensures c.args.node c.requires.1 c.requires.2
    (ap (λ z. get_or c.among-a.result.category (z - 1) 0) c.from.ensures)
    c.before-may.result c.before-may.ensures c.store_targets.new.all c.store_targets.ensures c.discover-h.result c.discover-h.ensures c.from-c.ensures
    c.in-Some.ensures.0 c.in-Some.ensures.1 c.at.ensures c.rings-signal.ensures c.way_to.ensures.1 c.lost_mark.ensures

pub returns-in-None : goal.returns-in-None
returns-in-None c = λ t f h.
    kept-right t f c.args.d h c.args.set c.among-a.result c.among-a.ensures c.args.node c.requires.1 c.requires.2
    (ap (λ z. get_or c.among-a.result.category (z - 1) 0) c.from.ensures)
    c.before-may.result c.before-may.ensures c.store_targets.new.all c.store_targets.ensures c.discover-h.result c.discover-h.ensures c.from-c.ensures
    (sym c.in-None.ensures) (omega arith) c.kept_mark.ensures

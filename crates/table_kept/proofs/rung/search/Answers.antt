use Rattle.std.proofs.Common.{sym}
use mathlib.Core.Path.{refl}
use native.Mathlib.Omega.{arith}
use Rattle.table_kept.proofs.ArraysRight.{few-nodes, few-signals, few-any, rung-right, silent-right}
use Rattle.table_kept.proofs.rung.search.Goals as goal

pub before-may-requires : goal.before-may-requires
before-may-requires c = few-nodes c.requires.bytes c.requires.formed c.args.d c.requires.holds c.args.set c.among-a.result c.among-a.ensures

pub store_targets-requires : goal.store_targets-requires
store_targets-requires c = (few-signals c.requires.bytes c.requires.formed c.args.d c.requires.holds c.args.set c.among-a.result c.among-a.ensures, refl)

pub discover-h-requires : goal.discover-h-requires
discover-h-requires c = (
  few-nodes c.requires.bytes c.requires.formed c.args.d c.requires.holds c.args.set c.among-a.result c.among-a.ensures,
  few-any c.requires.bytes c.requires.formed c.args.d c.requires.holds c.args.set c.among-a.result c.among-a.ensures
      c.before-may.result
      c.before-may.ensures
      c.store_targets.new.all c.store_targets.ensures,
)

pub way_to-requires : goal.way_to-requires
way_to-requires c = (
  few-nodes c.requires.bytes c.requires.formed c.args.d c.requires.holds c.args.set c.among-a.result c.among-a.ensures,
  omega (arith, c.in-Some.ensures.1, c.discover-h.result.few),
)

pub returns-in-Some : goal.returns-in-Some
returns-in-Some c = λ t f h.
    rung-right t f c.args.d h c.args.set c.among-a.result c.among-a.ensures c.before-may.result c.before-may.ensures c.store_targets.new.all
    c.store_targets.ensures c.discover-h.result c.discover-h.ensures c.args.signal c.in-Some.ensures.0 c.in-Some.ensures.1 c.way_to.ensures.1 c.rung_by.ensures

pub returns-in-None : goal.returns-in-None
returns-in-None c = λ t f h.
    silent-right t f c.args.d h c.args.set c.among-a.result c.among-a.ensures c.before-may.result c.before-may.ensures c.store_targets.new.all
    c.store_targets.ensures c.discover-h.result c.discover-h.ensures c.args.signal (sym c.in-None.ensures) (omega arith) c.refused.ensures

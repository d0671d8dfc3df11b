use Rattle.std.proofs.Common.{◌≡◌, ℕ, subst, sym, arith}
use Rattle.small_rounds.specs.Rows.{machine_in}
use Rattle.small_classes.specs.Found.{Kept, Visited, Turned}
use Rattle.small_classes.proofs.FoundLaws.{turned_none, turned_more}
use Rattle.small_classes.proofs.states.turn.Goals as goal

pub loop-s-init : goal.loop-s-init
loop-s-init c = turned_none (machine_in c.args.m.rows) c.args.list.now c.args.count c.args.j c.args.seen.now c.requires.0

pub visit-found-requires : goal.visit-found-requires
visit-found-requires c =
    let k = c.loop-s.invariant.kept in
    let h = c.args.m.stored.formed.leads c.args.j c.loop-s.s c.requires.1 c.loop-s-test.true in
    (subst (λ (n : ℕ). Kept n c.loop-s.list c.loop-s.seen c.loop-s.found) (sym k.wide) k, omega (arith, k.wide, c.target.ensures, h), omega (arith, k.wide, c.args.m.stored.few))

pub loop-s-preserved : goal.loop-s-preserved
loop-s-preserved c =
    turned_more (machine_in c.args.m.rows) c.args.list.now c.args.count c.args.j c.loop-s.s c.loop-s.list c.loop-s.seen c.loop-s.found _ _ _ _ c.loop-s.invariant
    c.target.ensures
    (subst (λ (n : ℕ). Visited n c.loop-s.list c.loop-s.found c.target.result c.visit-found.new.list c.visit-found.new.seen c.visit-found.result) c.loop-s.invariant.kept.wide c.visit-found.ensures)

pub returns : goal.returns
returns c =
    let e : c.loop-s.s ≡ c.args.m.rows.symbols = omega arith in
    subst (λ (s : ℕ). Turned (machine_in c.args.m.rows) c.args.list.now c.args.count c.args.j s c.loop-s.list c.loop-s.seen c.loop-s.found) e c.loop-s.invariant

use Rattle.std.proofs.Common.{◌≡◌, ℕ, length, ◌∙◌, ap, sym, subst, arith}
use Rattle.theory_minimal.specs.Refine.{block_number}
use Rattle.base_lists.specs.Lists.{tabulate}
use lib.Seq.{length-take-le}
use Rattle.small_rounds.specs.Rows.{machine_in}
use Rattle.small_rounds.proofs.RoundLaws.{refined-length}
use Rattle.small_classes.specs.Found.{Firsts}
use Rattle.small_classes.proofs.CheckLaws.{firsts-of, proposal-is}
use Rattle.small_classes.proofs.number.Goals as goal

pub number-requires : goal.number-requires
number-requires c = let m = machine_in c.args.m.rows in
    let l : length c.args.x.now ≡ m.states = ap length c.requires.1 ∙ refined-length m m.states in
    (omega (arith, l, c.args.m.stored.few), c.requires.0 ∙ sym l, subst (λ (n : ℕ). Firsts c.args.x.now n) (sym l) (firsts-of m c.args.m.stored.formed c.args.x.now c.requires.1))

pub discover-count-requires : goal.discover-count-requires
discover-count-requires c = (ap length c.requires.1 ∙ refined-length (machine_in c.args.m.rows) c.args.m.rows.states, c.requires.2)

pub slice_bounds-all_found-end : goal.slice_bounds-all_found-end
slice_bounds-all_found-end c = let m = machine_in c.args.m.rows in
    let l : length c.args.x.now ≡ m.states = ap length c.requires.1 ∙ refined-length m m.states in
    omega (arith, l, c.discover-count.ensures.1, c.discover-count.auto.list)

pub slice_bounds-all_found-end-2 : goal.slice_bounds-all_found-end-2
slice_bounds-all_found-end-2 c = let m = machine_in c.args.m.rows in
    let l : length c.args.x.now ≡ m.states = ap length c.requires.1 ∙ refined-length m m.states in
    sym (length-take-le c.discover-count.result c.discover-count.new.list (omega (arith, l, c.discover-count.ensures.1, c.discover-count.auto.list)))

pub returns : goal.returns
returns c = let m = machine_in c.args.m.rows in
    let l : length c.args.x.now ≡ m.states = ap length c.requires.1 ∙ refined-length m m.states in
    proposal-is m c.args.x.now _ _ c.all_found.result c.requires.1 (c.number.ensures ∙ ap (tabulate (block_number c.args.x.now)) l) c.discover-count.ensures.0
    c.all_found.ensures

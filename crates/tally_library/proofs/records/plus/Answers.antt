use Rattle.std.proofs.Common.{◌≡◌, ◌∙◌, ◌+◌, arith, rules}
use Rattle.std.specs.Prelude.{None}
use Rattle.tally_library.proofs.PlusLaws.{fits_all, chosen-full, used-full, skipped-full, added-no, added-yes}
use Rattle.tally_library.proofs.records.plus.Goals as goal

pub returns-in_err-checked_add : goal.returns-in_err-checked_add
returns-in_err-checked_add c =
    let n : c.from_residual.result ≡ None = search rules in
    n ∙ added-no c.args.x c.args.r (chosen-full c.args.x c.args.r (omega (arith, c.in_err-checked_add.ensures)))

pub returns-in_err-checked_add-2 : goal.returns-in_err-checked_add-2
returns-in_err-checked_add-2 c =
    let n : c.from_residual-in_err-checked_add-2.result ≡ None = search rules in
    n ∙ added-no c.args.x c.args.r (used-full c.args.x c.args.r (omega (arith, c.in_err-checked_add-2.ensures, c.from.ensures)))

pub returns-in_err-checked_add-3 : goal.returns-in_err-checked_add-3
returns-in_err-checked_add-3 c =
    let n : c.from_residual-in_err-checked_add-3.result ≡ None = search rules in
    n ∙ added-no c.args.x c.args.r (skipped-full c.args.x c.args.r (omega (arith, c.in_err-checked_add-3.ensures, c.from-2.ensures)))

pub returns : goal.returns
returns c =
    let x = c.args.x in
    let r = c.args.r in
    let a : c.in_ok-checked_add.field-0 ≡ x.chosen + 1 = omega (arith, c.in_ok-checked_add.ensures) in
    let b : c.in_ok-checked_add-2.field-0 ≡ x.used + r.used = omega (arith, c.in_ok-checked_add-2.ensures, c.from.ensures) in
    let d : c.in_ok-checked_add-3.field-0 ≡ x.skipped + r.skipped = omega (arith, c.in_ok-checked_add-3.ensures, c.from-2.ensures) in
    rw (a, b, d) (added-yes x r (fits_all _ (omega (arith, c.in_ok-checked_add.ensures)) (omega (arith, c.in_ok-checked_add-2.ensures, c.from.ensures))
    (omega (arith, c.in_ok-checked_add-3.ensures, c.from-2.ensures))))

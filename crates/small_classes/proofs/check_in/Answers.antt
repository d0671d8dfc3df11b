use Rattle.std.proofs.Common.{length, ◌∙◌, ap, sym}
use Rattle.theory_minimal.specs.Test.{fits}
use Rattle.small_rounds.specs.Rows.{machine_in, has_machine}
use Rattle.small_classes.proofs.CheckLaws.{answer-is, rows-fits, fits-yes}
use Rattle.small_classes.proofs.check_in.Goals as goal

pub returns-in-Some : goal.returns-in-Some
returns-in-Some c = let r = c.args.rows in
    let a = answer-is (has_machine r) (length c.args.x.now) (length c.args.y.now) r.states c.requires.1 c.requires.2 in
    fits-yes r.bytes.now r.states r.head r.symbols c.args.p.now _ (sym a ∙ c.in-Some.ensures.alike.0)
    (c.fits.ensures ∙ ap (λ z. fits (machine_in z) c.args.p.now) c.in-Some.ensures.alike.1)

pub returns-in-None : goal.returns-in-None
returns-in-None c = let r = c.args.rows in
    let a = answer-is (has_machine r) (length c.args.x.now) (length c.args.y.now) r.states c.requires.1 c.requires.2 in
    rows-fits r.bytes.now r.states r.head r.symbols c.args.p.now (sym a ∙ c.in-None.ensures.alike.0)

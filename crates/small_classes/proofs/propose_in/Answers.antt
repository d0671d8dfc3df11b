use Rattle.std.proofs.Common.{length, ◌∙◌, ap, sym}
use Rattle.theory_minimal.specs.Refine.{classes}
use Rattle.theory_minimal.specs.Test.{all_reached}
use Rattle.small_rounds.specs.Rows.{machine_in, has_machine}
use Rattle.small_classes.proofs.CheckLaws.{answer-is, rows-proposed, proposed-yes}
use Rattle.small_classes.proofs.propose_in.Goals as goal

pub returns-in-Some : goal.returns-in-Some
returns-in-Some c = let r = c.args.rows in
    let a = answer-is (has_machine r) (length c.args.x.now) (length c.args.y.now) r.states c.requires.1 c.requires.2 in
    let e = c.in-Some.ensures.alike.1 in
    proposed-yes r.bytes.now r.states r.head r.symbols c.args.out.now _ _ c.requires.0 (sym a ∙ c.in-Some.ensures.alike.0)
    (c.number.ensures.0 ∙ ap (λ z. all_reached (machine_in z) (classes (machine_in z))) e, c.number.ensures.1 ∙ ap (λ z. classes (machine_in z)) e)

pub returns-in-None : goal.returns-in-None
returns-in-None c = let r = c.args.rows in
    let a = answer-is (has_machine r) (length c.args.x.now) (length c.args.y.now) r.states c.requires.1 c.requires.2 in
    rows-proposed r.bytes.now r.states r.head r.symbols c.args.out.now (sym a ∙ c.in-None.ensures.alike.0)

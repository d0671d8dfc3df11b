use Rattle.std.proofs.Common.{◌≡◌, ◌++◌, ◌∙◌, ap, refl, arith}
use lib.ListN.{drop, length, length-take}
use Rattle.base_lists.proofs.Over.{laid-all, over-front}
use Rattle.small_write.proofs.AnswerLaws.{head-written}
use Rattle.small_write.proofs.put_head.Goals as goal

pub returns : goal.returns
returns c = let front = c.args.front.now in
    let head = c.args.head.now in
    let e : c.copy.new.part ≡ front = c.copy.ensures ∙ laid-all _ _ (simp length-take (omega (arith, c.requires.1))) in
    head-written front head _ c.args.count c.requires.1 (ap (λ x. x ++ drop (length front) head) e ∙ over-front front head (length front) refl)

use Rattle.std.proofs.Common.{ℕ, ◌≡◌, ◌+◌, ◌/◌, ◌%◌, [], ◌∷◌, take, arith, ap, ◌∙◌}
use Rattle.sample_names.proofs.NameLaws.{z-one, z-two}
use Rattle.sample_names.proofs.FreeName.new.Goals as goal
use Rattle.sample_names.proofs.FreeName.new.Goals.{then-k-lt10, else-k-lt10}

pub returns : goal.returns
returns c = λ few. elim c.if-k-lt10.branch [
  | then-k-lt10 w ↦
      let k = c.args.k in
      let one : k % 10 ≡ k = omega (arith, w.if-k-lt10.true) in
      ap (λ r. take r.1.0 r.0) w.result-is ∙ ap (λ (n : ℕ). 122 ∷ (48 + n) ∷ []) one ∙ z-one k few w.if-k-lt10.true
  | else-k-lt10 w ↦
      let k = c.args.k in
      let tens : k / 10 % 10 ≡ k / 10 = omega (arith, few) in
      ap (λ r. take r.1.0 r.0) w.result-is ∙ ap (λ (n : ℕ). 122 ∷ (48 + n) ∷ (48 + k % 10) ∷ []) tens ∙ z-two k few w.if-k-lt10.false
]

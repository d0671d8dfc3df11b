use Rattle.std.proofs.Common.{◌≡◌, ℕ, zero, suc, ◌/◌, ◌%◌, refl}
use Rattle.sample_seed.specs.Numbers.{choice_of}
use Rattle.sample_seed.proofs.choice.Goals as goal

choice_none : (x n : ℕ) → n ≡ 0 → 0 ≡ choice_of x n
unfolding choice_of
choice_none x zero h = refl
choice_none x (suc n) h = cc

choice-some : (x n : ℕ) → (n ≡ 0 → ⊥) → x / 65536 % n ≡ choice_of x n
unfolding choice_of
choice-some x zero some = absurd (some refl)
choice-some x (suc n) some = refl

pub returns-then-n-eq0 : goal.returns-then-n-eq0
returns-then-n-eq0 c = choice_none _ _ c.if-n-eq0.true

pub returns-else-n-eq0 : goal.returns-else-n-eq0
returns-else-n-eq0 c = choice-some _ _ c.if-n-eq0.false

-- From 1 the next number is 1015568748, and the product for the one after it passes 4,294,967,296 many times.
use Rattle.std.proofs.Common.{◌≡◌, refl}
use Rattle.sample_seed.specs.Numbers.{next_of, choice_of}

pub after_one : next_of 1 ≡ 1015568748
after_one = refl

pub after-that : next_of 1015568748 ≡ 1586005467
after-that = refl

-- it chooses the first of 8
pub chooses : choice_of 1015568748 8 ≡ 0
unfolding choice_of
chooses = refl

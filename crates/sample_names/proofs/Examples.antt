-- The names of some numbers.
use mathlib.Core.Path.{◌≡◌, refl}
use mathlib.Core.List.{[], ◌∷◌}
use Rattle.base_ascii.specs.Ascii.{bytes}
use Rattle.sample_names.specs.FirstFree.{one_more, digits_of, z_name, first_free, name_taken, foreign}

pub z-ten : z_name 10 ≡ bytes "z10"
unfolding z_name digits_of one_more
z-ten = refl

pub z-hundred : z_name 100 ≡ bytes "z100"
unfolding z_name digits_of one_more
z-hundred = refl

-- the second name, where the first is a category
pub second : foreign (bytes "z0" ∷ bytes "a" ∷ []) ≡ bytes "z1"
unfolding foreign first_free name_taken z_name digits_of one_more
second = refl

-- The marked lines of the request on numbers.
use mathlib.Core.Path.{◌≡◌, refl}
use mathlib.Core.List.{[], ◌∷◌}
use Rattle.terms.specs.Result.{got, refused}
use Rattle.terms.specs.Number.{number, groups}

marked : (number 4294967295 (0x7f ∷ []) 0 ≡ got 127 1)
    × (number 4294967295 (0x80 ∷ 0x01 ∷ []) 0 ≡ got 128 2)
    × (number 4294967295 (0x80 ∷ 0x00 ∷ []) 0 ≡ refused 3)
    × (number 4294967295 (0xff ∷ 0xff ∷ 0xff ∷ 0xff ∷ 0x0f ∷ []) 0 ≡ got 4294967295 5)
    × (number 4294967295 (0x80 ∷ 0x80 ∷ 0x80 ∷ 0x80 ∷ 0x10 ∷ []) 0 ≡ refused 3)
unfolding groups
marked = (refl, refl, refl, refl, refl)

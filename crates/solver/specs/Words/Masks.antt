-- Masks: bit n of a number.
use Rattle.std.specs.Prelude.{Bool, ℕ, ◌/◌, ◌%◌, ◌^◌, eqb}

unfoldable pub bit : ℕ → ℕ → Bool
bit m n = eqb (m / 2 ^ n % 2) 1

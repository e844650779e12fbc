-- What the functions of this crate say of numbers of four bytes.
use Rattle.std.specs.Prelude.{List, ℕ, ◌+◌, ◌*◌, ◌/◌, ◌%◌, get_or, set}

-- the number of four bytes at i, the low byte first
abbrev pub number_at : List ℕ → ℕ → ℕ
number_at s i = get_or s i 0 + get_or s (i + 1) 0 * 256 + get_or s (i + 2) 0 * 65536 + get_or s (i + 3) 0 * 16777216

-- the list with the low 32 bits of a number at i
abbrev pub put_number : List ℕ → ℕ → ℕ → List ℕ
put_number s i v = set (set (set (set s i (v % 256)) (i + 1) (v / 256 % 256)) (i + 2) (v / 65536 % 256)) (i + 3) (v / 16777216 % 256)

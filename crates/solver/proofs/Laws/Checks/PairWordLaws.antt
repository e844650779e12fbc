-- A pair in one word: its places are read off the word.
use mathlib.Core.Path.{◌≡◌}
use Prim.Native.Nat.{ℕ, ◌<◌}
use native.Mathlib.Omega.{arith}
use Rattle.solver.specs.Words.PendingContract.{pair_word, left_of, right_of}

pub left_of_pair : (l r : ℕ) → l < 65536 → left_of (pair_word l r) ≡ l
left_of_pair l r h = omega arith

pub right_of_pair : (l r : ℕ) → l < 65536 → right_of (pair_word l r) ≡ r
right_of_pair l r h = omega arith

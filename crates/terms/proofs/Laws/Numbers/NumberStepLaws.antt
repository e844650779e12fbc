-- One byte of a number: the cases of `groups`, and the sums that the code makes.
use mathlib.Core.Path.{◌≡◌, refl, ap, ◌∙◌}
use mathlib.Core.List.{List, ◌∷◌}
use Prim.Native.Nat.{ℕ, zero, suc, ◌+◌, ◌-◌, ◌*◌, ◌/◌, ◌≤◌, ◌<◌}
use native.Mathlib.Nat.{div-lt_iff_lt-mul, le-div_iff_mul-le, add-mul, sub-add_cancel}
use native.Mathlib.Numerals.{add-one}
use native.Mathlib.Omega.{arith}
use borrow.Author.Tests.{lt-ltb, le-ltb, le-leb, lt-leb, eq-eqb, ne_eqb}
use lib.ListN.{length, drop, get_or, drop_of_length-le}
use lib.Seq.{drop-cons}
use Rattle.terms.specs.Result.{got, refused}
use Rattle.terms.specs.Number.{groups}

module _ (most v w b : ℕ) (here : v ≤ most) (pos : 0 < w) where
  -- the test of the code, without its division
  pub over : (most - v) / w < b → most < v + b * w
  over h = omega (arith, (div-lt_iff_lt-mul pos).0 h)

  pub within : b ≤ (most - v) / w → v + b * w ≤ most
  within h = omega (arith, (le-div_iff_mul-le pos).0 h)

-- a group with more to follow, and what must follow at least
pub parts : (b w : ℕ) → 128 ≤ b → (b - 128) * w + 128 * w ≡ b * w
parts b w h = rw (← add-mul, sub-add_cancel)

module _ (most v w at b : ℕ) (bs : List ℕ) where
  pub step_over : most < v + b * w → groups most v w at (b ∷ bs) ≡ refused 3
  unfolding groups
  step_over h = simp (lt-ltb most (v + b * w) h)

  pub step_more : v + b * w ≤ most → 128 ≤ b → groups most v w at (b ∷ bs) ≡ groups most (v + (b - 128) * w) (w * 128) (at + 1) bs
  unfolding groups
  step_more h k = simp (le-ltb most (v + b * w) h, le-leb 128 b k)

  pub step_padded : v + b * w ≤ most → b ≡ 0 → 1 < w → groups most v w at (b ∷ bs) ≡ refused 3
  unfolding groups
  step_padded h z k = simp (le-ltb most (v + b * w) h, lt-leb 128 b (omega arith), eq-eqb b 0 z, lt-ltb 1 w k)

  pub step_zero : v + b * w ≤ most → b ≡ 0 → w ≤ 1 → groups most v w at (b ∷ bs) ≡ got (v + b * w) (at + 1)
  unfolding groups
  step_zero h z k = simp (le-ltb most (v + b * w) h, lt-leb 128 b (omega arith), eq-eqb b 0 z, le-ltb 1 w k)

  pub step_last : v + b * w ≤ most → b < 128 → (b ≡ 0 → ⊥) → groups most v w at (b ∷ bs) ≡ got (v + b * w) (at + 1)
  unfolding groups
  step_last h k n = simp (le-ltb most (v + b * w) h, lt-leb 128 b k, ne_eqb b 0 n)

-- one group is the number
pub one_group : (most at b : ℕ) (bs : List ℕ) → b ≤ most → b < 128 → groups most 0 1 at (b ∷ bs) ≡ got b (at + 1)
one_group most at zero bs h k = step_zero most 0 1 at 0 bs (omega (arith, h)) refl (omega arith)
one_group most at (suc b) bs h k = step_last most 0 1 at (suc b) bs (omega (arith, h)) k (λ z. omega (arith, z)) ∙ ap (λ n. got n (at + 1)) (omega arith)

-- the bytes from i on
pub at_byte : (s : List ℕ) (i : ℕ) → i < length s → drop i s ≡ get_or s i 0 ∷ drop (i + 1) s
at_byte s i h = rw (add-one, drop-cons s i 0)

pub at-end : (s : List ℕ) (most v w i : ℕ) → length s ≤ i → groups most v w i (drop i s) ≡ refused 1
unfolding groups
at-end s most v w i h = rw (drop_of_length-le s h)

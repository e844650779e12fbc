-- Words as lists of halves.
use mathlib.Core.List.{List, [], ◌∷◌}
use mathlib.Core.Path.{◌≡◌, refl, sym, ap, ap₂, ◌∙◌}
use Prim.Native.Nat.{ℕ, zero, suc, ◌+◌, ◌*◌, ◌/◌, ◌%◌, ◌<◌}
use native.Mathlib.Decide.{ℕ_discrete}
use native.Mathlib.Omega.{arith}
use lib.ListN.{length, get_or, set}
use lib.Seq.{get_or-set_same, get_or-set_other}
use Rattle.solver.specs.Words.Halves.{low_half, high_half, halves}
use Rattle.solver.specs.Words.Worklist.{Zero}

pub halves_length : (l : List ℕ) → length (halves l) ≡ length l + length l
unfolding halves
halves_length [] = refl
halves_length (w ∷ ws) = omega (arith, halves_length ws)

-- ---- reading

halves_low : (l : List ℕ) (v : ℕ) → get_or (halves l) (v + v) 0 ≡ low_half (get_or l v 0)
unfolding halves
halves_low [] v = refl
halves_low (w ∷ ws) zero = refl
halves_low (w ∷ ws) (suc v) =
    let e : suc v + suc v ≡ suc (suc (v + v)) = omega arith in
    ap (λ (i : ℕ). get_or (halves (w ∷ ws)) i 0) e ∙ halves_low ws v

halves_high : (l : List ℕ) (v : ℕ) → get_or (halves l) (suc (v + v)) 0 ≡ high_half (get_or l v 0)
unfolding halves
halves_high [] v = refl
halves_high (w ∷ ws) zero = refl
halves_high (w ∷ ws) (suc v) =
    let e : suc (suc v + suc v) ≡ suc (suc (suc (v + v))) = omega arith in
    ap (λ (i : ℕ). get_or (halves (w ∷ ws)) i 0) e ∙ halves_high ws v

module _ (l : List ℕ) (i : ℕ) where
  pub half_even : i % 2 ≡ 0 → get_or (halves l) i 0 ≡ low_half (get_or l (i / 2) 0)
  half_even h =
      let e : i ≡ i / 2 + i / 2 = omega arith in
      ap (λ (k : ℕ). get_or (halves l) k 0) e ∙ halves_low l (i / 2)

  pub half_odd : (i % 2 ≡ 0 → ⊥) → get_or (halves l) i 0 ≡ high_half (get_or l (i / 2) 0)
  half_odd h =
      let e : i ≡ suc (i / 2 + i / 2) = omega (arith, h) in
      ap (λ (k : ℕ). get_or (halves l) k 0) e ∙ halves_high l (i / 2)

-- the same word, the same half
half_same : (l m : List ℕ) (i : ℕ) → get_or l (i / 2) 0 ≡ get_or m (i / 2) 0 → get_or (halves l) i 0 ≡ get_or (halves m) i 0
half_same l m i e = go (ℕ_discrete (i % 2) 0)
  where
    go : Dec (i % 2 ≡ 0) → get_or (halves l) i 0 ≡ get_or (halves m) i 0
    go (yes h) = half_even l i h ∙ ap low_half e ∙ sym (half_even m i h)
    go (no h) = half_odd l i h ∙ ap high_half e ∙ sym (half_odd m i h)

-- a half of an index has its word
pub half_inside : (l : List ℕ) (i : ℕ) → i < length (halves l) → i / 2 < length l
half_inside l i h = omega (arith, halves_length l)

-- ---- writing

set_low : (l : List ℕ) (v x : ℕ) → x < 65536 → halves (set l v (high_half (get_or l v 0) * 65536 + x)) ≡ set (halves l) (v + v) x
unfolding halves
set_low [] v x h = refl
set_low (w ∷ ws) zero x h =
    let a : low_half (high_half w * 65536 + x) ≡ x = omega arith in
    let b : high_half (high_half w * 65536 + x) ≡ high_half w = omega arith in
    ap₂ (λ (c d : ℕ). c ∷ d ∷ halves ws) a b
set_low (w ∷ ws) (suc v) x h =
    let e : suc (suc (v + v)) ≡ suc v + suc v = omega arith in
    ap (λ (r : List ℕ). low_half w ∷ high_half w ∷ r) (set_low ws v x h) ∙ ap (λ (k : ℕ). set (halves (w ∷ ws)) k x) e

set_high : (l : List ℕ) (v x : ℕ) → halves (set l v (low_half (get_or l v 0) + x * 65536)) ≡ set (halves l) (suc (v + v)) x
unfolding halves
set_high [] v x = refl
set_high (w ∷ ws) zero x =
    let a : low_half (low_half w + x * 65536) ≡ low_half w = omega arith in
    let b : high_half (low_half w + x * 65536) ≡ x = omega arith in
    ap₂ (λ (c d : ℕ). c ∷ d ∷ halves ws) a b
set_high (w ∷ ws) (suc v) x =
    let e : suc (suc (suc (v + v))) ≡ suc (suc v + suc v) = omega arith in
    ap (λ (r : List ℕ). low_half w ∷ high_half w ∷ r) (set_high ws v x) ∙ ap (λ (k : ℕ). set (halves (w ∷ ws)) k x) e

module _ (l : List ℕ) (i x w : ℕ) where
  pub put_even : i % 2 ≡ 0 → x < 65536 → w ≡ high_half (get_or l (i / 2) 0) * 65536 + x → halves (set l (i / 2) w) ≡ set (halves l) i x
  put_even h s is =
      let e : i / 2 + i / 2 ≡ i = omega arith in
      ap (λ (y : ℕ). halves (set l (i / 2) y)) is ∙ set_low l (i / 2) x s ∙ ap (λ (k : ℕ). set (halves l) k x) e

  pub put_odd : (i % 2 ≡ 0 → ⊥) → w ≡ low_half (get_or l (i / 2) 0) + x * 65536 → halves (set l (i / 2) w) ≡ set (halves l) i x
  put_odd h is =
      let e : suc (i / 2 + i / 2) ≡ i = omega (arith, h) in
      ap (λ (y : ℕ). halves (set l (i / 2) y)) is ∙ set_high l (i / 2) x ∙ ap (λ (k : ℕ). set (halves l) k x) e

-- a word that is 0 has no half
pub half_none : (l : List ℕ) (i : ℕ) → get_or l (i / 2) 0 ≡ 0 → get_or (halves l) i 0 ≡ 0
unfolding halves
half_none l i e = half_same l [] i e

-- a word is set: its halves, and the others
module _ (l : List ℕ) (v i : ℕ) where
  pub word_gone : i / 2 ≡ v → v < length l → get_or (halves (set l v 0)) i 0 ≡ 0
  word_gone e h = half_none (set l v 0) i (ap (λ (k : ℕ). get_or (set l v 0) k 0) e ∙ get_or-set_same l v 0 0 h)

  pub word_else : (i / 2 ≡ v → ⊥) → (x : ℕ) → get_or (halves (set l v x)) i 0 ≡ get_or (halves l) i 0
  word_else e x = half_same (set l v x) l i (get_or-set_other l v (i / 2) x 0 e)

-- ---- all 0

pub zero_halves : (l : List ℕ) → Zero l → Zero (halves l)
zero_halves l z i = half_none l i (z (i / 2))

pub halves_zero : (l : List ℕ) → Zero (halves l) → Zero l
halves_zero l z v = omega (arith, halves_low l v, halves_high l v, z (v + v), z (suc (v + v)))

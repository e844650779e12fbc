-- The order of `map_children`, by cases.
use mathlib.Core.Path.{◌≡◌, refl}
use Prim.Native.Nat.{ℕ, zero, suc, min, ◌+◌, ◌-◌, ◌≤◌, ◌<◌}
use native.Mathlib.Decide.{dec_lt}
use native.Mathlib.Omega.{arith}
use borrow.Author.Tests.{lt-ltb, le-ltb, eq-eqb, ne_eqb}
use Rattle.terms.specs.Tree.{nominal_slot, projection_slot, class, slot_by}

module _ (k : ℕ) where
  pub class_projection : k ≡ 18 → 2 ≡ class k
  unfolding class
  class_projection e = rw (eq-eqb k 18 e)

  pub class_plain : (k ≡ 18 → ⊥) → (12 ≤ k → 15 < k) → 0 ≡ class k
  unfolding class
  class_plain e h = go (dec_lt k 12)
    where
      go : Dec (k < 12) → 0 ≡ class k
      go (yes l) = rw (ne_eqb k 18 e, lt-ltb k 12 l)
      go (no l) = let m : 12 ≤ k = omega arith in rw (ne_eqb k 18 e, le-ltb k 12 m, lt-ltb 15 k (h m))

  pub class_nominal : (k ≡ 18 → ⊥) → 12 ≤ k → k ≤ 15 → 1 ≡ class k
  unfolding class
  class_nominal e l h = rw (ne_eqb k 18 e, le-ltb k 12 l, le-ltb 15 k h)

module _ (n m c j r : ℕ) where
  pub nominal_member : j < c - n → r ≡ n + j → r ≡ nominal_slot n c j
  unfolding nominal_slot
  nominal_member h e = rw (lt-ltb j (c - n) h) e

  pub nominal_argument : c - n ≤ j → r ≡ j - (c - n) → r ≡ nominal_slot n c j
  unfolding nominal_slot
  nominal_argument h e = rw (le-ltb j (c - n) h) e

  pub projection_argument : j < c - (1 + n + m) → r ≡ 1 + n + m + j → r ≡ projection_slot n m c j
  unfolding projection_slot
  projection_argument h e = rw (lt-ltb j (c - (1 + n + m)) h) e

  pub projection_receiver : c - (1 + n + m) ≤ j → j ≡ c - (1 + n + m) → r ≡ 0 → r ≡ projection_slot n m c j
  unfolding projection_slot
  projection_receiver h q e = rw (le-ltb j (c - (1 + n + m)) h, eq-eqb j (c - (1 + n + m)) q) e

  pub projection_member : c - (1 + n + m) ≤ j → (j ≡ c - (1 + n + m) → ⊥) → j < c - n → r ≡ j + (1 + n) - (c - (n + m)) → r ≡ projection_slot n m c j
  unfolding projection_slot
  projection_member h q l e = rw (le-ltb j (c - (1 + n + m)) h, ne_eqb j (c - (1 + n + m)) q, lt-ltb j (c - n) l) e

  pub projection_interface : c - (1 + n + m) ≤ j → (j ≡ c - (1 + n + m) → ⊥) → c - n ≤ j → r ≡ j + 1 - (c - n) → r ≡ projection_slot n m c j
  unfolding projection_slot
  projection_interface h q l e = rw (le-ltb j (c - (1 + n + m)) h, ne_eqb j (c - (1 + n + m)) q, le-ltb j (c - n) l) e

  pub slot_zero : (x : ℕ) → x ≡ 0 → j ≡ slot_by x n m c j
  unfolding slot_by
  slot_zero x e = rw e

  pub slot_one : (x : ℕ) → x ≡ 1 → r ≡ nominal_slot (min n c) c j → r ≡ slot_by x n m c j
  unfolding slot_by
  slot_one x e q = rw e q

  pub slot_two : (x : ℕ) → (x ≡ 0 → ⊥) → (x ≡ 1 → ⊥) → r ≡ projection_slot (min n (c - 1)) (min m (c - 1 - min n (c - 1))) c j → r ≡ slot_by x n m c j
  unfolding slot_by
  slot_two zero a b q = absurd (a refl)
  slot_two (suc zero) a b q = absurd (b refl)
  slot_two (suc (suc x)) a b q = q

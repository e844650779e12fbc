-- Flags.
use mathlib.Core.Path.{◌≡◌, refl}
use mathlib.Core.Logic.{◌⊎◌, inl, inr}
use mathlib.Core.Bool.{Bool, true, false, not, ◌&&◌, ◌||◌}
use Prim.Native.Nat.{ℕ}
use native.Mathlib.Omega.{arith}

pub never_true : {A : Type 0} → false ≡ true → A
never_true e = absurd (let z : ◌≡◌ {A = ℕ} 0 1 = cc in omega arith)

pub never_false : {A : Type 0} → true ≡ false → A
never_false e = absurd (let z : ◌≡◌ {A = ℕ} 0 1 = cc in omega arith)

-- ---- either of two

pub or-true : (a b : Bool) → a ≡ true → (a || b) ≡ true
or-true a b h = rw h

pub or_right : (a b : Bool) → b ≡ true → (a || b) ≡ true
or_right true b h = refl
or_right false b h = h

pub or_either : (a b : Bool) → (a || b) ≡ true → (a ≡ true) ⊎ (b ≡ true)
or_either true b h = inl refl
or_either false b h = inr h

pub or_assoc : (a b c : Bool) → ((a || b) || c) ≡ (a || (b || c))
or_assoc true b c = refl
or_assoc false b c = refl

pub or-false : (a b : Bool) → a ≡ false → (a || b) ≡ b
or-false a b h = rw h

pub or-none : (a : Bool) → (a || false) ≡ a
or-none true = refl
or-none false = refl

-- ---- both

pub and-true : (a b : Bool) → a ≡ true → b ≡ true → (a && b) ≡ true
and-true a b g h = rw (g, h)

pub and_both : (a b : Bool) → (a && b) ≡ true → (a ≡ true) × (b ≡ true)
and_both true b h = (refl, h)
and_both false b h = never_true h

pub and-false : (a : Bool) → (a && false) ≡ false
and-false true = refl
and-false false = refl

-- ---- turned round

pub not-true : (b : Bool) → not b ≡ true → b ≡ false
not-true true h = never_true h
not-true false h = refl

pub not-false : (b : Bool) → not b ≡ false → b ≡ true
not-false true h = refl
not-false false h = never_false h

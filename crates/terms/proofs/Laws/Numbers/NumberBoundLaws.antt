-- A number that was read is at most `most`, and ends after its first byte and within the bytes.
use mathlib.Core.Path.{◌≡◌, refl}
use mathlib.Core.Bool.{Bool, true, false, ◌&&◌}
use mathlib.Core.List.{List, [], ◌∷◌}
use Prim.Native.Nat.{ℕ, ◌+◌, ◌-◌, ◌*◌, ◌≤◌, ◌<◌}
use native.Mathlib.Omega.{arith}
use borrow.Author.Tests.{ltb-false}
use lib.Dec.{ltb, leb, eqb}
use lib.ListN.{length, drop, length-drop}
use Rattle.terms.specs.Result.{Result, got, refused, pick}
use Rattle.terms.specs.Number.{groups, number}

pub record Bounded (most at end x n : ℕ) : Type 0 where
  pub small : x ≤ most
  pub after : at < n
  pub inside : n ≤ end

never : {A : Type 0} (c x n : ℕ) → ◌≡◌ {A = Result ℕ} (refused c) (got x n) → A
never c x n e = let z : ◌≡◌ {A = ℕ} 0 1 = cc in absurd (omega arith)

pub bounds : (most v w at : ℕ) (bs : List ℕ) (x n : ℕ) → groups most v w at bs ≡ got x n → Bounded most at (at + length bs) x n
unfolding groups
bounds most v w at [] x n e = never 1 x n e
bounds most v w at (b ∷ bs) x n e =
    go (ltb most (v + b * w)) (leb 128 b) (eqb b 0 && ltb 1 w) refl e (bounds most (v + (b - 128) * w) (w * 128) (at + 1) bs x n)
  where
    go : (over more padded : Bool) → ltb most (v + b * w) ≡ over
        → pick over (refused 3) (pick more (groups most (v + (b - 128) * w) (w * 128) (at + 1) bs) (pick padded (refused 3) (got (v + b * w) (at + 1)))) ≡ got x n
        → (groups most (v + (b - 128) * w) (w * 128) (at + 1) bs ≡ got x n → Bounded most (at + 1) (at + 1 + length bs) x n)
        → Bounded most at (at + length (b ∷ bs)) x n
    go true more padded t e ih = never 3 x n e
    go false true padded t e ih = let r = ih e in record { small = r.small; after = omega arith; inside = omega arith }
    go false false true t e ih = never 3 x n e
    go false false false t e ih =
        let value : v + b * w ≡ x = cc in
        let next : at + 1 ≡ n = cc in
        record { small = omega (arith, ltb-false most (v + b * w) t); after = omega arith; inside = omega arith }

pub number_bounds : (most : ℕ) (s : List ℕ) (at x n : ℕ) → at ≤ length s → number most s at ≡ got x n → Bounded most at (length s) x n
number_bounds most s at x n h e =
    let r = bounds most 0 1 at (drop at s) x n e in
    record { small = r.small; after = r.after; inside = omega (arith, length-drop at s, r.inside) }

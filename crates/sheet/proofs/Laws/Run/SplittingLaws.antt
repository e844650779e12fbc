-- What a length says of the sheet.
use mathlib.Core.Path.{◌≡◌, refl, sym, ap}
use mathlib.Core.Bool.{Bool, true, false}
use mathlib.Core.List.{List}
use Prim.Native.Nat.{ℕ, ◌+◌, ◌-◌, ◌≤◌, ◌<◌}
use native.Mathlib.Decide.{dec_le}
use native.Mathlib.Omega.{arith}
use borrow.Author.Tests.{ltb-false}
use lib.Dec.{ltb}
use lib.ListN.{length, take, drop, drop_of_length-le}
use Rattle.solver.specs.Terms.Result.{Result, got, refused, pick}
use Rattle.solver.specs.Terms.Number.{number, groups}
use Rattle.solver.specs.Terms.Shape as shape
use Rattle.solver.specs.Terms.Shape.{ceiling}
use Rattle.solver.proofs.Terms.NumberBoundLaws.{Bounded, number_bounds}
use Rattle.sheet.specs.Sheet.{part, next_order}

-- nothing is read past the end
past_end : (most : ℕ) (s : List ℕ) (at : ℕ) → length s ≤ at → number most s at ≡ refused 1
unfolding groups
past_end most s at h = ap (groups most 0 1 at) (drop_of_length-le s {i = at} h)

-- a number that was read ends within the bytes, wherever it was looked for
pub number_inside : (most : ℕ) (s : List ℕ) (at v n : ℕ) → got v n ≡ number most s at → Bounded most at (length s) v n
number_inside most s at v n e = go (dec_le at (length s))
  where
    go : Dec (at ≤ length s) → Bounded most at (length s) v n
    go (yes h) = number_bounds most s at v n h (sym e)
    go (no h) =
        let o : number most s at ≡ refused 1 = past_end most s at (omega arith) in
        let z : ◌≡◌ {A = ℕ} 0 1 = cc in
        absurd (omega arith)

-- ---- the order that comes next lies after the position, and within the sheet

pub record Ahead (at next n : ℕ) : Type 0 where
  pub after : at < next
  pub inside : next ≤ n

pub next_ahead : (s : List ℕ) (at : ℕ) (b : List ℕ) (next : ℕ) → got b next ≡ next_order s at → Ahead at next (length s)
next_ahead s at b next e = go (number (ceiling shape.ordinary) s at) refl e
  where
    more : (size from : ℕ) → got size from ≡ number (ceiling shape.ordinary) s at → (t : Bool) → ltb (length s - from) size ≡ t
        → got b next ≡ pick t (refused 10) (got (take size (drop from s)) (from + size)) → Ahead at next (length s)
    more size from f true t q = let z : ◌≡◌ {A = ℕ} 0 1 = cc in absurd (omega arith)
    more size from f false t q =
        let w : next ≡ from + size = cc in
        let i = number_inside _ s at size from f in
        record { after = omega (arith, i.after); inside = omega (arith, i.inside, ltb-false (length s - from) size t) }

    go : (r : Result ℕ) → r ≡ number (ceiling shape.ordinary) s at → got b next ≡ part s r → Ahead at next (length s)
    go (got size from) f q = more size from f (ltb (length s - from) size) refl q
    go (refused c) f q = let z : ◌≡◌ {A = ℕ} 0 1 = cc in absurd (omega arith)

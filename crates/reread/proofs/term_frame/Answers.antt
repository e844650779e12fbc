-- `term_frame`: the number that follows the kind ends within the bytes.
use mathlib.Core.Path.{◌≡◌, sym}
use mathlib.Core.List.{List}
use Prim.Native.Nat.{ℕ, ◌≤◌, ◌<◌}
use native.Mathlib.Decide.{dec_lt}
use native.Mathlib.Omega.{arith}
use lib.ListN.{length}
use Rattle.terms.specs.Result.{Result, got, refused}
use Rattle.terms.specs.Number.{number}
use Rattle.terms.proofs.Laws.Numbers.NumberBoundLaws.{number_bounds}
use Rattle.terms.proofs.Laws.Numbers.NumberStepLaws.{at-end}
use Rattle.reread.proofs.term_frame.Goals as goal

-- where the bytes end before its position there is no number
ends : (most : ℕ) (s : List ℕ) (at x n : ℕ) → number most s at ≡ got x n → n ≤ length s
ends most s at x n e = go (dec_lt (length s) at)
  where
    go : Dec (length s < at) → n ≤ length s
    go (yes p) =
        let none : ◌≡◌ {A = Result ℕ} (refused 1) (got x n) = rw (at-end s most 0 1 at (omega arith)) at e in
        let z : ◌≡◌ {A = ℕ} 0 1 = cc in
        absurd (omega arith)
    go (no p) = (number_bounds most s at x n (omega arith) e).inside

pub part_at-requires-clause-room : goal.part_at-requires-clause-room
part_at-requires-clause-room c =
    let here = ends 4294967295 c.args.input.bytes.now 1 _ _ (sym c.in_ok-issued.ensures) in
    record { inside = here; tokens = omega (arith, c.args.input.few); counts = omega (arith, c.args.input.few) }

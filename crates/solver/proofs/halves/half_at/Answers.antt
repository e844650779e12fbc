use native.Mathlib.Omega.{arith}
use Rattle.solver.proofs.Laws.Equality.HalfLaws.{half_inside, half_even, half_odd}
use native.Mathlib.Decide.{ℕ_discrete}
use mathlib.Core.Path.{◌≡◌}
use Prim.Native.Nat.{◌%◌}
use Rattle.solver.proofs.halves.half_at.Goals as goal

pub offset_bounds-words-i : goal.offset_bounds-words-i
offset_bounds-words-i c = omega (arith, half_inside c.args.words.now c.args.i c.requires, c.well_formed)

pub bounds-words-i : goal.bounds-words-i
bounds-words-i c = half_inside c.args.words.now c.args.i c.requires

pub returns : goal.returns
returns c =
    let a = c.args in
    elim (ℕ_discrete (a.i % 2) 0) [
      | yes h ↦ rw h (omega (arith, half_even a.words.now a.i h))
      | no h ↦ let e : a.i % 2 ≡ 1 = omega (arith, h) in rw e (omega (arith, half_odd a.words.now a.i h))
    ]

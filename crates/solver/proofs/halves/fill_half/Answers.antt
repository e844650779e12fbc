use native.Mathlib.Omega.{arith}
use Rattle.solver.proofs.Laws.Equality.HalfLaws.{half_inside, half_even, half_odd, put_even, put_odd}
use Rattle.solver.proofs.halves.fill_half.Goals.{then-i-eq0, else-i-eq0}
use Rattle.solver.proofs.halves.fill_half.Goals as goal

pub offset_bounds-words-i : goal.offset_bounds-words-i
offset_bounds-words-i c = omega (arith, half_inside c.args.words.now c.args.i c.requires.0, c.well_formed)

pub bounds-words-i : goal.bounds-words-i
bounds-words-i c = half_inside c.args.words.now c.args.i c.requires.0

pub overflow_add-words : goal.overflow_add-words
overflow_add-words c =
    let a = c.args in
    elim c.if-i-eq0.branch [
      | then-i-eq0 w ↦ omega (arith, half_even a.words.now a.i w.if-i-eq0.true, c.requires.1, c.requires.2, w.added-is)
      | else-i-eq0 w ↦ omega (arith, half_odd a.words.now a.i w.if-i-eq0.false, c.requires.1, c.requires.2, w.added-is)
    ]

pub bounds-words-i-2 : goal.bounds-words-i-2
bounds-words-i-2 c = half_inside c.args.words.now c.args.i c.requires.0

pub returns : goal.returns
returns c =
    let a = c.args in
    elim c.if-i-eq0.branch [
      | then-i-eq0 w ↦ put_even a.words.now a.i a.x _ w.if-i-eq0.true c.requires.2 (omega (arith, half_even a.words.now a.i w.if-i-eq0.true, c.requires.1, w.added-is))
      | else-i-eq0 w ↦ put_odd a.words.now a.i a.x _ w.if-i-eq0.false (omega (arith, half_odd a.words.now a.i w.if-i-eq0.false, c.requires.1, w.added-is))
    ]

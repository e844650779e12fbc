-- `push`. By the token's kind, the table and the mark.
use mathlib.Core.Path.{refl, ap, ◌∙◌}
use Prim.Native.Nat.{ℕ, ◌<◌}
use native.Mathlib.Omega.{arith}
use lib.ListN.{length, get_or}
use Rattle.solver.proofs.Laws.Resolving.WorklistLaws.{room_left, grown_new, grown_none, marked}
use Rattle.solver.proofs.Laws.Resolving.AskLaws.{token_is, is_token}
use Rattle.solver.proofs.reach.push.Goals.{Then-marks-at-eq0, else-kind-eq1-via-then-kind-eq1+then-at-marks+else-marks-at-eq0, else-kind-eq1-via-then-kind-eq1+else-at-marks, else-kind-eq1-via-else-kind-eq1}
use Rattle.solver.proofs.reach.push.Goals as goal

-- a variable of the table that is not marked leaves room in the queue
room : (c : Then-marks-at-eq0) → c.args.top.now < length c.args.marks.now
room c = room_left c.requires.0 c.args.val c.if-at-marks.true c.if-marks-at-eq0.true

pub offset_bounds-queue-top : goal.offset_bounds-queue-top
offset_bounds-queue-top c = omega (arith, room (goal.at.offset_bounds-queue-top c).Then-marks-at-eq0, c.requires.1, c.well_formed)

pub bounds-queue-top : goal.bounds-queue-top
bounds-queue-top c = omega (arith, room (goal.at.bounds-queue-top c).Then-marks-at-eq0, c.requires.1)

pub overflow_add-top : goal.overflow_add-top
overflow_add-top c = omega (arith, room (goal.at.overflow_add-top c).Then-marks-at-eq0, c.requires.1, c.well_formed)

pub returns-then-marks-at-eq0 : goal.returns-then-marks-at-eq0
returns-then-marks-at-eq0 c =
    let r = room (goal.at.returns-then-marks-at-eq0 c).Then-marks-at-eq0 in
    grown_new c.requires.0 c.args.val c.if-at-marks.true c.if-marks-at-eq0.true (omega (arith, r, c.requires.1)) _ (is_token _ _ _ c.if-kind-eq1.true refl) (λ u i. (token_is _ _ _ i).1)

pub returns-else-kind-eq1 : goal.returns-else-kind-eq1
returns-else-kind-eq1 c =
    let v = c.args.val in
    let ms = c.args.marks.now in
    elim c.else-kind-eq1.branch [
      | else-kind-eq1-via-then-kind-eq1+then-at-marks+else-marks-at-eq0 w ↦
          grown_none c.requires.0 _ (λ u l i. ap (λ (y : ℕ). get_or ms y 0) (token_is _ _ _ i).1 ∙ marked c.requires.0 v w.if-marks-at-eq0.false)
      | else-kind-eq1-via-then-kind-eq1+else-at-marks w ↦
          grown_none c.requires.0 _ (λ u l i. absurd (omega (arith, w.if-at-marks.false, (token_is _ _ _ i).1)))
      | else-kind-eq1-via-else-kind-eq1 w ↦ grown_none c.requires.0 _ (λ u l i. absurd (w.if-kind-eq1.false (token_is _ _ _ i).0))
    ]

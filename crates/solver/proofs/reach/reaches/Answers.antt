-- `reaches`. Each turn scans the run of the next variable of the queue (`going_step`); then the marks are cleared.
use mathlib.Core.Path.{sym, ◌∙◌}
use Prim.Native.Nat.{◌+◌, ◌≤◌}
use native.Mathlib.Omega.{arith}
use lib.ListN.{length}
use Rattle.terms.proofs.Laws.General.Bools.{never_true}
use Rattle.solver.specs.Words.ReachContract.{question_of, run_of, Told}
use Rattle.solver.proofs.Laws.Resolving.WorklistLaws.{clearing, work_none, top-le, zero_take, zero_drop, zero_joined}
use Rattle.solver.proofs.Laws.Resolving.ReachLaws.{going_start, going_step, going_end, named_run_of, told_asked}
use Rattle.solver.proofs.Laws.Resolving.ResolvedLaws.{named_or_empty}
use Rattle.solver.proofs.reach.reaches.Goals.{then-loop-hit-test+else-done-top, else-loop-hit-test, At-loop-hit, Left-loop-hit}
use Rattle.solver.proofs.reach.reaches.Goals as goal

-- the queue has no more entries than the table has variables, and has room for them
lens : (c : At-loop-hit) → (c.loop-hit.top ≤ length c.args.bound.now) × (c.loop-hit.top ≤ length c.loop-hit.queue)
lens c =
    let i = c.loop-hit.invariant in
    (omega (arith, top-le i.0.work, i.0.size), omega (arith, top-le i.0.work, i.1))

-- the answer, where the loop ends
told : (c : Left-loop-hit) → Told c.args.tokens.now.kinds.now c.args.tokens.now.vals.now c.args.bound.now (run_of c.args.tokens.now.kinds.now c.args.tokens.now.vals.now (c.args.p + 1)) (question_of c.args.want) c.loop-hit.hit
told c =
    let i = c.loop-hit.invariant.0 in
    elim c.loop-hit-test.branch [
      | then-loop-hit-test+else-done-top w ↦ going_end i (omega (arith, w.if-done-top.false))
      | else-loop-hit-test w ↦ record { no = λ h. never_true (sym h ∙ w.loop-hit-test.false); yes = i.yes }
    ]

pub scan-hit-requires-clause-work : goal.scan-hit-requires-clause-work
scan-hit-requires-clause-work c =
    let s = c.split_at_mut-marks.ensures in
    let z = c.requires.scratch.1 in
    (work_none _ _ (rw s.front (zero_take _ _ z)) (rw s.back (zero_drop _ _ z)), omega (arith, s.front_len, s.back_len, c.requires.scratch.0))

pub loop-hit-init : goal.loop-hit-init
loop-hit-init c =
    let s = c.split_at_mut-marks.ensures in
    let m = c.scan-hit in (
      going_start (rw s.front (zero_take _ _ c.requires.scratch.1)) (m.auto.marks ∙ s.front_len) _ (named_run_of c.args.tokens.now.kinds.now c.args.tokens.now.vals.now (c.args.p + 1) _ _ (named_or_empty _ _ c.run_at.ensures.named c.unwrap_or_default-run.ensures)) m.ensures.hit m.ensures.grown,
      omega (arith, s.front_len, s.back_len, c.requires.scratch.0, m.auto.marks, m.auto.queue),
    )

pub offset_bounds-queue-done : goal.offset_bounds-queue-done
offset_bounds-queue-done c = omega (arith, lens (goal.at.offset_bounds-queue-done c).At-loop-hit, c.if-done-top.true, c.well_formed)

pub bounds-queue-done : goal.bounds-queue-done
bounds-queue-done c = omega (arith, lens (goal.at.bounds-queue-done c).At-loop-hit, c.if-done-top.true)

pub overflow_add-done : goal.overflow_add-done
overflow_add-done c = omega (arith, lens (goal.at.overflow_add-done c).At-loop-hit, c.if-done-top.true, c.well_formed)

pub loop-hit-smaller : goal.loop-hit-smaller
loop-hit-smaller c = omega (arith, lens (goal.at.loop-hit-smaller c).At-loop-hit, c.if-done-top.true)

pub loop-hit-preserved : goal.loop-hit-preserved
loop-hit-preserved c =
    let i = c.loop-hit.invariant in
    let m = c.scan-hit-in-loop-hit in
    let e = named_run_of _ _ _ _ _ (named_or_empty _ _ c.named_run.ensures.named c.unwrap_or_default-next.ensures) in (
      going_step i.0 c.loop-hit-test.true c.if-done-top.true _ e m.auto.marks m.ensures.hit m.ensures.grown,
      omega (arith, i.1, m.auto.marks, m.auto.queue),
    )

pub clear_queue-requires : goal.clear_queue-requires
clear_queue-requires c = clearing c.loop-hit.invariant.0.work (lens (goal.at.clear_queue-requires c).At-loop-hit).1

pub returns-clause-told : goal.returns-clause-told
returns-clause-told c = told (goal.at.returns-clause-told c).Left-loop-hit

pub returns-clause-term : goal.returns-clause-term
returns-clause-term c =
    let a = c.args in
    told_asked a.tokens.now.kinds.now a.tokens.now.vals.now a.bound.now a.p (question_of a.want) _ (told (goal.at.returns-clause-term c).Left-loop-hit)

pub returns-clause-clear : goal.returns-clause-clear
returns-clause-clear c =
    let z = c.clear_queue.ensures in
    zero_joined _ _ z.0 z.1

use mathlib.Core.List.{List}
use mathlib.Core.Path.{ap, ◌∙◌}
use native.Mathlib.Omega.{arith}
use lib.ListN.{length}
use Rattle.terms.specs.Words.Tokens.{Item}
use Rattle.terms.specs.Words.TokenBytes.{plain}
use Rattle.solver.specs.Words.ResolveWalk.{flat_bytes}
use Rattle.solver.proofs.Laws.Resolving.OverLaws.{over_none}
use Rattle.solver.proofs.Laws.Resolving.FrameLaws.{left_start, turn, turn_length}
use Rattle.solver.proofs.Laws.Resolving.ResolvedLaws.{standing_short}
use Rattle.solver.proofs.resolving.walked_len.Goals as goal

pub overflow_add-n : goal.overflow_add-n
overflow_add-n c =
    let l = c.loop-c in
    omega (arith, c.standing_len-n.ensures, standing_short c.args.bindings.now l.c, l.invariant.1)

pub returns-then-limit-n-clause-len : goal.returns-then-limit-n-clause-len
returns-then-limit-n-clause-len c =
    let a = c.args in
    let l = c.loop-c in
    let e = turn_length _ _ _ _ _ _ _ _ (l.invariant.0.head (omega arith)) in
    let w = ap (λ (m : List Item). length (flat_bytes m)) (left_start _ _ _ _ _ a.run.at a.run.len _ _ c.begin-c.ensures) in
    omega (arith, e, w, l.invariant.2, l.invariant.1, c.standing_len-n.ensures, c.if-limit-n.true)

pub loop-c-preserved : goal.loop-c-preserved
loop-c-preserved c =
    let a = c.args in
    let l = c.loop-c in
    let s = c.next-c in (
      s.ensures.ready,
      omega arith,
      omega (arith, turn_length _ _ _ _ _ _ _ _ (turn _ _ _ _ _ _ _ _ l.invariant.0 (omega arith) s.ensures), l.invariant.2, c.standing_len-n.ensures),
      c.next-c.auto.frames ∙ l.invariant.3,
      (λ j h. s.ensures.apart j h ∙ l.invariant.4 j h),
      λ b. s.ensures.bare (l.invariant.5 b),
    )

pub returns-clause-len : goal.returns-clause-len
returns-clause-len c =
    let a = c.args in
    let l = c.loop-c in
    let w = ap (λ (m : List Item). length (flat_bytes m)) (left_start _ _ _ _ _ a.run.at a.run.len _ _ c.begin-c.ensures) in
    omega (arith, ap length (over_none plain _ (l.invariant.0.over (omega arith))), w, l.invariant.2, l.invariant.1)

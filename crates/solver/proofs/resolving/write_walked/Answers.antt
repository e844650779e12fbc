use mathlib.Core.List.{List}
use mathlib.Core.Path.{ap, ◌∙◌}
use native.Mathlib.Omega.{arith}
use lib.ListN.{length}
use Rattle.terms.specs.Words.Tokens.{Item}
use Rattle.terms.specs.Words.TokenBytes.{plain}
use Rattle.terms.proofs.Laws.Format.WriteLaws.{advance, written}
use Rattle.solver.specs.Words.ResolveWalk.{flat_bytes}
use Rattle.solver.specs.Words.Lent.{standing_bytes}
use Rattle.solver.proofs.Laws.Resolving.OverLaws.{over_none}
use Rattle.solver.proofs.Laws.Resolving.FrameLaws.{left_start, turn, turn_bytes, turn_length}
use Rattle.solver.proofs.resolving.write_walked.Goals as goal

pub write_standing-i-requires-clause-room : goal.write_standing-i-requires-clause-room
write_standing-i-requires-clause-room c =
    let a = c.args in
    let l = c.loop-c in
    let e = turn_length _ _ _ _ _ _ _ _ (l.invariant.0.head (omega arith)) in
    let w = ap (λ (m : List Item). length (flat_bytes m)) (left_start _ _ _ _ _ a.run.at a.run.len _ _ c.begin-c.ensures) in
    omega (arith, e, w, l.invariant.1.place, l.invariant.1.long, c.requires.room)

pub loop-c-preserved : goal.loop-c-preserved
loop-c-preserved c =
    let a = c.args in
    let l = c.loop-c in
    let s = c.next-c in
    let w = c.write_standing-i.ensures in (
      s.ensures.ready,
      advance _ _ _ _ _ _ (standing_bytes a.bindings.now l.c) _ _ _ l.invariant.1 (turn_bytes _ _ _ _ _ _ _ _ (turn _ _ _ _ _ _ _ _ l.invariant.0 (omega arith) s.ensures)) w.next w.wrote,
      c.next-c.auto.frames ∙ l.invariant.2,
      (λ j h. s.ensures.apart j h ∙ l.invariant.3 j h),
      λ b. s.ensures.bare (l.invariant.4 b),
    )

pub returns-clause-next : goal.returns-clause-next
returns-clause-next c =
    let a = c.args in
    let l = c.loop-c in
    let w = ap flat_bytes (left_start _ _ _ _ _ a.run.at a.run.len _ _ c.begin-c.ensures) in
    let r = written _ _ _ _ _ _ l.invariant.1 (over_none plain _ (l.invariant.0.over (omega arith))) in
    r.0 ∙ rw w

pub returns-clause-wrote : goal.returns-clause-wrote
returns-clause-wrote c =
    let a = c.args in
    let l = c.loop-c in
    let w = ap flat_bytes (left_start _ _ _ _ _ a.run.at a.run.len _ _ c.begin-c.ensures) in
    let r = written _ _ _ _ _ _ l.invariant.1 (over_none plain _ (l.invariant.0.over (omega arith))) in
    r.1 ∙ rw w

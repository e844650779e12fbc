use native.Mathlib.Omega.{arith}
use mathlib.Core.Path.{◌≡◌}
use Prim.Native.Nat.{◌+◌, ◌*◌, ◌≤◌}
use mathlib.Core.List.{◌∷◌}
use mathlib.Core.Path.{sym, ◌∙◌}
use lib.ListN.{drop}
use Rattle.terms.specs.Number.{groups, number}
use Rattle.terms.proofs.Laws.Numbers.NumberStepLaws.{over, within, parts, step_over, step_more, step_padded, step_zero, step_last, at_byte, at-end}
use Rattle.terms.proofs.numbers.read_groups.Goals.{else-b-eq0-via-then-b-eq0+else-w-gt1, else-b-eq0-via-else-b-eq0}
use Rattle.terms.proofs.numbers.read_groups.Goals as goal
use Rattle.terms.proofs.numbers.read_groups.Goals.{After-from-b, Else-most-v}

-- after the test of a byte: no more than `most` so far
within_most : (c : Else-most-v) → c.loop-i.v + c.from-b.result * c.loop-i.w ≤ c.args.most
within_most c =
    let l = c.loop-i in
    within _ l.v l.w c.from-b.result l.invariant.0 l.invariant.1 c.if-most-v.false

-- the invariant, with the byte that was read in front
byte-here : (c : After-from-b) →
    let l = c.loop-i in
    let a = c.args in
    groups a.most l.v l.w l.i (c.from-b.result ∷ drop (l.i + 1) a.s.now) ≡ number a.most a.s.now a.at
byte-here c = rw (c.from-b.ensures, ← at_byte _ _ c.loop-i-test.true) c.loop-i.invariant.2

pub returns-then-most-v : goal.returns-then-most-v
returns-then-most-v c =
    let l = c.loop-i in
    let b = c.from-b.result in
    sym (step_over _ l.v l.w l.i b _ (over _ l.v l.w b l.invariant.0 l.invariant.1 c.if-most-v.true))
    ∙ byte-here (goal.at.returns-then-most-v c).After-from-b

pub returns-then-w-gt1 : goal.returns-then-w-gt1
returns-then-w-gt1 c =
    let l = c.loop-i in
    sym (step_padded _ l.v l.w l.i c.from-b.result _ (within_most (goal.at.returns-then-w-gt1 c).Else-most-v) c.if-b-eq0.true c.if-w-gt1.true)
    ∙ byte-here (goal.at.returns-then-w-gt1 c).After-from-b

pub returns-then-b-lt128 : goal.returns-then-b-lt128
returns-then-b-lt128 c =
    let l = c.loop-i in
    let b = c.from-b.result in
    elim c.else-b-eq0.branch [
      | else-b-eq0-via-then-b-eq0+else-w-gt1 w ↦ sym (step_zero _ l.v l.w l.i b _ (within_most (goal.at.returns-then-b-lt128 c).Else-most-v) w.if-b-eq0.true w.if-w-gt1.false) ∙ byte-here (goal.at.returns-then-b-lt128 c).After-from-b
      | else-b-eq0-via-else-b-eq0 w ↦ sym (step_last _ l.v l.w l.i b _ (within_most (goal.at.returns-then-b-lt128 c).Else-most-v) c.if-b-lt128.true w.if-b-eq0.false) ∙ byte-here (goal.at.returns-then-b-lt128 c).After-from-b
    ]

pub loop-i-preserved : goal.loop-i-preserved
loop-i-preserved c =
    let l = c.loop-i in
    let b = c.from-b.result in
    let p = parts b l.w c.if-b-lt128.false in
    (omega (arith, within_most (goal.at.loop-i-preserved c).Else-most-v), omega arith, sym (step_more _ l.v l.w l.i b _ (within_most (goal.at.loop-i-preserved c).Else-most-v) c.if-b-lt128.false) ∙ byte-here (goal.at.loop-i-preserved c).After-from-b)

pub returns : goal.returns
returns c = sym (at-end _ _ _ _ _ c.loop-i-test.false) ∙ c.loop-i.invariant.2

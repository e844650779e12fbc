use Rattle.terms.proofs.Laws.Held.PairLaws.{over_pair}
use Rattle.terms.proofs.Laws.Replacing.RecoverLaws.{alike_over, alike_unlike, alike_differ, alike_numbers, alike_terms}
use Rattle.terms.proofs.recover.alike_rows.Goals as goal

pub returns-then-tokens-i : goal.returns-then-tokens-i
returns-then-tokens-i c =
    let i = c.loop-step.invariant in
    let m = over_pair _ _ c.next.new.self c.in-Numbers.is i.0 c.in-Some.ensures.steps in
    λ ps qs h g. alike_differ (i.1 ps qs h g) m.0.0 m.0.1 c.if-tokens-i.true

pub loop-step-preserved-else-tokens-i : goal.loop-step-preserved-else-tokens-i
loop-step-preserved-else-tokens-i c =
    let i = c.loop-step.invariant in
    let m = over_pair _ _ c.next.new.self c.in-Numbers.is i.0 c.in-Some.ensures.steps in
    (m.3, λ ps qs h g. rw (m.1, m.2) (alike_numbers (i.1 ps qs h g) m.0.0 m.0.1 c.if-tokens-i.false))

pub loop-step-preserved : goal.loop-step-preserved
loop-step-preserved c =
    let i = c.loop-step.invariant in
    let m = over_pair _ _ c.next.new.self c.in-Terms.is i.0 c.in-Some.ensures.steps in
    (m.3, λ ps qs h g. rw (m.1, m.2) (alike_terms (i.1 ps qs h g) m.0.0 m.0.1))

pub returns-in-Apart : goal.returns-in-Apart
returns-in-Apart c =
    let i = c.loop-step.invariant in
    let m = over_pair _ _ c.next.new.self c.in-Apart.is i.0 c.in-Some.ensures.steps in
    λ ps qs h g. alike_unlike (i.1 ps qs h g) m.0.0

pub returns : goal.returns
returns c =
    let m = c.in-None.ensures.steps.0 in
    λ ps qs h g. alike_over (c.loop-step.invariant.1 ps qs h g) m.0 m.1

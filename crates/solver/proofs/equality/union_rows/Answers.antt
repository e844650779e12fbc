use Rattle.terms.proofs.Laws.Held.PairLaws.{over_pair}
use Rattle.solver.proofs.Laws.Equality.LinkLaws.{advanced_on}
use Rattle.solver.proofs.Laws.Equality.UnionRowLaws.{walk_unlike, walk_value, walk_number, walk_apart, walk_join, walk_yes}
use Rattle.solver.proofs.equality.union_rows.Goals as goal

pub returns-then-bindings-i-clause-terms : goal.returns-then-bindings-i-clause-terms
returns-then-bindings-i-clause-terms c =
    let i = c.loop-step.invariant in
    let m = over_pair _ _ c.next.new.self c.in-Numbers.is i.0 c.in-Some.ensures.steps in
    λ h ps qs e hp hq fa. walk_value _ _ _ _ (i.2 h ps qs e hp hq fa) m.0.0 m.0.1 c.if-bindings-i.true

pub loop-step-preserved-else-bindings-i : goal.loop-step-preserved-else-bindings-i
loop-step-preserved-else-bindings-i c =
    let i = c.loop-step.invariant in
    let m = over_pair _ _ c.next.new.self c.in-Numbers.is i.0 c.in-Some.ensures.steps in
    (m.3, i.1, λ h ps qs e hp hq fa. rw (m.1, m.2) (walk_number _ _ _ _ (i.2 h ps qs e hp hq fa) m.0.0 m.0.1 c.if-bindings-i.false))

pub returns-then-not-union_terms : goal.returns-then-not-union_terms
returns-then-not-union_terms c =
    let i = c.loop-step.invariant in
    let m = over_pair _ _ c.next.new.self c.in-Terms.is i.0 c.in-Some.ensures.steps in
    let d = c.union_terms.ensures in
    record {
      advanced = advanced_on i.1 d.advanced;
      terms = λ h ps qs e hp hq fa.
          let w = i.2 h ps qs e hp hq fa in
          walk_apart _ _ _ _ w m.0.0 m.0.1 d.advanced.keeps (λ t u ht hu. d.terms h t u e ht hu w.fair) c.if-not-union_terms.true;
    }

pub loop-step-preserved : goal.loop-step-preserved
loop-step-preserved c =
    let i = c.loop-step.invariant in
    let m = over_pair _ _ c.next.new.self c.in-Terms.is i.0 c.in-Some.ensures.steps in
    let d = c.union_terms.ensures in (
      m.3,
      advanced_on i.1 d.advanced,
      λ h ps qs e hp hq fa.
          let w = i.2 h ps qs e hp hq fa in
          rw (m.1, m.2) (walk_join _ _ _ _ w m.0.0 m.0.1 d.advanced.keeps (λ t u ht hu. d.terms h t u e ht hu w.fair) c.if-not-union_terms.false),
    )

pub returns-in-Apart-clause-terms : goal.returns-in-Apart-clause-terms
returns-in-Apart-clause-terms c =
    let i = c.loop-step.invariant in
    let m = over_pair _ _ c.next.new.self c.in-Apart.is i.0 c.in-Some.ensures.steps in
    λ h ps qs e hp hq fa. walk_unlike _ _ _ _ (i.2 h ps qs e hp hq fa) m.0.0

pub returns-clause-terms : goal.returns-clause-terms
returns-clause-terms c =
    let m = c.in-None.ensures.steps.0 in
    λ h ps qs e hp hq fa. walk_yes _ _ _ _ (c.loop-step.invariant.2 h ps qs e hp hq fa) m.0 m.1

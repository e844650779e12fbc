use Rattle.terms.proofs.Laws.General.Options.{sub_step}
use native.Mathlib.Omega.{arith}
use Rattle.terms.proofs.Laws.Asking.BoundLaws.{next_pair, pair_inside, look_found, look_next, look_none}
use Rattle.terms.proofs.satisfy.member_at.Goals as goal

pub returns-then-tokens-i-clause-looked : goal.returns-then-tokens-i-clause-looked
returns-then-tokens-i-clause-looked c = λ e rest w x. absurd (omega (arith, pair_inside (next_pair (c.loop.invariant.1 e rest w x) (omega arith))))

pub returns-then-tokens-i-2-clause-looked : goal.returns-then-tokens-i-2-clause-looked
returns-then-tokens-i-2-clause-looked c = λ e rest w x. look_found _ (next_pair (c.loop.invariant.1 e rest w x) (omega arith)) c.if-tokens-i-2.true

pub loop-preserved : goal.loop-preserved
loop-preserved c = (
  omega arith,
  λ e rest w x.
      let y = next_pair (c.loop.invariant.1 e rest w x) (omega arith) in
      rw (sub_step c.args.count c.loop.counter) (look_next _ y c.if-tokens-i-2.false (c.term_part-i.ensures.term y.value y.here)),
)

pub returns-clause-looked : goal.returns-clause-looked
returns-clause-looked c = λ e rest w x. look_none _ (c.loop.invariant.1 e rest w x) (omega arith)

use Rattle.terms.proofs.Laws.General.Options.{sub_step}
use native.Mathlib.Omega.{arith}
use Rattle.terms.proofs.Laws.Replacing.RecoverLaws.{behind_done, behind_over, behind_more}
use Rattle.terms.proofs.recover.behind_terms.Goals as goal

pub returns-then-a-p-clause-behind : goal.returns-then-a-p-clause-behind
returns-then-a-p-clause-behind c = λ s ps h f. behind_over _ _ _ _ s _ _ c.if-a-p.true (c.loop.invariant.2 s ps h f)

pub loop-preserved : goal.loop-preserved
loop-preserved c = (omega arith, omega arith, λ s ps h f. rw (sub_step c.args.n c.loop.counter) (behind_more _ _ _ _ s _ _ _ (omega arith) (c.loop.invariant.2 s ps h f) c.skip-p.ensures.span))

pub returns-clause-behind : goal.returns-clause-behind
returns-clause-behind c = λ s ps h f. behind_done _ _ _ _ s _ _ (omega arith) (c.loop.invariant.2 s ps h f)

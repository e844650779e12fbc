-- `union_places`. By the first tokens: each outcome is a law of `LinkLaws` (`told-..`), or `union_classes` tells it.
use Rattle.solver.proofs.Laws.Equality.LinkLaws.{told_kinds, told_values}
use Rattle.solver.proofs.equality.union_places.Goals as goal

pub returns-then-tokens-a-clause-terms : goal.returns-then-tokens-a-clause-terms
returns-then-tokens-a-clause-terms c = λ σ τ t u s ht hu fa. told_kinds σ τ s _ _ _ fa t u _ _ ht hu c.if-tokens-a.true

pub returns-then-tokens-a-lt2-clause-terms : goal.returns-then-tokens-a-lt2-clause-terms
returns-then-tokens-a-lt2-clause-terms c = λ σ τ t u s ht hu fa. told_values σ τ s _ _ _ fa t u _ _ ht hu c.if-tokens-a-lt2.true c.if-tokens-a.false

pub returns-clause-terms : goal.returns-clause-terms
returns-clause-terms c = λ σ τ t u s ht hu fa. c.union_classes.ensures.terms _ σ τ t u s ht hu fa

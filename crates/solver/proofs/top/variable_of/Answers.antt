-- `variable_of`. By the token at the place.
use mathlib.Core.Path.{subst}
use Rattle.solver.specs.declared.ChainEnd.{ChainEnd}
use Rattle.solver.specs.Words.ChainEnds.{HeldEnd}
use Rattle.solver.proofs.Laws.Resolving.ChainEndLaws.{variable_here, variable_none}
use Rattle.solver.proofs.top.variable_of.Goals as goal

pub returns-in-At : goal.returns-in-At
returns-in-At c =
    let t = c.args.tokens.now in
    λ u h. variable_here t.kinds.now t.vals.now c.in-At.p u (subst (λ (e : ChainEnd). HeldEnd t.kinds.now t.vals.now u e) c.in-At.is h) c.if-tokens-p-eq1.true

pub returns-in_default : goal.returns-in_default
returns-in_default c =
    let t = c.args.tokens.now in
    λ u h. variable_none t.kinds.now t.vals.now c.in-At.p u (subst (λ (e : ChainEnd). HeldEnd t.kinds.now t.vals.now u e) c.in-At.is h) c.if-tokens-p-eq1.false

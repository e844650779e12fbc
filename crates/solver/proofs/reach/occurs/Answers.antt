-- `occurs`. By whether the end is a place.
use mathlib.Core.Path.{subst, ◌∙◌}
use Rattle.solver.specs.declared.ChainEnd.{ChainEnd}
use Rattle.solver.specs.Constrain.{resolve}
use Rattle.solver.specs.Words.ChainEnds.{HeldEnd}
use Rattle.solver.proofs.Laws.Resolving.ReachLaws.{asks_variable, builtin_free}
use Rattle.solver.proofs.reach.occurs.Goals as goal

pub returns-in-At-clause-term : goal.returns-in-At-clause-term
returns-in-At-clause-term c =
    let x = c.args.tokens.now in
    λ t b n h g S f.
    c.reaches.ensures.term t b n (subst (λ (e : ChainEnd). HeldEnd x.kinds.now x.vals.now t e) c.in-At.is h) g S f ∙ asks_variable c.args.v (resolve n b t)

pub returns-in-Default-clause-term : goal.returns-in-Default-clause-term
returns-in-Default-clause-term c =
    let x = c.args.tokens.now in
    λ t b n h g S f.
    builtin_free c.args.v n b c.in-Default.field-0.code (subst (λ (e : ChainEnd). HeldEnd x.kinds.now x.vals.now t e) c.in-Default.is h).1

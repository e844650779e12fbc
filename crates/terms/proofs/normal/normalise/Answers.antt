-- `normalise`.
use Rattle.terms.specs.Lookup.{rules as listed}
use Rattle.terms.proofs.normal.normalise.Goals as goal

pub returns-clause-answers : goal.returns-clause-answers
returns-clause-answers c = λ t rs h k. c.run.ensures.answers t (listed rs) h k

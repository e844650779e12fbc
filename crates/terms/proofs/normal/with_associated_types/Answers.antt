-- `with_associated_types`.
use Rattle.terms.specs.Lookup.{interface}
use Rattle.terms.proofs.normal.with_associated_types.Goals as goal

pub returns-clause-answers : goal.returns-clause-answers
returns-clause-answers c = λ t i o h hi ho. c.run.ensures.answers t (interface i o) h (c.given-g.ensures.given i o ho hi)

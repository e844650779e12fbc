-- `has`.
use Rattle.solver.specs.Words.SessionRepresentation.{bit}
use borrow.Author.Rules.{rules}
use Rattle.solver.proofs.families.has.Goals as goal

pub returns : goal.returns
unfolding bit
returns c = search rules

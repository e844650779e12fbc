-- `Range::mask`. By the eight weights.
use borrow.Author.Rules.{rules}
use Rattle.solver.specs.Families.{lowest, highest}
use Rattle.solver.proofs.Range.mask.Goals as goal

pub returns : goal.returns
unfolding lowest highest
returns c =
    search rules

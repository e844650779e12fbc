-- `operate`: each order is that of its row.
use Rattle.sheet.proofs.operations.operate.Goals as goal

pub returns-in-Conflicts-clause-says : goal.returns-in-Conflicts-clause-says
returns-in-Conflicts-clause-says c = rw c.in-Conflicts.is (c.conflicts.ensures _)

pub returns-in-Weakens-clause-says : goal.returns-in-Weakens-clause-says
returns-in-Weakens-clause-says c = rw c.in-Weakens.is (c.weakens.ensures _)

pub returns-in-Recover-clause-says : goal.returns-in-Recover-clause-says
returns-in-Recover-clause-says c = rw c.in-Recover.is (c.recovered.ensures _)

pub returns-in-Instantiate-clause-says : goal.returns-in-Instantiate-clause-says
returns-in-Instantiate-clause-says c = rw c.in-Instantiate.is (c.instantiated.ensures _)

pub returns-in-ArgumentContext-clause-says : goal.returns-in-ArgumentContext-clause-says
returns-in-ArgumentContext-clause-says c = rw c.in-ArgumentContext.is (c.in_context.ensures _)

pub returns-in-WithSelf-clause-says : goal.returns-in-WithSelf-clause-says
returns-in-WithSelf-clause-says c = rw c.in-WithSelf.is (c.by_receiver.ensures _)

pub returns-in-Questions-clause-says : goal.returns-in-Questions-clause-says
returns-in-Questions-clause-says c = rw c.in-Questions.is (c.asked.ensures _)

pub returns-in-ResolvedIn-clause-says : goal.returns-in-ResolvedIn-clause-says
returns-in-ResolvedIn-clause-says c = rw c.in-ResolvedIn.is (c.resolved_in.ensures _)

pub returns-in-Satisfied-clause-says : goal.returns-in-Satisfied-clause-says
returns-in-Satisfied-clause-says c = rw c.in-Satisfied.is (c.satisfied.ensures _)

pub returns-in-Family-clause-says : goal.returns-in-Family-clause-says
returns-in-Family-clause-says c = rw c.in-Family.is (c.apply_family.ensures _)

pub returns-in-WithAssociatedTypes-clause-says : goal.returns-in-WithAssociatedTypes-clause-says
returns-in-WithAssociatedTypes-clause-says c = rw c.in-WithAssociatedTypes.is (c.associated.ensures.says _)

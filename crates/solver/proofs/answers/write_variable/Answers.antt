-- `write_variable`: a token of kind 1.
use Rattle.terms.specs.Term.{bytes}
use Rattle.terms.specs.Words.TokenBytes.{plain}
use Rattle.solver.proofs.answers.write_variable.Goals as goal

pub write_token-requires : goal.write_token-requires
unfolding bytes plain
write_token-requires c = c.requires

pub returns : goal.returns
unfolding bytes plain
returns c = record { next = c.write_token.ensures.next; wrote = c.write_token.ensures.wrote }

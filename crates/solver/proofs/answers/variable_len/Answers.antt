-- `variable_len`: a token of kind 1.
use native.Mathlib.Omega.{arith}
use Rattle.terms.specs.Term.{bytes}
use Rattle.terms.specs.Words.TokenBytes.{plain}
use Rattle.terms.proofs.Laws.Format.WriteLaws.{short_word}
use Rattle.solver.proofs.answers.variable_len.Goals as goal

pub returns : goal.returns
unfolding bytes plain
returns c = (c.token_len.ensures, omega (arith, c.token_len.ensures, short_word c.args.v c.ranges.v.fits))

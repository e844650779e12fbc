-- `step`: a span is a word.
use native.Mathlib.Omega.{arith}
use Rattle.terms.proofs.Laws.Normalising.SourceLaws.{span_small}
use Rattle.terms.proofs.Token.step.Goals as goal

pub returns-clause-some : goal.returns-clause-some
returns-clause-some c =
    let s = span_small c.args.self.kind c.args.self.value 4294967296 (omega arith) (omega arith) in
    (omega (arith, c.max.ensures), omega (arith, c.max.ensures, c.span.ensures, s))

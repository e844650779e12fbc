-- `is_lent`. By its test.
use native.Mathlib.Omega.{arith}
use Rattle.terms.proofs.Laws.Normalising.SourceLaws.{span_small}
use Rattle.terms.proofs.alike.is_lent.Goals as goal

pub overflow_add-result : goal.overflow_add-result
overflow_add-result c =
    omega (arith, c.span.ensures, span_small c.token.result.kind c.token.result.value 4294967296 (omega arith) (omega arith))

-- `width`. By the definition.
use native.Mathlib.Omega.{arith}
use Rattle.terms.proofs.Laws.Normalising.VirtualTokenLaws.{width_is}
use Rattle.terms.proofs.Origin.width.Goals as goal

pub returns-clause-width : goal.returns-clause-width
returns-clause-width c = omega (arith, width_is c.args.self)

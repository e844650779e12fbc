-- `term_part`: the term is as wide as its first token says.
use mathlib.Core.Path.{ap}
use Prim.Native.Nat.{ℕ, ◌+◌}
use Rattle.terms.proofs.Laws.Held.SameLaws.{told}
use Rattle.terms.proofs.runs.term_part.Goals as goal

pub returns-clause-term : goal.returns-clause-term
returns-clause-term c = λ t h. ap (λ (n : ℕ). c.args.a + n) (told _ _ _ _ t h c.width_at.ensures.span)

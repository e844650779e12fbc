-- `first_term`: a variable is one token.
use mathlib.Core.Path.{ap, sym}
use Prim.Native.Nat.{ℕ, ◌+◌}
use Rattle.terms.proofs.Laws.Held.HeldLaws.{span_one}
use Rattle.terms.proofs.pairs.first_term.Goals as goal

pub returns-then-tokens-row-lt2-clause-span : goal.returns-then-tokens-row-lt2-clause-span
returns-then-tokens-row-lt2-clause-span c = λ _ _. ap (λ (n : ℕ). c.args.row.from + n) (sym (span_one _ _ c.if-tokens-row-lt2.true))

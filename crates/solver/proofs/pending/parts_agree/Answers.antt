-- `parts_agree`. By the kinds of the two tokens, and the access.
use mathlib.Core.Bool.{not}
use mathlib.Core.Path.{ap}
use Rattle.solver.specs.declared.Access.{Access}
use Rattle.solver.specs.Words.PendingContract.{strict_of}
use Rattle.solver.proofs.Laws.Checks.RowsInStepLaws.{agree_term, agree_mixed, agree_free, agree_number}
use Rattle.solver.proofs.pending.parts_agree.Goals as goal

pub returns-then-tokens-i-ne0 : goal.returns-then-tokens-i-ne0
returns-then-tokens-i-ne0 c = agree_term _ _ _ _ _ c.if-tokens-i-ne0.true

pub returns-then-tokens-j-ne0 : goal.returns-then-tokens-j-ne0
returns-then-tokens-j-ne0 c = agree_mixed _ _ _ _ _ c.if-tokens-i-ne0.false c.if-tokens-j-ne0.true

pub returns-in-Ignored : goal.returns-in-Ignored
returns-in-Ignored c = agree_free _ _ _ _ _ c.if-tokens-i-ne0.false c.if-tokens-j-ne0.false (ap (λ (a : Access). not (strict_of a)) c.in-Ignored.is)

pub returns-in-Compared : goal.returns-in-Compared
returns-in-Compared c = agree_number _ _ _ _ _ c.if-tokens-i-ne0.false c.if-tokens-j-ne0.false (ap (λ (a : Access). not (strict_of a)) c.in-Compared.is)

-- By the cases of `code`.
use Rattle.std.proofs.Common.{arith}
use Rattle.terms.proofs.Laws.General.Options.{handed_on}
use Rattle.terms.proofs.Laws.Format.FieldLaws.{code_end, code_listed, code_unlisted}
use Rattle.terms.proofs.values.code_at.Goals as goal

pub returns-in_err-b-clause-found : goal.returns-in_err-b-clause-found
returns-in_err-b-clause-found c =
    let e = c.in_err-b.ensures {u = tt} in
    rw (handed_on _ _ c.from_residual.ensures.1, e.1) (code_end _ _ _ e.0)

pub returns-then-from-codes-clause-found : goal.returns-then-from-codes-clause-found
returns-then-from-codes-clause-found c =
    let b = c.in_ok-b.ensures {u = tt} in
    rw (c.from-then-from-codes.ensures, b.1) (code_listed _ _ _ b.0 (omega (arith, c.from.ensures, b.1)))

pub returns-else-from-codes-clause-found : goal.returns-else-from-codes-clause-found
returns-else-from-codes-clause-found c =
    let b = c.in_ok-b.ensures {u = tt} in
    code_unlisted _ _ _ b.0 (omega (arith, c.from.ensures, b.1))

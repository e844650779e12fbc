-- `parameter_at`: the owner, and then the position.
use Rattle.std.proofs.lemmas.Result.{err_from_is_err_and}
use Rattle.terms.proofs.Laws.Format.ParameterLaws.{parameter_no, parameter_half, parameter_yes}
use Rattle.terms.proofs.find.parameter_at.Goals as goal

pub returns-in_err-owner : goal.returns-in_err-owner
returns-in_err-owner c =
    let r = err_from_is_err_and c.from_residual.result c.from_residual.ensures.1 in
    rw (r.1, r.2) (parameter_no _ _ _ c.in_err-owner.ensures)

pub returns-in_err-position : goal.returns-in_err-position
returns-in_err-position c =
    let f = c.from_residual-in_err-position in
    let r = err_from_is_err_and f.result f.ensures.1 in
    rw (r.1, r.2) (parameter_half _ _ _ _ c.in_ok-owner.ensures _ c.in_err-position.ensures)

pub returns : goal.returns
returns c = parameter_yes _ _ _ _ c.in_ok-owner.ensures _ _ c.in_ok-position.ensures

-- One parameter more, or a refusal, or the end.
use mathlib.Core.Bool.{Bool}
use mathlib.Core.Path.{ap}
use Rattle.std.proofs.Common.{◌∙◌, arith, Some}
use Rattle.terms.specs.Result.{pick}
use Rattle.std.proofs.lemmas.Result.{err_from_is_err_and}
use Rattle.terms.specs.Questions.{same_parameter}
use Rattle.terms.proofs.Laws.Format.ParameterLaws.{pass_end, pass_stop, pass_more}
use Rattle.terms.proofs.Parameters.scan.Goals as goal
use Rattle.terms.proofs.Parameters.scan.Goals.{then-eq, else-eq}

pub returns-in_err-read : goal.returns-in_err-read
returns-in_err-read c =
    let l = c.loop-n in
    let r = err_from_is_err_and c.from_residual.result c.from_residual.ensures.1 in
    rw (r.1, r.2) (pass_stop _ _ _ _ _ _ c.loop-n-test.true _ c.in_err-read.ensures ∙ l.invariant)

pub loop-n-preserved : goal.loop-n-preserved
unfolding same_parameter
loop-n-preserved c =
    let a = c.args in
    let l = c.loop-n in
    let more = pass_more a.self.now.bytes.now a.wanted a.self.now.count l.n l.i l.best c.loop-n-test.true _ _ c.in_ok-read.ensures c.if-eq.best in
    let told = λ (same : Bool). pick same (Some l.n) l.best in
    elim c.if-eq.branch [
      | then-eq w ↦ more (w.best-is ∙ ap told (w.if-eq.ensures {u = tt})) ∙ l.invariant
      | else-eq w ↦ more (w.best-is ∙ ap told (w.if-eq.ensures {u = tt})) ∙ l.invariant
    ]

pub returns : goal.returns
returns c = pass_end _ _ _ _ _ _ (omega arith) ∙ c.loop-n.invariant

-- `default_at`. By the token's kind and the variable's word.
use mathlib.Core.Path.{sym, ap, ◌∙◌}
use native.Mathlib.Omega.{arith}
use lib.ListN.{get_or, get_or-eq_default}
use Rattle.solver.specs.Words.ResolveWalk.{default_of}
use Rattle.solver.proofs.Laws.Resolving.DefaultWordLaws.{default_low}
use Rattle.solver.proofs.Laws.Resolving.FrameLaws.{default_shut, default_other, default_var}
use Rattle.solver.proofs.resolving.default_at.Goals.{then-tokens-p-ne1-via-then-tokens-p-ne1, then-tokens-p-ne1-via-else-tokens-p-ne1+then-left-eq0}
use Rattle.solver.proofs.resolving.default_at.Goals as goal

pub returns-then-tokens-p-ne1 : goal.returns-then-tokens-p-ne1
returns-then-tokens-p-ne1 c =
    let a = c.args in
    elim c.then-tokens-p-ne1.branch [
      | then-tokens-p-ne1-via-then-tokens-p-ne1 w ↦ sym (default_other a.bound.now a.left _ _ w.if-tokens-p-ne1.true)
      | then-tokens-p-ne1-via-else-tokens-p-ne1+then-left-eq0 w ↦ sym (default_shut a.bound.now a.left _ _ w.if-left-eq0.true)
    ]

pub returns-in_err-get : goal.returns-in_err-get
returns-in_err-get c =
    let a = c.args in
    let z = get_or-eq_default a.bound.now 0 {n = get_or a.tokens.now.vals.now a.p 0} (c.in_err-get.ensures {u = tt}).lookup.3 in
    rw c.from_residual.ensures (sym (default_var a.bound.now a.left _ _ (λ e. omega (arith, c.if-left-eq0.false)) (omega arith) ∙ default_low (get_or a.bound.now (get_or a.tokens.now.vals.now a.p 0) 0) (omega (arith, z))))

pub returns : goal.returns
returns c =
    let a = c.args in
    c.default_of.ensures ∙ ap default_of ((c.in_ok-get.ensures {u = tt}).lookup.3.1 0)
    ∙ sym (default_var a.bound.now a.left _ _ (λ e. omega (arith, c.if-left-eq0.false)) (omega arith))

-- `rewritten`: counted first, then written.
use native.Mathlib.Omega.{arith}
use Rattle.solver.proofs.Terms.Bools.{never_true}
use Rattle.solver.proofs.Terms.RewriteLaws.{counted_term}
use Rattle.sheet.proofs.Laws.Answering.AnswerLaws.{rewrites_one, rewrites_two, counted_over, counted_in}
use Rattle.sheet.proofs.operations.rewritten.Goals as goal

pub write_term-size-requires-clause-space : goal.write_term-size-requires-clause-space
write_term-size-requires-clause-space c =
    let a = c.args in
    let r = a.rewriter.now in
    let n = counted_term r.tokens.kinds.now r.tokens.vals.now (λ i. omega (arith, r.tokens.narrow.fits i)) r.binders r.within a.from c.requires.place (omega (arith, c.requires.few)) in
    record { counts = omega (arith, n); fits = λ h. never_true h }

pub returns-in_err-at : goal.returns-in_err-at
returns-in_err-at c =
    let a = c.args in
    rw c.from_residual.ensures (rewrites_one _ _ a.rewriter.now.binders a.from _ _ (λ x w. counted_over a.out.now _ _ a.to _ x w c.in_err-at.ensures) c.write_term-size.ensures.trees)

pub returns : goal.returns
returns c =
    let a = c.args in
    rewrites_two _ _ a.rewriter.now.binders a.from _ _ _ (λ x u w. counted_in a.out.now _ _ a.to _ x u _ c.in_ok-at.ensures _ _ w) c.write_term-size.ensures.trees c.write_term.ensures.trees

-- `union_terms`. Two nodes are their own tops.
use native.Mathlib.Omega.{arith}
use Rattle.solver.proofs.Laws.Resolving.TopLaws.{stands_alone}
use Rattle.solver.proofs.Laws.Equality.EqualLaws.{steady_standing}
use Rattle.solver.proofs.equality.union_terms.Goals as goal

pub returns-clause-terms : goal.returns-clause-terms
returns-clause-terms c =
    let a = c.args in
    let n = a.bindings.now.most in
    λ b t u e ht hu fa.
    c.union_classes.ensures.terms _ _ _ t u (steady_standing e.steady e.topped)
    (rw (stands_alone _ _ a.i n b t ht (λ q. omega (arith, q, c.if-kinds-i-lt2.false))) ht)
    (rw (stands_alone _ _ a.j n b u hu (λ q. omega (arith, q, c.if-kinds-i-lt2.false, c.if-kinds-i.false))) hu) fa

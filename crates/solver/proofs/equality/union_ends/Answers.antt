-- `union_ends`. By the ends: two places are joined by `union_places`, and a default is equal to the same builtin alone (`told_code_..`).
use mathlib.Core.Path.{ap, ◌∙◌, sym}
use borrow.Author.Tests.{eq-eqb, eqb-true}
use Rattle.solver.specs.Words.Bindings.{builtin}
use Rattle.solver.proofs.Laws.Equality.CodeLaws.{equal_builtin, builtin_equal, builtin_same}
use Rattle.solver.proofs.Laws.Equality.LinkLaws.{told_code_left, told_code_right}
use Rattle.solver.proofs.Laws.Equality.EqualLaws.{steady_standing}
use Rattle.solver.proofs.equality.union_ends.Goals as goal

pub returns-in-At-At-clause-terms : goal.returns-in-At-At-clause-terms
returns-in-At-At-clause-terms c =
    let f = c.shallow_resolve-a.ensures in
    let g = c.shallow_resolve-b.ensures in
    λ b t u e ht hu fa.
    c.union_places.ensures.terms _ _ t u (steady_standing e.steady e.topped) (rw c.in-At-At.is-0 at (f.term t b c.args.bindings.now.most ht e.held)) (rw c.in-At-At.is-1 at (g.term u b c.args.bindings.now.most hu e.held)) fa

pub returns-in-At-Default-clause-terms : goal.returns-in-At-Default-clause-terms
returns-in-At-Default-clause-terms c =
    let f = c.shallow_resolve-a.ensures in
    let g = c.shallow_resolve-b.ensures in
    λ b t u e ht hu fa.
    let is = c.code_at.ensures _ (rw c.in-At-Default.is-0 at (f.term t b c.args.bindings.now.most ht e.held)) in
    told_code_right _ _ (steady_standing e.steady e.topped) _ _ _ fa t u c.in-At-Default.c.code _ (rw c.in-At-Default.is-1 at (g.term u b c.args.bindings.now.most hu e.held)).1
    (equal_builtin c.in-At-Default.c.code _ _ is _ c.eq.ensures) (builtin_equal c.in-At-Default.c.code _ _ is _ c.eq.ensures)

pub returns-in-Default-At-clause-terms : goal.returns-in-Default-At-clause-terms
returns-in-Default-At-clause-terms c =
    let f = c.shallow_resolve-a.ensures in
    let g = c.shallow_resolve-b.ensures in
    λ b t u e ht hu fa.
    let is = c.code_at-in-Default-At.ensures _ (rw c.in-Default-At.is-1 at (g.term u b c.args.bindings.now.most hu e.held)) in
    told_code_left _ _ (steady_standing e.steady e.topped) _ _ _ fa t u c.in-Default-At.c.code _ (rw c.in-Default-At.is-0 at (f.term t b c.args.bindings.now.most ht e.held)).1
    (equal_builtin c.in-Default-At.c.code _ _ is _ c.eq-in-Default-At.ensures) (builtin_equal c.in-Default-At.c.code _ _ is _ c.eq-in-Default-At.ensures)

pub returns-in-Default-Default-clause-terms : goal.returns-in-Default-Default-clause-terms
returns-in-Default-Default-clause-terms c =
    let f = c.shallow_resolve-a.ensures in
    let g = c.shallow_resolve-b.ensures in
    λ b t u e ht hu fa.
    let ht' = (rw c.in-Default-Default.is-0 at (f.term t b c.args.bindings.now.most ht e.held)).1 in
    let hu' = (rw c.in-Default-Default.is-1 at (g.term u b c.args.bindings.now.most hu e.held)).1 in
    told_code_right _ _ (steady_standing e.steady e.topped) _ _ _ fa t u c.in-Default-Default.d.code _ hu'
    (λ r. ht' ∙ ap builtin (eqb-true _ _ r)) (λ r. eq-eqb _ _ (builtin_same (sym ht' ∙ r)))

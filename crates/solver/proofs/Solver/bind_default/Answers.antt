-- `Solver::bind_default`. By the word, and by where the chain ends.
use mathlib.Core.Path.{refl, sym, subst, ◌∙◌}
use Prim.Native.Nat.{ℕ}
use native.Mathlib.Omega.{arith}
use Rattle.terms.specs.Term.{var}
use Rattle.solver.specs.Constrain.{top}
use Rattle.solver.specs.Words.Bindings.{builtin}
use Rattle.solver.specs.Words.SessionRepresentation.{HeldRequest}
use Rattle.solver.specs.Session.{issued}
use Rattle.solver.proofs.Laws.Checks.DefaultCheckLaws.{within_builtin}
use Rattle.solver.proofs.Laws.Resolving.ChainEndLaws.{variable_told}
use Rattle.solver.proofs.Laws.Table.ChainLaws.{settled_none, settled_stop, settled_bound}
use Rattle.solver.proofs.Solver.bind_default.Goals as goal

pub returns-in_default-clause-held : goal.returns-in_default-clause-held
returns-in_default-clause-held c =
    let a = c.args in
    λ s L C. settled_none a.which _ _ _ _ s L _ _ (omega (arith, c.requires.shape.1, L.issued, L.fits.variables)) c.in_default.ensures refl

pub returns-in_default-root_of-clause-held : goal.returns-in_default-root_of-clause-held
returns-in_default-root_of-clause-held c =
    let a = c.args in
    λ s L C.
    settled_stop a.which a.self a.tokens.now.kinds.now a.tokens.now.vals.now a.tables.now s L a.v _ (omega (arith, c.requires.shape.1, L.issued, L.fits.variables)) c.in-Some.ensures (λ z. omega (arith, c.in-Some.word.ok, z))
    (c.in_default-root_of.ensures.told _ _ s C L)

pub returns-clause-held : goal.returns-clause-held
returns-clause-held c =
    let a = c.args in
    let w = c.in-Some-root_of.w in
    let d = c.default_builtin-taken in
    λ s L C.
    settled_bound a.which a.self a.tokens.now.kinds.now a.tokens.now.vals.now a.tables.now s L a.v _ (omega (arith, c.requires.shape.1, L.issued, L.fits.variables)) c.in-Some.ensures (λ z. omega (arith, c.in-Some.word.ok, z))
    w d.result.code (c.in-Some-root_of.ensures.told _ _ s C L) (omega (arith, c.in-Some-root_of.ensures.low _ refl, L.issued, L.fits.variables))
    (λ o W h. d.ensures o W (subst (λ (n : ℕ). HeldRequest o n) (sym c.end_word.ensures) h)) _ _
    (c.put_binding.ensures.held s (builtin d.result.code) L C (C.free (var a.v) w (variable_told (top s.solver (var a.v)) w (sym (c.in-Some-root_of.ensures.told _ _ s C L)))) (d.result.listed, refl) tt (within_builtin (issued s) d.result.code))

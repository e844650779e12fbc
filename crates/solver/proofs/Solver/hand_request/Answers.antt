-- `Solver::hand_request`. By the request of v, and by what the end is.
use mathlib.Core.Path.{◌≡◌, refl, sym, ap, subst, ◌∙◌}
use Prim.Native.Nat.{ℕ, ◌+◌, ◌<◌}
use native.Mathlib.Omega.{arith}
use lib.ListN.{get_or}
use Rattle.terms.specs.Term.{Term, var}
use Rattle.solver.specs.Constrain.{admit}
use Rattle.solver.specs.Session.{issued, request}
use Rattle.solver.specs.Words.ConstrainContract.{Within}
use Rattle.solver.specs.Words.MethodContract.{joined_word}
use Rattle.solver.specs.Words.SessionRepresentation.{RequestWord, request_in, Represents}
use Rattle.solver.proofs.Laws.Definition.SolverInvariantLaws.{var_within}
use Rattle.solver.proofs.Laws.Resolving.ChainEndLaws.{variable_told}
use Rattle.solver.proofs.Laws.Table.AdmitLaws.{handed_none, handed_node, handed_to}
use Rattle.std.proofs.Common.{rules}
use Rattle.solver.proofs.Solver.hand_request.Goals as goal

-- the words that are asked for
none_is : (c : goal.In_default) → get_or c.args.tables.now (c.args.self.variables + c.args.v) 0 ≡ 0
none_is c = search rules

some_is : (c : goal.After-slice_known-4-1) → get_or c.args.tables.now (c.args.self.variables + c.args.v) 0 ≡ 0 → ⊥
some_is c = search rules

joined_is : (c : goal.After-slice_known-4-1) → c.joined_word-joined.result
    ≡ joined_word (get_or c.args.tables.now (c.args.self.variables + c.args.v) 0) (get_or c.args.tables.now (c.args.self.variables + c.in-Some-variable_of.w) 0)
joined_is c = search rules

pub returns-in_default-clause-held : goal.returns-in_default-clause-held
returns-in_default-clause-held c =
    let a = c.args in
    λ s t rs L C h w e.
    let below : a.v < a.self.variables = omega (arith, c.requires.1, L.issued, L.fits.variables) in
    handed_none a.self _ _ a.tables.now _ s L a.v below t rs (none_is c) refl e

pub returns-in_default-variable_of-clause-held : goal.returns-in_default-variable_of-clause-held
returns-in_default-variable_of-clause-held c =
    let a = c.args in
    λ s t rs L C h w e.
    let below : a.v < a.self.variables = omega (arith, c.requires.1, L.issued, L.fits.variables) in
    handed_node a.self _ _ a.tables.now _ s L a.v below t rs (sym c.in_default-variable_of.is ∙ c.variable_of.ensures t h) refl e

pub returns-then-self-at-clause-held : goal.returns-then-self-at-clause-held
returns-then-self-at-clause-held c =
    λ s t rs L C h w e.
    let v = variable_told t c.in-Some-variable_of.w (sym (c.variable_of.ensures t h) ∙ c.in-Some-variable_of.is) in
    let l = var_within (issued s) c.in-Some-variable_of.w (subst (λ (y : Term). Within (issued s) y) v w) in
    absurd (omega (arith, L.issued, c.if-self-at.true))

pub returns-clause-held : goal.returns-clause-held
returns-clause-held c =
    let a = c.args in
    let n = c.in-Some-variable_of.w in
    λ s t rs L C h w e.
    let below : a.v < a.self.variables = omega (arith, c.requires.1, L.issued, L.fits.variables) in
    let v = variable_told t n (sym (c.variable_of.ensures t h) ∙ c.in-Some-variable_of.is) in
    let l : n < a.self.variables = omega (arith, c.if-self-at.false, L.issued, L.fits.variables) in
    let j = joined_is c in
    handed_to a.self _ _ a.tables.now _ s L a.v below n l (some_is c)
    (λ W. subst (λ (k : ℕ). Represents a.self a.tokens.now.kinds.now a.tokens.now.vals.now c.put_request.new.tables (request s n (request_in k))) j
    (c.put_request.ensures.held _ _ s (subst RequestWord (sym j) W) C L))
    rs (ap (λ (y : Term). admit s.solver.requests (s.solver.requests a.v) y) (sym v) ∙ e)

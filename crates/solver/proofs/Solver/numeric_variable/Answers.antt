-- `Solver::numeric_variable`. The request is written where the place has its variable.
use mathlib.Core.Path.{refl, subst}
use native.Mathlib.Omega.{arith}
use Rattle.std.specs.Prelude.{Some, None}
use Rattle.std.specs.declared.option.Option as rust
use Prim.Native.Nat.{ℕ}
use Rattle.solver.specs.declared.Site.TheVariants.{Slot}
use Rattle.solver.specs.Session.{at, issued}
use Rattle.solver.specs.Orders.{order}
use Rattle.solver.specs.Words.MethodContract.{Issued, placed}
use Rattle.solver.specs.Words.SessionRepresentation.{limits_of, request_in}
use Rattle.solver.proofs.Laws.Definition.ChainRecordLaws.{in_order_coming}
use Rattle.solver.proofs.Laws.Table.MethodLaws.{held_shaped, place_held, number_replied, number_none}
use Rattle.solver.proofs.Solver.numeric_variable.Goals as goal

pub put_request-requires : goal.put_request-requires
put_request-requires c =
    let h = c.requires.1 in
    let i = c.issue-c.ensures.held h.0 h.1 h.2 _ (place_held (Slot c.args.site 1) c.from.ensures) h.3 h.4 in
    let j = subst (λ (b : rust.Option ℕ). Issued c.issue-c.result.solver h.0 h.1 c.issue-c.new.tables (at c.args.site 1) (placed (limits_of c.args.self) h.2 (at c.args.site 1)) b) c.in-Some.is i in
    (held_shaped j.represents, omega (arith, j.located.1, j.represents.issued))

pub returns-in-Some-clause-held : goal.returns-in-Some-clause-held
unfolding order
returns-in-Some-clause-held c =
    let a = c.args in
    let i = c.issue-c.ensures in
    let g = c.in-Some.is in
    λ ks vs s o L.
    rw g (number_replied _ ks vs _ (limits_of a.self) s (at a.site 1) c.in-Some.v (request_in a.request.word) c.put_request.new.tables
    (subst (λ (b : rust.Option ℕ). Issued c.issue-c.result.solver ks vs c.issue-c.new.tables (at a.site 1) (placed (limits_of a.self) s (at a.site 1)) b) g (i.held ks vs s _ (place_held (Slot a.site 1) c.from.ensures) o L))
    (in_order_coming (issued s) s.solver o) (λ s' C P. c.put_request.ensures.held ks vs s' a.request.formed C P))

pub returns-in_default-clause-held : goal.returns-in_default-clause-held
unfolding order
returns-in_default-clause-held c =
    let a = c.args in
    let i = c.issue-c.ensures in
    λ ks vs s o L. rw c.in_default.is (number_none _ ks vs _ (limits_of a.self) s (at a.site 1) _ (request_in a.request.word) c.in_default.is (i.held ks vs s _ (place_held (Slot a.site 1) c.from.ensures) o L))

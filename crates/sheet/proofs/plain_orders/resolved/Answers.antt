-- `resolved`: sized, begun and written.
use native.Mathlib.Omega.{arith}
use Rattle.solver.specs.Words.OrderTerms.{resolved_to}
use Rattle.sheet.proofs.Laws.Answering.FramingLaws.{value_in, value_over}
use Rattle.sheet.proofs.Laws.Answering.SessionOrderLaws.{long_over}
use Rattle.sheet.proofs.plain_orders.resolved.Goals as goal

pub returns-in_err-size-clause-term : goal.returns-in_err-size-clause-term
returns-in_err-size-clause-term c =
    let a = c.args in
    let e = c.resolved_len.ensures in
    λ z t A. rw c.from_residual.ensures (long_over (resolved_to z t) a.out.now a.to (omega (arith, rw c.in_err-size.was at e.len z t A)))

pub returns-in_err-at-clause-term : goal.returns-in_err-at-clause-term
returns-in_err-at-clause-term c =
    let a = c.args in
    let e = c.resolved_len.ensures in
    λ z t A. rw c.from_residual-in_err-at.ensures (value_over (resolved_to z t) _ (omega (arith, rw c.in_ok-size.was at e.len z t A, e.fits _ c.in_ok-size.was)) a.out.now a.to _ c.in_err-at.ensures)

pub returns-clause-term : goal.returns-clause-term
returns-clause-term c =
    let a = c.args in
    let e = c.resolved_len.ensures in
    let w = c.resolve.ensures in
    λ z t A. value_in (resolved_to z t) _ (omega (arith, rw c.in_ok-size.was at e.len z t A, e.fits _ c.in_ok-size.was)) a.out.now a.to _ _ c.in_ok-at.ensures _ _ (w.wrote z t A).0 (w.wrote z t A).1

-- `read_order`: by its number.
use mathlib.Core.Path.{refl}
use native.Mathlib.Omega.{arith}
use Rattle.solver.proofs.Terms.Options.{handed_on}
use Rattle.sheet.proofs.Laws.Reading.OrderLaws.{order_empty, order_unlisted}
use Rattle.sheet.proofs.order_reader.read_order.Goals as goal

pub returns-in_err-byte_at : goal.returns-in_err-byte_at
returns-in_err-byte_at c =
    let a = c.args in
    let e = c.in_err-byte_at.ensures {u = tt} in
    rw (handed_on _ _ c.from_residual.ensures.1, e.1) (order_empty a.s.now a.x.issued (omega (arith, e.0)), refl)

pub returns-in_err-kind : goal.returns-in_err-kind
returns-in_err-kind c =
    let a = c.args in
    let b = c.in_ok-byte_at.ensures {u = tt} in
    let e = rw b.1 at c.in_err-kind.ensures in
    rw (handed_on _ _ c.from_residual-in_err-kind.ensures.1) (rw e.1 (order_unlisted a.s.now a.x.issued b.0 e.0), refl)

-- `second_number`. By whether the row has a number, and another after it.
use mathlib.Core.Path.{refl}
use native.Mathlib.Omega.{arith}
use Rattle.solver.proofs.Laws.Checks.PushLaws.{second_none, second_one, second_some}
use Rattle.solver.proofs.pending.second_number.Goals as goal

pub returns-in_err-p : goal.returns-in_err-p
returns-in_err-p c =
    let t = c.args.tokens.now in
    let e = c.row_of-row in
    λ k ps h. rw c.from_residual.ensures (second_none t.kinds.now t.vals.now c.args.a e.result.end e.ensures.1 _ (rw e.ensures.0 at c.in_err-p.ensures.number) (omega arith) k ps h)

pub returns-in_err-q : goal.returns-in_err-q
returns-in_err-q c =
    let t = c.args.tokens.now in
    let e = c.row_of-row in
    let p = c.in_ok-p.ensures in
    λ k ps h. rw c.from_residual-in_err-q.ensures (second_one t.kinds.now t.vals.now c.args.a e.result.end e.ensures.1 _ _ (rw e.ensures.0 at p.number) (p.place _ refl) c.in_err-q.ensures.number (omega arith) k ps h)

pub returns : goal.returns
returns c =
    let t = c.args.tokens.now in
    let e = c.row_of-row in
    let p = c.in_ok-p.ensures in
    let q = c.in_ok-q.ensures in
    second_some t.kinds.now t.vals.now c.args.a e.result.end e.ensures.1 _ _ (rw e.ensures.0 at p.number) (p.place _ refl) q.number (q.place _ refl)

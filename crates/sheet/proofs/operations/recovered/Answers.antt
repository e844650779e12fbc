-- `recovered`: sized first, then written.
use native.Mathlib.Omega.{arith}
use Rattle.solver.specs.Terms.Term.{bytes}
use Rattle.solver.specs.Terms.Recovery.{recover_from}
use Rattle.sheet.proofs.Laws.Answering.FramingLaws.{value_in, value_over, begun_room}
use Rattle.sheet.proofs.Laws.Answering.OperationFieldLaws.{recovers, pair_asked}
use Rattle.sheet.proofs.operations.recovered.Goals as goal

pub recovered_len-size-requires-clause-places : goal.recovered_len-size-requires-clause-places
recovered_len-size-requires-clause-places c = (pair_asked (recovers _ _ _ _ _) c.requires.asks.1).0

pub recovered_len-size-requires-clause-terms : goal.recovered_len-size-requires-clause-terms
recovered_len-size-requires-clause-terms c = (pair_asked (recovers _ _ _ _ _) c.requires.asks.1).1

pub returns-in_err-at : goal.returns-in_err-at
returns-in_err-at c =
    let a = c.args in
    λ ws.
    (recovers _ _ _ ws _).replied _ (λ w y.
    let x = y.both in
    let e = c.recovered_len-size.ensures _ _ x.left x.right x.left_formed x.right_formed in
    rw (y.answer, c.from_residual.ensures) (value_over (bytes (recover_from y.left y.right)) _ e a.out.now a.to _ c.in_err-at.ensures))

pub write_recovered-requires : goal.write_recovered-requires
write_recovered-requires c =
    let p = c.requires in
    let x = ((recovers _ _ _ _ _).asked p.asks.1).1.both in
    let e = c.recovered_len-size.ensures _ _ x.left x.right x.left_formed x.right_formed in
    let m = begun_room _ _ _ _ _ c.in_ok-at.ensures in
    let q = pair_asked (recovers _ _ _ _ _) p.asks.1 in
    record { places = q.0; room = omega (arith, c.args.posed.now.few, p.room.short, m); terms = record { left = q.1.0; right = q.1.1; room = omega (arith, m, e) } }

pub returns : goal.returns
returns c =
    let a = c.args in
    λ ws.
    (recovers _ _ _ ws _).replied _ (λ w y.
    let x = y.both in
    let e = c.recovered_len-size.ensures _ _ x.left x.right x.left_formed x.right_formed in
    let m = begun_room _ _ a.to _ _ c.in_ok-at.ensures in
    let f = c.write_recovered.ensures _ _ x.left x.right x.left_formed x.right_formed in
    rw y.answer (value_in (bytes (recover_from y.left y.right)) _ e a.out.now a.to _ _ c.in_ok-at.ensures _ _ f.next (f.wrote (omega (arith, m)))))

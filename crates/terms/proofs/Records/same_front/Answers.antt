-- `same_front`. Receiver, interface, and two numbers.
use mathlib.Core.Path.{refl}
use Rattle.terms.proofs.Laws.Normalising.RuleLaws.{front_receiver, front_interface, front_numbers}
use Rattle.terms.proofs.Records.same_front.Goals as goal

pub returns-in_err-x : goal.returns-in_err-x
returns-in_err-x c =
    let a = c.args in
    rw c.from_residual.ensures (front_receiver _ _ _ a.self.now.seen.now.sight a.self.now.heads.now a.self.now.kids.now a.x a.rule a.fuel _ _ refl c.term_cursor-receiver.ensures
    c.in_err-x.ensures)

pub returns-in_err-x-2 : goal.returns-in_err-x-2
returns-in_err-x-2 c =
    let a = c.args in
    rw c.from_residual-in_err-x-2.ensures
    (front_interface _ _ _ a.self.now.seen.now.sight a.self.now.heads.now a.self.now.kids.now a.x a.rule a.fuel _ _ refl c.term_cursor-receiver.ensures c.in_ok-x.x c.in_ok-x.ensures
    _ _ c.source.ensures.0 c.source.ensures.1 c.cursor-interface.ensures c.in_err-x-2.ensures)

pub returns : goal.returns
returns c =
    let a = c.args in
    front_numbers _ _ _ a.self.now.seen.now.sight a.self.now.heads.now a.self.now.kids.now a.x a.rule a.fuel _ _ refl c.term_cursor-receiver.ensures c.in_ok-x.x c.in_ok-x.ensures
    _ _ c.source.ensures.0 c.source.ensures.1 c.cursor-interface.ensures c.in_ok-x-2.x c.in_ok-x-2.ensures c.two_numbers.result
    c.two_numbers.ensures

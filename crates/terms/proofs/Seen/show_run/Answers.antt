use Prim.Native.Nat.{◌-◌}
use native.Mathlib.Omega.{arith}
use Rattle.terms.proofs.Laws.Normalising.ShowLaws.{running_next, running_stop, running_done}
use Rattle.terms.proofs.Laws.Normalising.VirtualTokenLaws.{view_spelt}
use Rattle.terms.proofs.Seen.show_run.Goals as goal

pub returns-then-run-self-clause-shows : goal.returns-then-run-self-clause-shows
returns-then-run-self-clause-shows c = rw (view_spelt _ _ _ c.args.self.now.sight c.args.run.from (c.args.run.end - c.args.run.from) (omega arith)) c.show_flat.ensures.shows

pub returns-in_err-i-clause-shows : goal.returns-in_err-i-clause-shows
returns-in_err-i-clause-shows c =
    rw c.from_residual.ensures (running_stop c.loop-q.invariant c.loop-q-test.true c.token.ensures.kind c.token.ensures.value c.show_token.new.out
    c.in_err-i.ensures.shows)

pub loop-q-preserved : goal.loop-q-preserved
loop-q-preserved c =
    let s = c.in_ok-i.ensures in
    running_next c.loop-q.invariant c.loop-q-test.true c.token.ensures.kind c.token.ensures.value s.kept s.shows

pub returns-clause-shows : goal.returns-clause-shows
returns-clause-shows c = running_done c.loop-q.invariant c.loop-q-test.false

use native.Mathlib.Omega.{arith}
use Rattle.terms.proofs.Laws.Normalising.ScanLaws.{came}
use Rattle.terms.proofs.Laws.Normalising.SumLaws.{token_few, owning_start, owning_number, owning_child, owning_done}
use Rattle.terms.proofs.Seen.own_len.Goals as goal
use mathlib.Core.Path.{◌∙◌}

pub loop-y-init : goal.loop-y-init
loop-y-init c =
    let e = c.walk_row-y-items.ensures in
    rw c.into_iter-y-iterator.ensures.into_iter_gives (owning_start e.row (token_few _ _ _ c.token_len-n.ensures (omega arith)), e.seen)

pub overflow_add-n : goal.overflow_add-n
overflow_add-n c =
    let i = c.loop-y.invariant.0 in
    omega (arith, i.few, i.scan.small, c.in-Some.ensures.steps.0.1, token_few _ _ _ c.token_len-n-then-y-eq0.ensures (omega arith))

pub loop-y-preserved-then-y-eq0 : goal.loop-y-preserved-then-y-eq0
loop-y-preserved-then-y-eq0 c =
    let i = c.loop-y.invariant in
    let s = c.in-Some.ensures.steps in
    (rw (s.1) (owning_number i.0 (came _ _ i.1 _ _ c.next.new.self s) c.if-y-eq0.true (omega arith) c.token_len-n-then-y-eq0.ensures), s.2 ∙ i.1)

pub loop-y-preserved : goal.loop-y-preserved
loop-y-preserved c =
    let i = c.loop-y.invariant in
    let s = c.in-Some.ensures.steps in
    (rw (s.1) (owning_child i.0 (came _ _ i.1 _ _ c.next.new.self s) c.if-y-eq0.false), s.2 ∙ i.1)

pub returns-clause-own : goal.returns-clause-own
returns-clause-own c = (owning_done c.loop-y.invariant.0 c.in-None.ensures.steps.0.0 c.token-x.ensures.kind c.token-x.ensures.value c.token_len-n.ensures).0

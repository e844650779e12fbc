-- `walk`. What each case answers.
use Rattle.terms.proofs.Laws.Normalising.FixedLaws.{fixed_kept}
use Rattle.terms.proofs.Laws.Normalising.MemberLaws.{replace_other}
use Rattle.terms.proofs.Laws.Normalising.VisitLaws.{walk-levels, walk_visits, over_start}
use Rattle.terms.proofs.Laws.Normalising.WalkLaws.{finds, order-of, walking_start, walking_next, walking_over, walks_kept, walks_itself, walks_followed, walks_failed}
use Rattle.terms.specs.Lookup.{Look, look_by}
use Rattle.terms.specs.Normal.{walk_by, failed}
use Rattle.terms.specs.Term.{Term}
use mathlib.Core.Path.{◌≡◌, refl, ◌∙◌}
use native.Mathlib.Omega.{arith}
use Rattle.terms.proofs.Normaliser.+walk.Goals as goal
use Rattle.terms.proofs.Normaliser.+walk.Goals.{then-levels-eq0-via-then-levels-eq0, then-levels-eq0-via-else-levels-eq0+then-visits-eq0}

pub returns-then-levels-eq0-clause-walks : goal.returns-then-levels-eq0-clause-walks
returns-then-levels-eq0-clause-walks t c =
    let a = c.args in
    let stopped : (look : Look) (t : Term) → walk_by (finds look) a.levels t a.visits a.next ≡ failed a.visits a.next =
    elim c.then-levels-eq0.branch [
      | then-levels-eq0-via-then-levels-eq0 w ↦ λ look t. walk-levels (finds look) _ t _ _ w.if-levels-eq0.true
      | then-levels-eq0-via-else-levels-eq0+then-visits-eq0 w ↦ λ look t. walk_visits (finds look) _ t _ _ w.if-visits-eq0.true
    ] in
    walks_failed _ _ _ _ c.requires.room.sight a.heads.now a.kids.now a.x a.next a.levels a.visits a.most c.requires.room.within stopped _ refl refl _
    c.result.ensures

pub returns-in-Some-clause-walks : goal.returns-in-Some-clause-walks
returns-in-Some-clause-walks t c =
    let few' = (rw c.in-Some.is at c.fixed_nodes.ensures).few in
    let fixed' = (rw c.in-Some.is at c.fixed_nodes.ensures).fixed in
    let least' = c.min.ensures in
    let len' = c.fixed_len-size.ensures in
    (fixed_kept _ _ _ _ c.requires.room.sight c.args.heads.now c.args.kids.now c.args.x c.args.next c.args.levels c.args.visits c.args.most _ _
    fixed' len'.bytes len'.bound few'.0 (omega (arith, few'.1, least')) (omega (arith, few'.1, least')) _
    c.kept.ensures.fits c.kept.ensures.stops).0

pub returns-in_err-o-clause-walks : goal.returns-in_err-o-clause-walks
returns-in_err-o-clause-walks t c =
    rw c.from_residual.ensures
    (λ S t look b w z. over_start _ (finds look) _ t _ _ (omega (arith, c.if-levels-eq0.false)) (omega (arith, c.if-visits-eq0.false))
    (c.in_err-o.ensures.stopped S t b w))

pub loop-j-init : goal.loop-j-init
loop-j-init t c =
    walking_start _ _ _ _ _ _ _ _ _ _ _ _ _ _ _ c.in_ok-o.ensures.opens.bound
    (omega (arith, c.if-visits-eq0.false))

pub returns-in_err-w-clause-walks : goal.returns-in_err-w-clause-walks
returns-in_err-w-clause-walks t c =
    rw c.from_residual-in_err-w.ensures
    (λ S t look b w z.
    let o = c.in_ok-o.ensures.opens.done S t b w in
    walking_over c.loop-j.invariant c.loop-j-test.true c.slot.ensures.0 c.slot.ensures.1 c.in_err-w.ensures.walks
    S t look b o (order-of c.args.x w o c.in_ok-o.ensures.ordered) z (omega (arith, c.if-levels-eq0.false)))

pub loop-j-preserved : goal.loop-j-preserved
loop-j-preserved t c =
    let walk' = c.in_ok-w in
    walking_next c.loop-j.invariant c.loop-j-test.true c.slot.ensures.0 c.slot.ensures.1
    (omega (arith, c.requires.room.heads, c.in_ok-o.ensures.opens.frames.heads.long, c.loop-j.invariant.frames.heads.long)) (omega (
      arith,
      c.requires.room.kids,
      c.in_ok-o.ensures.opens.frames.kids.long,
      c.loop-j.invariant.frames.kids.long,
    )) _ _ _ walk'.ensures.walks walk'.ensures.frames

pub returns-then-o-ne18-clause-walks : goal.returns-then-o-ne18-clause-walks
returns-then-o-ne18-clause-walks t c =
    walks_kept c.args.x c.loop-j.invariant c.loop-j-test.false (omega (arith, c.if-levels-eq0.false)) c.own_len-size.ensures.own
    (omega (arith, c.own_len-size.ensures.bound, c.in_ok-o.ensures.opens.bound, c.requires.room.small)) c.in_ok-o.ensures.opens.done c.in_ok-o.ensures.ordered _
    refl (λ S t look w d z. replace_other (look_by look) t (λ e. c.if-o-ne18.true (c.in_ok-o.ensures.tagged.is _ _ S _ t w ∙ e))) _ c.result-then-o-ne18.ensures

pub returns-in_default-f-clause-walks : goal.returns-in_default-f-clause-walks
returns-in_default-f-clause-walks t c =
    walks_kept c.args.x c.loop-j.invariant c.loop-j-test.false (omega (arith, c.if-levels-eq0.false)) c.own_len-size.ensures.own
    (omega (arith, c.own_len-size.ensures.bound, c.in_ok-o.ensures.opens.bound, c.requires.room.small)) c.in_ok-o.ensures.opens.done c.in_ok-o.ensures.ordered _
    refl (λ S t look w d z. rw c.in_default-f.is at ((rw (c.counted.ensures.0, c.counted.ensures.1) at (c.replace-f.ensures S t look)) w d z)) _ c.result-in_default-f.ensures

pub returns-then-same_trees-clause-walks : goal.returns-then-same_trees-clause-walks
returns-then-same_trees-clause-walks t c =
    walks_itself c.args.x c.loop-j.invariant c.loop-j-test.false (omega (arith, c.if-levels-eq0.false)) c.own_len-size.ensures.own
    (omega (arith, c.own_len-size.ensures.bound, c.in_ok-o.ensures.opens.bound, c.requires.room.small)) c.in_ok-o.ensures.opens.done c.in_ok-o.ensures.ordered _
    refl _ (λ S t look w d z. rw c.in-Some-f.is at ((rw (c.counted.ensures.0, c.counted.ensures.1) at (c.replace-f.ensures S t look)) w d z)) c.requires.room.sight (c.same_trees.ensures.yes c.if-same_trees.true) _
    refl refl _ c.result-then-same_trees.ensures

pub returns-clause-walks : goal.returns-clause-walks
returns-clause-walks t c =
    walks_followed c.args.x c.loop-j.invariant c.loop-j-test.false (omega (arith, c.if-levels-eq0.false)) c.own_len-size.ensures.own
    (omega (arith, c.own_len-size.ensures.bound, c.in_ok-o.ensures.opens.bound, c.requires.room.small)) c.in_ok-o.ensures.opens.done c.in_ok-o.ensures.ordered _
    refl _ (λ S t look w d z. rw c.in-Some-f.is at ((rw (c.counted.ensures.0, c.counted.ensures.1) at (c.replace-f.ensures S t look)) w d z)) (c.same_trees.ensures.no c.if-same_trees.false) _ _ c.walk-2.result
    c.walk-2.ensures.walks

-- `same_terms`. From the joins to the two terms (`decide_yes`, `decide_no`, `decide_apart`); then the words are cleared.
use native.Mathlib.Omega.{arith}
use mathlib.Core.Path.{◌∙◌}
use Rattle.terms.proofs.Laws.General.Bools.{never_true}
use Rattle.solver.specs.Constrain.{follow}
use Rattle.solver.specs.Words.Halves.{halves}
use Rattle.solver.specs.Words.Worklist.{Zero}
use Rattle.solver.specs.Words.CongruenceClasses.{Wired, HeldSteady, stands_for}
use Rattle.solver.proofs.Laws.Resolving.WorklistLaws.{zero_take, zero_drop, zero_joined}
use Rattle.solver.proofs.Laws.Equality.HalfLaws.{halves_length, zero_halves}
use Rattle.solver.proofs.Laws.Equality.LinkLaws.{clear_start}
use Rattle.solver.proofs.Laws.Equality.CloseLaws.{zero_fair, decide_no, decide_yes, decide_apart}
use Rattle.solver.proofs.Laws.Equality.EqualLaws.{wired_none, steady_standing, answer}
use Rattle.solver.proofs.equality.same_terms.Goals.{then-union_ends, else-union_ends}
use Rattle.solver.proofs.equality.same_terms.Goals as goal
use Rattle.solver.proofs.equality.same_terms.Goals.{Joined-union_ends}

-- the words are wired, whether or not the two terms were joined
linked : (c : Joined-union_ends) → Wired c.args.bindings.now.tokens.kinds.now (halves c.if-union_ends.links) c.if-union_ends.queue c.if-union_ends.top
linked c =
    elim c.if-union_ends.branch [
      | then-union_ends w ↦ rw (w.links-is, w.queue-is, w.top-is) w.close_congruence-equal.ensures.advanced.wired
      | else-union_ends w ↦ rw (w.links-is, w.queue-is, w.top-is) c.union_ends.ensures.advanced.wired
    ]

pub union_ends-requires-clause-wired : goal.union_ends-requires-clause-wired
union_ends-requires-clause-wired c =
    let s = c.split_at_mut-links.ensures in
    let z = c.requires.room.2 in
    wired_none _ _ _ (omega (arith, halves_length c.split_at_mut-links.result.0.now, s.front_len)) c.requires.room.1 (omega (arith, s.back_len, c.requires.room.0))
    (zero_halves _ (rw s.front (zero_take _ _ z))) (rw s.back (zero_drop _ _ z))

pub clear_links-requires : goal.clear_links-requires
clear_links-requires c = clear_start c.args.bindings.now.tokens.kinds.now _ _ _ (linked (goal.at.clear_links-requires c).Joined-union_ends)

pub returns-clause-clear : goal.returns-clause-clear
returns-clause-clear c =
    let z = c.clear_links.ensures in
    zero_joined _ _ z.0 z.1

pub returns-clause-term : goal.returns-clause-term
returns-clause-term c =
    let a = c.args in
    let s = c.split_at_mut-links.ensures in
    let w = c.split_at_mut-links.result.0.now in
    let z : Zero (halves w) = zero_halves w (rw s.front (zero_take _ _ c.requires.room.2)) in
    let d = c.union_ends.ensures in
    λ t u b ht hu h S T.
    let e : HeldSteady a.bindings.now b = record { held = h; steady = S; topped = T } in
    let s = steady_standing S T in
    let j = d.terms b t u e ht hu (zero_fair _ _ (halves w) z) in
    elim c.if-union_ends.branch [
      | then-union_ends x ↦
          let k = x.close_congruence-equal.ensures in
          let g = k.terms b e j.fair in
          x.equal-is ∙ answer a.bindings.now.most b t u _
          (decide_yes _ _ (stands_for a.bindings.now.most b) (follow a.bindings.now.most b) s (halves w) z _ _ t u j _ k.advanced.keeps _ g x.if-union_ends.true)
          (decide_apart _ _ (stands_for a.bindings.now.most b) (follow a.bindings.now.most b) s (halves w) z _ _ t u j _ k.advanced.keeps _ g x.if-union_ends.true)
      | else-union_ends x ↦
          x.equal-is ∙ x.if-union_ends.false ∙ answer a.bindings.now.most b t u _ never_true (λ _. decide_no _ _ (stands_for a.bindings.now.most b) (follow a.bindings.now.most b) s (halves w) z _ _ t u j x.if-union_ends.false)
    ]

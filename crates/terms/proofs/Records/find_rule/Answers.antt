use mathlib.Core.Path.{refl, sym, ◌∙◌}
use Prim.Native.Nat.{◌+◌}
use Rattle.terms.proofs.Records.find_rule.Goals.{in_default, in-Some+then-left-eq0+else-z}
use native.Mathlib.Omega.{arith}
use Rattle.terms.specs.Tree.{row}
use Rattle.terms.proofs.Laws.Normalising.RuleLaws.{rule_at, Missed, arguing_start, argued_done, argued_more, argued_next, searching_next, searching_none, searching_hit, searching_to, searching_past}
use Rattle.terms.proofs.Records.find_rule.Goals as goal

pub returns-in_err-r : goal.returns-in_err-r
returns-in_err-r c =
    λ S t rs w d k.
    let i = c.rules.invariant in
    rw c.from_residual.ensures
    (searching_none (searching_past c.member_in-member.ensures i.0 i.1 (sym c.first_with.ensures ∙ c.in_err-r.was)) (omega arith) S (row t) rs
    (c.cursor-s.ensures.is _ _ S t w) d k)

pub loop-m-init : goal.loop-m-init
loop-m-init c =
    arguing_start _ _ _ c.args.self.now.heads.now c.args.self.now.kids.now c.cursor-s.result c.args.fuel c.args.self.now.seen.now.sight
    (rule_at c.args.rules.now (c.rules.r + c.in_ok-r.field-0)) c.same_front-m.result _ refl c.same_front-m.ensures

pub loop-m-preserved : goal.loop-m-preserved
loop-m-preserved c = argued_next (rw c.in-Some.is at c.loop-m.invariant) c.if-left-eq0.false c.term_cursor-argument.ensures c.same_rows-m.result c.same_rows-m.ensures

pub rules-preserved : goal.rules-preserved
rules-preserved c =
    let i = c.rules.invariant in
    let r = c.rules.r + c.in_ok-r.field-0 in
    let at-it = searching_to c.member_in-member.ensures i.0 i.1 (sym c.first_with.ensures ∙ c.in_ok-r.was) in
    let v = c.args.self.now.seen.now in
    let missed : Missed v.tokens.kinds.now v.tokens.vals.now v.given c.args.self.now.heads.now c.args.self.now.kids.now c.cursor-s.result c.args.fuel (rule_at c.args.rules.now r) =
    elim c.match-m.branch [
      | in_default v ↦ rw v.in_default.is at c.loop-m.invariant
      | in-Some+then-left-eq0+else-z v ↦ argued_more (rw v.in-Some.is at c.loop-m.invariant) v.if-left-eq0.true v.if-z.false
    ] in
    (searching_next at-it.1 at-it.0 missed, omega (arith, at-it.0))

pub returns : goal.returns
returns c =
    λ S t rs w d k.
    let i = c.rules.invariant in
    let at-it = searching_to c.member_in-member.ensures i.0 i.1 (sym c.first_with.ensures ∙ c.in_ok-r.was) in
    let hit = argued_done (rw c.in-Some.is at c.loop-m.invariant) c.if-left-eq0.true c.if-z.true in
    let r = searching_hit at-it.1 c.args.self.now.seen.now.sight at-it.0 hit S (row t) rs (c.cursor-s.ensures.is _ _ S t w) d k in
    (r.0, r.1, rw (c.source.ensures.0, c.source.ensures.1) r.2)

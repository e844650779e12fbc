-- `own_member`. By its tests.
use Rattle.std.proofs.Common.{ℕ, ◌≡◌, sym, ◌∙◌, Bool, true}
use Rattle.terms.specs.Term.{Term}
use Rattle.terms.specs.Tree.{row, arguments_of}
use Rattle.terms.specs.Comparison.{no_terms}
use Rattle.terms.specs.Words.Arena.{Tree}
use Rattle.terms.specs.Words.Lent.{shown}
use Rattle.terms.proofs.Laws.General.Options.{nothing, something}
use Rattle.terms.proofs.Laws.Normalising.MemberLaws.{own_args, own_stop, own_plain, own_found, own_empty, own_other, own_trait}
use Rattle.terms.proofs.members.Counted.own_member.Goals as goal
use Rattle.terms.proofs.members.Counted.own_member.Goals.{Else-is_some}

-- there are no arguments
plain : (c : Else-is_some) (S : ℕ → Bool) (t : Term) → Tree (shown c.args.self.now.records.now.seen.now) c.args.self.now.records.now.heads.now c.args.self.now.records.now.kids.now S c.args.self.now.content.head c.args.self.now.content.kids t
    → no_terms (arguments_of (row t)) ≡ true
plain c S t w = own_plain c.args.self.now.counts w (rw (nothing _ (sym c.is_some.ensures ∙ c.if-is_some.false)) at (c.child_at-argument.ensures S t w))

pub returns-then-is_some : goal.returns-then-is_some
returns-then-is_some c =
    λ S t w.
    let r = rw (something _ (sym c.is_some.ensures ∙ c.if-is_some.true)).1 at (c.child_at-argument.ensures S t w) in
    own_stop c.args.self.now.counts w (own_args c.args.self.now.counts w r.0 r.1)

pub returns-then-is_some-2 : goal.returns-then-is_some-2
returns-then-is_some-2 c =
    λ S t w.
    let e = (something _ (sym c.is_some-2.ensures ∙ c.if-is_some-2.true)).1 in
    let r = rw e at (c.member_of-own.ensures S t w) in
    rw e (r.0, own_found c.args.self.now.counts w c.number_at-key.ensures.value (plain (goal.at.returns-then-is_some-2 c).Else-is_some S t w) r.0 r.1, r.2)

pub returns-in_err-y : goal.returns-in_err-y
returns-in_err-y c =
    λ S t w.
    let e = rw (nothing _ (sym c.is_some-2.ensures ∙ c.if-is_some-2.false)) at (c.member_of-own.ensures S t w) in
    rw c.from_residual.ensures (own_empty c.args.self.now.counts w c.number_at-key.ensures.value (plain (goal.at.returns-in_err-y c).Else-is_some S t w) e
    (c.in_err-y.ensures S t w))

pub returns-then-tag_at-ne15 : goal.returns-then-tag_at-ne15
returns-then-tag_at-ne15 c =
    λ S t w.
    let r = c.in_ok-y.ensures S t w in
    let e = rw (nothing _ (sym c.is_some-2.ensures ∙ c.if-is_some-2.false)) at (c.member_of-own.ensures S t w) in
    own_other c.args.self.now.counts w c.number_at-key.ensures.value (plain (goal.at.returns-then-tag_at-ne15 c).Else-is_some S t w) e r.1
    (c.tag_at.ensures.is _ _ S _ r.0 r.2) c.if-tag_at-ne15.true

pub returns : goal.returns
returns c =
    λ S t w.
    let r = c.in_ok-y.ensures S t w in
    let e = rw (nothing _ (sym c.is_some-2.ensures ∙ c.if-is_some-2.false)) at (c.member_of-own.ensures S t w) in
    rw (own_trait c.args.self.now.counts w c.number_at-key.ensures.value (plain (goal.at.returns c).Else-is_some S t w) e r.1 (c.tag_at.ensures.is _ _ S _ r.0 r.2)
    c.if-tag_at-ne15.false) (rw c.with_counts.ensures.0 at (c.member_of.ensures S r.0 (rw (c.with_counts.ensures.0, c.with_counts.ensures.1) r.2)))

-- `by_interface`. By its tests.
use mathlib.Core.Bool.{Bool}
use mathlib.Core.Path.{◌≡◌, refl, sym, ap, ◌∙◌}
use Prim.Native.Nat.{ℕ, ◌+◌, ◌≤◌}
use Rattle.std.specs.Prelude.{Some}
use borrow.Author.Tests.{not-true, not-false}
use lib.ListN.{get_or}
use Rattle.terms.specs.Term.{Term, Parts, depth}
use Rattle.terms.specs.Tree.{nums, row, tag}
use Rattle.terms.specs.Lookup.{HeldGiven, output, through, unless}
use Rattle.terms.specs.Words.Arena.{Tree, NumberHere}
use Rattle.terms.proofs.Laws.Normalising.VirtualTokenLaws.{few_kinds, few_vals}
use Rattle.terms.proofs.Laws.Normalising.ScanLaws.{number_from}
use native.Mathlib.Omega.{arith}
use Rattle.terms.specs.Words.Lent.{shown}
use Rattle.terms.proofs.Laws.General.Options.{nothing, something}
use Rattle.terms.proofs.Laws.Normalising.MemberLaws.{own_args, own_plain, member_here}
use Rattle.terms.proofs.Laws.Normalising.InterfaceLaws.{Declared, row_node, interface_tree, owner_tree, receiver_low, through_argument, through_other, through_bare, through_stranger, through_is, unless_same, unless_found}
use Rattle.terms.proofs.members.Counted.by_interface.Goals as goal
use Rattle.terms.proofs.members.Counted.by_interface.Goals.{After-number_at-2, After-output-value}

-- the declarations as they are read
declared : (c : After-number_at-2) (S : ℕ → Bool) (t : Term) (i : Parts) (owner : Term)
    → Tree (shown c.args.self.now.records.now.seen.now) c.args.self.now.records.now.heads.now c.args.self.now.records.now.kids.now S c.args.self.now.content.head c.args.self.now.content.kids t
    → c.args.self.now.records.now.seen.now.given ≡ Some c.args.given
    → HeldGiven c.args.self.now.records.now.seen.now.tokens.kinds.now c.args.self.now.records.now.seen.now.tokens.vals.now c.args.given i owner
    → Declared t i c.number_at.result c.number_at-2.result
declared c S t i owner w g h = record {
  bare = own_plain c.args.self.now.counts w (rw (nothing _ (sym c.is_some.ensures ∙ c.if-is_some.false)) at (c.child_at-argument.ensures S t w));
  here = c.number_at.ensures.value.is _ _ S _ t w;
  there = c.number_at-2.ensures.value.is c.args.self.now.records.now.heads.now c.args.self.now.records.now.kids.now S 0 _ (interface_tree _ _ _ c.args.self.now.records.now.seen.now.sight _ g i owner h _ _ S _ _ refl refl)
      ∙ ap (λ (j : Parts). get_or (nums j) 0 0) (row_node 20 i);
}

pub returns-then-is_some : goal.returns-then-is_some
returns-then-is_some c =
    λ S t i owner w k d g h.
    let r = rw (something _ (sym c.is_some.ensures ∙ c.if-is_some.true)).1 at (c.child_at-argument.ensures S t w) in
    through_argument t i owner (own_args c.args.self.now.counts w r.0 r.1)

pub returns-then-number_at : goal.returns-then-number_at
returns-then-number_at c =
    λ S t i owner w k d g h. through_other t i owner (declared (goal.at.returns-then-number_at c).After-number_at-2 S t i owner w g h) c.if-number_at.true

pub returns-in_err-y : goal.returns-in_err-y
returns-in_err-y c =
    λ S t i owner w k d g h.
    rw c.from_residual.ensures (through_bare t i owner (declared (goal.at.returns-in_err-y c).After-number_at-2 S t i owner w g h) c.if-number_at.false
    (c.in_err-y.ensures S t w))

pub returns-then-not-same_trees : goal.returns-then-not-same_trees
returns-then-not-same_trees c =
    λ S t i owner w k d g h.
    let r = c.in_ok-y.ensures S t w in
    let u = owner_tree _ _ _ c.args.self.now.records.now.seen.now.sight _ g i owner h _ _ S _ _ c.source.ensures.0 c.source.ensures.1 in
    through_stranger t i owner (declared (goal.at.returns-then-not-same_trees c).After-number_at-2 S t i owner w g h) c.if-number_at.false r.1
    (c.same_trees.ensures.no (not-true _ c.if-not-same_trees.true-raw) S S _ _ r.2 u (receiver_low t r.0 _ r.1 d))

-- where the member is, or a place past all tokens
member_place : (c : After-output-value) → NumberHere (shown c.args.self.now.records.now.seen.now) c.args.self.now.content.head (3 + c.args.self.now.members) c.unwrap_or-p.result
member_place c =
    let x = c.args.self.now.records.now.seen.now in
    let f = few_kinds _ _ _ x.sight in
    let v = few_vals _ _ _ x.sight in
    number_from (shown x) _ _ _ _ _ c.unwrap_or-p.ensures (omega arith) (omega arith) c.number_place.ensures

-- what the last test is about
unless_is : (c : After-output-value) (S : ℕ → Bool) (t : Term) (i : Parts) (owner : Term)
    → Tree (shown c.args.self.now.records.now.seen.now) c.args.self.now.records.now.heads.now c.args.self.now.records.now.kids.now S c.args.self.now.content.head c.args.self.now.content.kids t
    → tag t ≡ 18 → depth t ≤ c.args.fuel + 1
    → c.args.self.now.records.now.seen.now.given ≡ Some c.args.given
    → HeldGiven c.args.self.now.records.now.seen.now.tokens.kinds.now c.args.self.now.records.now.seen.now.tokens.vals.now c.args.given i owner
    → Declared t i c.number_at.result c.number_at-2.result
    → through i owner (row t) ≡ unless t (output owner i (get_or (shown c.args.self.now.records.now.seen.now).vals c.unwrap_or-p.result 0))
unless_is c S t i owner w k d g h y =
    let r = c.in_ok-y.ensures S t w in
    let u = owner_tree _ _ _ c.args.self.now.records.now.seen.now.sight _ g i owner h _ _ S _ _ c.source.ensures.0 c.source.ensures.1 in
    let o = c.same_trees.ensures.yes (not-false _ c.if-not-same_trees.false-raw) S S _ _ r.2 u (receiver_low t r.0 _ r.1 d) in
    through_is t i owner y c.if-number_at.false r.1 o k
    ∙ ap (λ (n : ℕ). unless t (output owner i n)) (sym ((member_place c).is _ _ S _ t w ∙ member_here c.args.self.now.counts w))

pub returns-then-same_trees : goal.returns-then-same_trees
returns-then-same_trees c =
    λ S t i owner w k d g h.
    let n = member_place (goal.at.returns-then-same_trees c).After-output-value in
    let y = declared (goal.at.returns-then-same_trees c).After-number_at-2 S t i owner w g h in
    unless_is (goal.at.returns-then-same_trees c).After-output-value S t i owner w k d g h y
    ∙ unless_same t _ (c.same_trees-2.ensures.yes c.if-same_trees.true S S _ _ w (c.output-value.ensures S i owner g h n.kind) d)

pub returns : goal.returns
returns c =
    λ S t i owner w k d g h.
    let n = member_place (goal.at.returns c).After-output-value in
    let y = declared (goal.at.returns c).After-number_at-2 S t i owner w g h in
    let f = c.output-value.ensures S i owner g h n.kind in (
      _,
      unless_is (goal.at.returns c).After-output-value S t i owner w k d g h y ∙ unless_found t _
          (c.same_trees-2.ensures.no c.if-same_trees.false S S _ _ w f d),
      f,
    )

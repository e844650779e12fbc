-- `child_at`. The i-th of the tokens that are no numbers.
use mathlib.Core.Bool.{Bool, true, false, not, true≢false}
use mathlib.Core.Path.{◌≡◌, refl, sym}
use Prim.Native.Nat.{ℕ}
use borrow.Author.Tests.{eqb-true, eqb-false}
use Rattle.std.proofs.Common.{rules, tests}
use Rattle.std.specs.Prelude.{eqb}
use Rattle.terms.proofs.Laws.Normalising.ScanLaws.{Counted, counted_start, came, walk_start, child_over, child_number, child_next, child_found}
use Rattle.terms.proofs.Laws.Normalising.NthLaws.{nth_found, nth_none}
use Rattle.terms.proofs.Records.child_at.Goals as goal

number : (k : ℕ) (b : Bool) → eqb k 0 ≡ b → not b ≡ false → k ≡ 0
number k true e h = eqb-true k 0 e
number k false e h = absurd (true≢false h)

child : (k : ℕ) (b : Bool) → eqb k 0 ≡ b → not b ≡ true → k ≡ 0 → ⊥
child k true e h = absurd (true≢false (sym h))
child k false e h = eqb-false k 0 e

pub returns-in_err-place : goal.returns-in_err-place
returns-in_err-place c =
    let o = nth_none _ (λ (k : ℕ). not (eqb k 0)) c.args.self.now.seen.now c.args.x.head c.args.i (λ p n. Counted p) _ (c.in_err-place.ensures {u = tt}).ran c.filter.ensures.closure
    (rw c.filter.ensures.source (walk_start c.walk_row.ensures.row c.walk_row.ensures.seen counted_start))
    (λ p n e q k v r s m z. child_number s m (number k _ refl z)) (λ p n e q k v r s m z. child_next s m (child k _ refl z)) (λ y b p k. search (rules, tests)) in
    λ S t w. rw c.from_residual.ensures (child_over o.4.scan _ o.2 o.5.0.0 _ _ S c.args.x.kids t w)

pub returns : goal.returns
returns c =
    let o = nth_found _ (λ (k : ℕ). not (eqb k 0)) c.args.self.now.seen.now c.args.x.head c.args.i (λ p n. Counted p) _ (c.in_ok-place.place, c.in_ok-place.field-0-1) (c.in_ok-place.ensures {u = tt}).ran
    c.filter.ensures.closure (rw c.filter.ensures.source (walk_start c.walk_row.ensures.row c.walk_row.ensures.seen counted_start))
    (λ p n e q k v r s m z. child_number s m (number k _ refl z)) (λ p n e q k v r s m z. child_next s m (child k _ refl z)) (λ y b p k. search (rules, tests)) in
    λ S t w.
    let r = child_found o.1.scan (came _ _ o.1.over _ _ _ o.2) (child _ _ refl o.3) _ _ S c.args.x.kids t w (rw o.2.0.0 at c.child_here.ensures.head) c.child_here.ensures.kids in
    (r.0, r.1, r.2)

-- `number_place`. The i-th of the tokens of kind 0.
use mathlib.Core.Path.{refl}
use Prim.Native.Nat.{ℕ}
use borrow.Author.Tests.{eqb-true, eqb-false}
use Rattle.std.proofs.Common.{rules, tests}
use Rattle.std.specs.Prelude.{eqb}
use Rattle.terms.proofs.Laws.Normalising.ScanLaws.{Wanted, came, walk_start, number_over, number_here, number_next, number_pass}
use Rattle.terms.proofs.Laws.Normalising.NthLaws.{nth_found, nth_none}
use Rattle.terms.proofs.Seen.number_place.Goals as goal

pub returns-in_err-place : goal.returns-in_err-place
returns-in_err-place c =
    let o = nth_none _ (λ (k : ℕ). eqb k 0) c.args.self.now c.args.h c.args.i (λ p. Wanted c.args.i) _ (c.in_err-place.ensures {u = tt}).ran c.filter.ensures.closure
    (rw c.filter.ensures.source (walk_start c.walk_row.ensures.row c.walk_row.ensures.seen (λ w. refl)))
    (λ p n e q k v r s m z. number_pass _ _ s m (eqb-false k 0 z)) (λ p n e q k v r s m z. number_next _ _ s m (eqb-true k 0 z) refl) (λ y b p k. search (rules, tests)) in
    rw c.from_residual.ensures (number_over _ _ o.4.scan o.5.0.0)

pub returns : goal.returns
returns c =
    let o = nth_found _ (λ (k : ℕ). eqb k 0) c.args.self.now c.args.h c.args.i (λ p. Wanted c.args.i) _ (c.in_ok-place.place, c.in_ok-place.field-0-1) (c.in_ok-place.ensures {u = tt}).ran c.filter.ensures.closure
    (rw c.filter.ensures.source (walk_start c.walk_row.ensures.row c.walk_row.ensures.seen (λ w. refl)))
    (λ p n e q k v r s m z. number_pass _ _ s m (eqb-false k 0 z)) (λ p n e q k v r s m z. number_next _ _ s m (eqb-true k 0 z) refl) (λ y b p k. search (rules, tests)) in
    rw o.2.0.0 (number_here _ _ o.1.scan (came _ _ o.1.over _ _ _ o.2) (eqb-true _ 0 o.3) refl)

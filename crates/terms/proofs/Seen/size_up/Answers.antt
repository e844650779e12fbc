-- `size_up`. The term stands in the source as it is.
use native.Mathlib.Omega.{arith}
use mathlib.Core.Bool.{false}
use mathlib.Core.List.{[]}
use mathlib.Core.Path.{refl}
use Rattle.terms.specs.Term.{Term, Held}
use Rattle.terms.specs.Words.Arena.{Tree}
use Rattle.terms.specs.Words.Lent.{shown}
use Rattle.terms.proofs.Laws.Normalising.VirtualTokenLaws.{view_held}
use Rattle.terms.proofs.Laws.Normalising.ArenaLaws.{held_tree}
use Rattle.terms.proofs.Seen.size_up.Goals as goal
use Rattle.terms.proofs.Seen.size_up.Goals.{After-source-content}

stands : (c : After-source-content) (t : Term) → Held c.args.self.now.tokens.kinds.now c.args.self.now.tokens.vals.now c.args.p t
    → Tree (shown c.args.self.now) [] [] (λ i. false) c.source-content.result.head c.source-content.result.kids t
stands c t h =
    let x = c.args.self.now in
    let e = c.source-content.ensures in
    rw (e.0, e.1) (held_tree (shown x) [] [] (λ i. false) t c.args.p (view_held _ _ _ x.sight c.args.p t h))

pub returns-in_err-end-clause-sized : goal.returns-in_err-end-clause-sized
returns-in_err-end-clause-sized c =
    rw c.from_residual.ensures
    (λ t h. c.in_err-end.ensures.shows (λ i. false) t (stands (goal.at.returns-in_err-end-clause-sized c).After-source-content t h) (λ k. absurd (omega (arith, c.source-content.ensures.1))))

pub returns-clause-sized : goal.returns-clause-sized
returns-clause-sized c =
    let e = c.source-content.ensures in (
      e.0,
      e.1,
      refl,
      refl,
      λ t h.
          let s = c.in_ok-end.ensures.shows (λ i. false) t (stands (goal.at.returns-clause-sized c).After-source-content t h) (λ k. absurd (omega (arith, e.1))) in
          let w = c.in_ok-end.ensures.kept.within in
          (omega (arith, s.0), omega (arith, w.0, w.1)),
    )

-- `satisfies_for`: the declarations and the arguments, and then the members.
use mathlib.Core.Path.{sym, ◌∙◌}
use Rattle.terms.specs.Tree.{nominal_of}
use Rattle.terms.specs.Words.SatisfyContract.{covers}
use Rattle.terms.proofs.Laws.Held.NominalLaws.{laid_bare}
use Rattle.terms.proofs.Laws.Asking.BoundLaws.{listed_pairs, bounded_apart, bounded_members}
use Rattle.terms.proofs.satisfy.satisfies_for.Goals as goal

pub returns-in_default : goal.returns-in_default
returns-in_default c =
    λ ps qs t h k ht f g.
    let x = laid_bare ps h f in
    let y = laid_bare qs k g in
    sym (bounded_apart (covers (nominal_of ps) t) _ _ (rw c.in_default.is at (c.heads.ensures.headed _ _ x.0 _ _ y.0 x.1 y.1)))

pub returns : goal.returns
returns c =
    λ ps qs t h k ht f g.
    let x = laid_bare ps h f in
    let y = laid_bare qs k g in
    let z = rw c.in-Some.is at (c.heads.ensures.headed _ _ x.0 _ _ y.0 x.1 y.1) in
    c.covered.ensures _ _ x.0 t _ y.0 _ x.1 z.1 ht (listed_pairs _ z.2 c.word-count.ensures)
    ∙ sym (bounded_members (covers (nominal_of ps) t) _ _ z.0)

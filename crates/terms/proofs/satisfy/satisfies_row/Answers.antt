-- `satisfies_row`: the declarations and the arguments, and then the members.
use Rattle.terms.specs.Comparison.{has}
use Rattle.terms.proofs.Laws.Asking.BoundLaws.{listed_pairs, bounded_apart, satisfied_row}
use Rattle.terms.proofs.satisfy.satisfies_row.Goals as goal

pub returns-in_err-x-clause-satisfied : goal.returns-in_err-x-clause-satisfied
returns-in_err-x-clause-satisfied c = λ d n rest e m more x y. rw c.from_residual.ensures (bounded_apart (has n) n m (c.in_err-x.ensures.headed d n rest e m more x y))

pub returns-clause-satisfied : goal.returns-clause-satisfied
unfolding has
returns-clause-satisfied c =
    λ d n rest e m more x y.
    let k = c.in_ok-x.ensures.headed d n rest e m more x y in
    satisfied_row _ _ n m e more k.0 _ (c.all_given.ensures.given d n.members n.values rest e more _ k.1 (listed_pairs _ k.2 c.word-count.ensures))

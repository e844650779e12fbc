-- `show_run`. Lent tokens by `show_flat`; for others, invariant: the tokens from q on are left.
use Rattle.terms.specs.Words.ShowingContract.{writes}
use Rattle.terms.specs.Words.Lent.{shown}
use Rattle.terms.proofs.Laws.Normalising.ShowLaws.{Running}
use Rattle.terms.proofs.Seen.show_run.Given as goal

abbrev pub invariant-loop-q : goal.invariant-loop-q
invariant-loop-q l = Running (shown l.self).kinds (shown l.self).vals (writes l.pass) l.initial.out l.at l.fn.run l.out l.i l.q

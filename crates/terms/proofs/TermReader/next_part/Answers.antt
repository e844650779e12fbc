-- What was read, and then cleared where it is not kept.
use Rattle.std.proofs.Common.{rules}
use Rattle.terms.specs.Words.Outcomes.{step_of}
use Rattle.terms.proofs.Laws.Format.KeepTermLaws.{term_kept}
use Rattle.terms.proofs.TermReader.next_part.Goals as goal
use Rattle.terms.proofs.TermReader.next_part.Goals.{in-Term, in-BareNominal}

pub returns-clause-areas : goal.returns-clause-areas
returns-clause-areas c = elim c.match-wanted.branch [
  | in-Term w ↦
      let r = w.read_term-outcome in
      let d = rw (w.outcome-is, w.self-is, w.kinds-is, w.vals-is) at c.settle.ensures.cleared in
      rw w.in-Term.is (term_kept _ _ c.args.self.now.place _ _ (step_of r.result r.new.place) _ r.ensures d)
  | in-BareNominal w ↦ search rules
]

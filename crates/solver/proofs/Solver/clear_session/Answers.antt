-- `Solver::clear_session`. What is not in use is 0 already.
use Rattle.solver.proofs.Laws.Table.SessionsLaws.{used_cleared, unused_zero}
use Rattle.solver.proofs.Solver.clear_session.Goals as goal

pub returns : goal.returns
returns c =
    let a = c.args in
    let H = c.requires.1 in
    record {
      kinds = used_cleared _ a.a.now _ c.clear_words.auto.words H.kinds c.clear_words.ensures;
      vals = used_cleared _ a.b.now _ c.clear_words-2.auto.words H.vals c.clear_words-2.ensures;
      table = used_cleared _ a.tables.now _ c.clear_words-3.auto.words (unused_zero a.self.variables a.tables.now H.represents.unused H.blank) c.clear_words-3.ensures;
    }

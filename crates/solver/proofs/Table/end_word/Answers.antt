-- `Table::end_word`. By the flag.
use mathlib.Core.Path.{◌∙◌}
use Rattle.solver.proofs.Laws.Table.RequestWordLaws.{word_new}
use Rattle.solver.proofs.Laws.Table.MethodLaws.{end_never, end_request}
use Rattle.solver.proofs.Table.end_word.Goals as goal

pub returns-in-Deferred : goal.returns-in-Deferred
returns-in-Deferred c =
    let a = c.args in
    end_never a.which a.self.now.variables a.self.now.words.now a.w c.in-Deferred.is

pub returns-in-Requested : goal.returns-in-Requested
returns-in-Requested c =
    let a = c.args in
    word_new _ _ c.new.ensures ∙ end_request a.which a.self.now.variables a.self.now.words.now a.w c.in-Requested.is

-- `Table::default_word`. By the flag, and by the word of the deferral.
use mathlib.Core.Path.{◌∙◌}
use Rattle.solver.proofs.Laws.Table.RequestWordLaws.{word_new}
use Rattle.solver.proofs.Laws.Table.MethodLaws.{default_none, default_never, default_request}
use Rattle.solver.proofs.Table.default_word.Goals as goal

pub returns-then-self-v-eq0 : goal.returns-then-self-v-eq0
returns-then-self-v-eq0 c =
    let a = c.args in
    default_none a.which a.self.now.variables a.self.now.words.now a.v c.in-Deferred.is c.if-self-v-eq0.true

pub returns-else-self-v-eq0 : goal.returns-else-self-v-eq0
returns-else-self-v-eq0 c =
    let a = c.args in
    word_new _ _ c.new-in-Deferred.ensures ∙ default_never a.which a.self.now.variables a.self.now.words.now a.v c.in-Deferred.is c.if-self-v-eq0.false

pub returns-in-Requested : goal.returns-in-Requested
returns-in-Requested c =
    let a = c.args in
    word_new _ _ c.new.ensures ∙ default_request a.which a.self.now.variables a.self.now.words.now a.v c.in-Requested.is

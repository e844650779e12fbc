-- `tag_of`: by the kind.
use Rattle.terms.proofs.Laws.Asking.QuestionLaws.{tag_few, tag_node}
use Rattle.terms.proofs.questions.tag_of.Goals as goal

pub returns-then-k-lt2 : goal.returns-then-k-lt2
returns-then-k-lt2 c = tag_few _ c.if-k-lt2.true

pub returns : goal.returns
returns c = tag_node _ c.if-k-lt2.false

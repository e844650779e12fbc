-- `write_empty_answer`: an opening, and nothing after it.
use Rattle.sheet.proofs.Laws.Answering.FramingLaws.{no_value}
use Rattle.sheet.proofs.framing.write_empty_answer.Goals as goal

pub returns : goal.returns
returns c =
    let a = c.args in
    no_value a.out.now a.to _ _ c.begin_answer.ensures

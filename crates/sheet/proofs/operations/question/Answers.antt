-- `question`: as it is asked, or its contrary.
use mathlib.Core.List.{[]}
use Rattle.sheet.proofs.Laws.Answering.AnswerLaws.{held_in, no_parameters, contrary, plainly}
use Rattle.sheet.proofs.Laws.Answering.OperationFieldLaws.{questions}
use Rattle.sheet.proofs.operations.question.Goals as goal

pub ask-r-requires : goal.ask-r-requires
ask-r-requires c =
    let x = ((questions _ _ _ _ _).asked c.requires.1).1 in
    record { place = held_in _ _ _ _ x.held; term = record { term = x.term; held = x.held; formed = x.formed }; parameters = record { list = []; next = _; read = no_parameters c.none.result c.none.ensures } }

pub returns-in-IsConcrete : goal.returns-in-IsConcrete
returns-in-IsConcrete c =
    λ t h f.
    contrary c.args.q t _ c.in-IsConcrete.is (c.ask-r.ensures [] _ (no_parameters c.none.result c.none.ensures) t h f)

pub returns-in_default : goal.returns-in_default
returns-in_default c =
    λ t h f.
    plainly c.args.q t _ c.in_default.not-IsConcrete (c.ask-r.ensures [] _ (no_parameters c.none.result c.none.ensures) t h f)

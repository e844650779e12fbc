-- `settled`: sized already; then written.
use mathlib.Core.Path.{ap, ◌∙◌}
use native.Mathlib.Omega.{arith}
use Rattle.std.specs.Prelude.{Err}
use Rattle.solver.specs.Terms.Term.{bytes}
use Rattle.sheet.proofs.Laws.Answering.AnswerLaws.{frame_as, answers_many, answers_long, answers_done, settled_term}
use Rattle.sheet.proofs.Laws.Answering.FramingLaws.{begun_room, value_in, value_over}
use Rattle.sheet.proofs.operations.settled.Goals as goal

pub returns-in_default-clause-says : goal.returns-in_default-clause-says
returns-in_default-clause-says c =
    let a = c.args in
    λ o x.
    let y = answers_done a.tokens.now.kinds.now a.tokens.now.vals.now a.heads.now a.kids.now a.out.now a.to a.r o x _ c.in-Ok.is in
    frame_as _ _ (settled_term o y.0) _ _ _ _ (value_over (bytes o.term) _ y.1 a.out.now a.to _ (rw c.in_default.is at c.begin_answer.ensures))

pub returns-in-Err-TooMany-clause-says : goal.returns-in-Err-TooMany-clause-says
returns-in-Err-TooMany-clause-says c =
    let a = c.args in
    λ o x. frame_as _ _ (answers_many a.tokens.now.kinds.now a.tokens.now.vals.now a.heads.now a.kids.now a.out.now a.to a.r o x (c.in-Err-TooMany.is ∙ ap Err (rw c.in-Err-TooMany.is at c.in-Err-TooMany.field-0-is))) _ _ _ _ c.write_order_refusal.ensures

pub returns-in-Err-TooLong-clause-says : goal.returns-in-Err-TooLong-clause-says
returns-in-Err-TooLong-clause-says c =
    let a = c.args in
    λ o x. answers_long a.tokens.now.kinds.now a.tokens.now.vals.now a.heads.now a.kids.now a.out.now a.to a.r o x (c.in-Err-TooLong.is ∙ ap Err (rw c.in-Err-TooLong.is at c.in-Err-TooLong.field-0-is))

pub returns-in-Some-clause-says : goal.returns-in-Some-clause-says
returns-in-Some-clause-says c =
    let a = c.args in
    let b = rw c.in-Some.is at c.begin_answer.ensures in
    let m = begun_room _ _ a.to _ _ b in
    λ o x.
    let y = answers_done a.tokens.now.kinds.now a.tokens.now.vals.now a.heads.now a.kids.now a.out.now a.to a.r o x _ c.in-Ok.is in
    let z = c.write_normalised.ensures.wrote o.term y.2 (omega (arith, m, y.1)) in
    frame_as _ _ (settled_term o y.0) _ _ _ _ (value_in (bytes o.term) _ y.1 a.out.now a.to _ _ b _ _ z.0 z.1)

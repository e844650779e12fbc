-- `normalised`: normalised by the rules, then settled.
use mathlib.Core.Path.{sym, ap}
use native.Mathlib.Omega.{arith}
use lib.Seq.{length-take-le}
use Rattle.sheet.specs.Operations.{settled}
use Rattle.solver.specs.Terms.Lookup.{by_patterns}
use Rattle.solver.specs.Terms.Normal.{normalise, levels, visits}
use Rattle.solver.proofs.Terms.NormalizeLaws.{rules_normalize}
use Rattle.sheet.proofs.Laws.Answering.AnswerLaws.{held_in, frame_as, frame_from, answers_from}
use Rattle.sheet.proofs.Laws.Answering.OperationFieldLaws.{ruling}
use Rattle.sheet.proofs.operations.normalised.Goals as goal

pub overflow_cast-p : goal.overflow_cast-p
overflow_cast-p c =
    let x = ((ruling _ _ _ _ _).asked c.requires.asks).1.normalises in
    omega (arith, held_in _ _ _ _ x.term, c.args.posed.now.few)

pub slice_bounds-normalise-end : goal.slice_bounds-normalise-end
slice_bounds-normalise-end c = sym (length-take-le _ _ ((ruling _ _ _ _ _).asked c.requires.asks).1.enough)

pub normalise-r-requires : goal.normalise-r-requires
normalise-r-requires c =
    let f = ((ruling _ _ _ _ _).asked c.requires.asks).1 in
    let x = f.normalises in record {
      lends = c.requires.lends;
      place = c.requires.room.inside;
      terms = record { term = f.term; patterns = f.patterns; held = x.term; ruled = x.rules };
    }

pub settled-requires-clause-answers : goal.settled-requires-clause-answers
settled-requires-clause-answers c =
    let e = c.normalise-r.ensures in
    let a = c.args in
    let f = ((ruling _ _ _ _ _).asked c.requires.asks).1 in
    let x = f.normalises in (
      normalise levels visits (by_patterns f.patterns) f.term,
      answers_from _ _ _ _ a.out.now _ a.to _ c.normalise-r.result e.out (e.answers f.term f.patterns x.term x.rules),
    )

pub returns : goal.returns
returns c =
    let a = c.args in
    let e = c.normalise-r.ensures in
    let d = c.settled.ensures in record {
      clear = d.clear _ _ e.leaves;
      says =
          (ruling _ _ _ _ _).replied _ (λ w y.
          let x = y.normalises in
          rw y.answer (frame_as _ _ (ap settled (rules_normalize y.patterns x.rules_formed y.term x.term_formed)) _ _ _ _
          (frame_from _ _ a.out.now e.out a.to _ _ (d.says _ (answers_from _ _ _ _ a.out.now _ a.to (normalise levels visits (by_patterns y.patterns) y.term) c.normalise-r.result e.out (e.answers y.term y.patterns x.term x.rules))))));
    }

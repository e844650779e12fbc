-- `associated`: normalised through the interface, then settled.
use mathlib.Core.Path.{ap}
use native.Mathlib.Omega.{arith}
use Rattle.sheet.specs.Operations.{settled}
use Rattle.solver.specs.Terms.Lookup.{through}
use Rattle.solver.specs.Terms.Normal.{normalise, levels, visits}
use Rattle.solver.proofs.Terms.NormalizeLaws.{interface_normalize}
use Rattle.sheet.proofs.Laws.Answering.AnswerLaws.{held_in, frame_as, frame_from, answers_from}
use Rattle.sheet.proofs.Laws.Answering.OperationFieldLaws.{associated}
use Rattle.sheet.proofs.operations.associated.Goals as goal

pub overflow_cast-p : goal.overflow_cast-p
overflow_cast-p c =
    let x = ((associated _ _ _ _ _).asked c.requires.asks.1).1.associates in
    omega (arith, held_in _ _ _ _ x.term, c.args.posed.now.few)

pub overflow_cast-i : goal.overflow_cast-i
overflow_cast-i c =
    let x = ((associated _ _ _ _ _).asked c.requires.asks.1).1.associates in
    omega (arith, held_in _ _ _ _ x.interface, c.args.posed.now.few)

pub overflow_cast-o : goal.overflow_cast-o
overflow_cast-o c =
    let x = ((associated _ _ _ _ _).asked c.requires.asks.1).1.associates in
    omega (arith, held_in _ _ _ _ x.owns, c.args.posed.now.few)

pub with_associated_types-r-requires : goal.with_associated_types-r-requires
with_associated_types-r-requires c =
    let f = ((associated _ _ _ _ _).asked c.requires.asks.1).1 in
    let x = f.associates in record {
      lends = c.requires.lends;
      place = c.requires.room.inside;
      terms = record { term = f.term; row = f.row; owner = f.owner; held = x.term; interface = x.interface; owns = x.owns };
    }

pub settled-requires-clause-answers : goal.settled-requires-clause-answers
settled-requires-clause-answers c =
    let e = c.with_associated_types-r.ensures in
    let a = c.args in
    let f = ((associated _ _ _ _ _).asked c.requires.asks.1).1 in
    let x = f.associates in (
      normalise levels visits (through f.row f.owner) f.term,
      answers_from _ _ _ _ a.out.now _ a.to _ c.with_associated_types-r.result e.out (e.answers f.term f.row f.owner x.term x.interface x.owns),
    )

pub returns : goal.returns
returns c =
    let a = c.args in
    let e = c.with_associated_types-r.ensures in
    let d = c.settled.ensures in record {
      clear = d.clear _ _ e.leaves;
      says = λ ws.
          (associated _ _ _ ws _).replied _ (λ w y.
          let x = y.associates in
          rw y.answer (frame_as _ _ (ap settled (interface_normalize y.row y.owner x.interface_fit x.owner_formed y.term x.term_formed)) _ _ _ _
          (frame_from _ _ a.out.now e.out a.to _ _ (d.says _ (answers_from _ _ _ _ a.out.now _ a.to (normalise levels visits (through y.row y.owner) y.term) c.with_associated_types-r.result e.out (e.answers y.term y.row y.owner x.term x.interface x.owns))))));
    }

-- An id that is issued, and a token for it.
use Rattle.terms.proofs.Laws.General.Options.{handed_on}
use Rattle.terms.proofs.Laws.Format.ValueLaws.{variable_yes, variable_high, variable_no}
use Rattle.terms.proofs.values.read_variable.Goals as goal

pub returns-in_err-v : goal.returns-in_err-v
returns-in_err-v c = rw (handed_on _ _ c.from_residual.ensures.1) (variable_no _ c.args.place.now _ c.args.issued c.in_err-v.ensures.found)

pub returns-then-issued-v : goal.returns-then-issued-v
returns-then-issued-v c = variable_high _ c.args.place.now _ c.in_ok-v.ensures.found c.if-issued-v.true

pub returns : goal.returns
returns c =
    let w = c.in_ok-v.ensures.within in
    rw c.keep_number.ensures.place (variable_yes c.in_ok-v.ensures.found c.if-issued-v.false w.1 w.2 c.keep_number.ensures.areas)

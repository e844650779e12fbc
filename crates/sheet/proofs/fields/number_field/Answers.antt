-- `number_field`: the spot of a number.
use mathlib.Core.Path.{refl}
use Rattle.sheet.specs.Fields.{field}
use Rattle.solver.proofs.Terms.Options.{handed_on}
use Rattle.sheet.proofs.Laws.Reading.PartLaws.{value_yes, value_no}
use Rattle.sheet.proofs.fields.number_field.Goals as goal

pub returns-in_err-value : goal.returns-in_err-value
unfolding field
returns-in_err-value c = rw (handed_on _ _ c.from_residual.ensures.1) (value_no c.args.s.now c.args.place.now c.requires 4294967295 _ c.in_err-value.ensures.is)

pub returns : goal.returns
unfolding field
returns c =
    let x = c.in_ok-value.ensures in
    rw (c.number_spot.ensures, x.place) (value_yes c.args.s.now c.args.place.now c.requires 4294967295 _ _ _ x.is refl)

-- `parameters_field`: a count, and so many that are passed.
use mathlib.Core.Path.{refl}
use Rattle.solver.proofs.Terms.Options.{handed_on}
use Rattle.sheet.proofs.Laws.Reading.PartLaws.{moved_again, read_moved, parameters_count, parameters_no, parameters_yes}
use Rattle.sheet.proofs.fields.parameters_field.Goals as goal

pub returns-in_err-value : goal.returns-in_err-value
returns-in_err-value c = rw (handed_on _ _ c.from_residual.ensures.1) (parameters_count c.args.s.now c.args.place.now c.requires _ c.in_err-value.ensures.is)

pub returns-in_err-place : goal.returns-in_err-place
returns-in_err-place c =
    rw (handed_on _ _ c.from_residual-in_err-place.ensures.1)
    (parameters_no c.args.s.now c.args.place.now c.requires _ _ c.in_ok-value.ensures.is _ c.in_err-place.ensures)

pub returns : goal.returns
returns c =
    let x = c.in_ok-value.ensures in
    read_moved _ _ _ _ _ _ (moved_again c.args.place.now c.next_number.new.place x.place _) (parameters_yes c.args.s.now c.args.place.now c.requires _ _ x.is _ _ _ c.in_ok-place.ensures refl refl)

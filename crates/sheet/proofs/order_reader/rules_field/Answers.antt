-- `rules_field`: the spot of the rules after their count.
use mathlib.Core.Path.{refl}
use Rattle.solver.proofs.Terms.Options.{handed_on}
use Rattle.solver.specs.Terms.Tokens.{area}
use Rattle.sheet.specs.Words.FieldLayout.{sort_of}
use Rattle.sheet.proofs.Laws.Reading.PartLaws.{ample_after}
use Rattle.sheet.proofs.Laws.Reading.OrderLaws.{rules_refused, rules_field, rules_none}
use Rattle.sheet.proofs.order_reader.rules_field.Goals as goal

pub returns-in_err-value : goal.returns-in_err-value
unfolding sort_of
returns-in_err-value c =
    let a = c.args in
    let d = area a.kinds.now a.vals.now in
    rw (handed_on _ _ c.from_residual.ensures.1) (rules_refused a.s.now a.rules.now a.issued a.place.now d d _ c.in_err-value.ensures.is, refl)

pub read_rules-requires : goal.read_rules-requires
read_rules-requires c =
    let a = c.args in
    let x = c.in_ok-value.ensures in
    record {
      ample = ample_after a.s.now a.place.now _ _ x c.requires.ample;
      free = rw x.place c.requires.free;
    }

pub returns-in_err-read_rules : goal.returns-in_err-read_rules
unfolding sort_of
returns-in_err-read_rules c =
    let a = c.args in
    rw (handed_on _ _ c.from_residual-in_err-read_rules.ensures.1)
    (rules_none a.s.now c.read_rules.new.rules a.issued a.place.now (area a.kinds.now a.vals.now) (area c.read_rules.new.kinds c.read_rules.new.vals) _ _ c.in_ok-value.ensures _ c.in_err-read_rules.ensures)

pub returns : goal.returns
unfolding sort_of
returns c =
    let a = c.args in
    rules_field a.s.now c.read_rules.new.rules a.issued a.place.now (area a.kinds.now a.vals.now) (area c.read_rules.new.kinds c.read_rules.new.vals) _ _ c.in_ok-value.ensures _ _ refl c.in_ok-read_rules.ensures

-- `read_layout`. Invariant: what was read so far is stored, and the rest of the layout gives the rest (`Through`); without rules those stored stay.
use mathlib.Core.Path.{◌≡◌}
use Rattle.solver.specs.Terms.Tokens.{area}
use Rattle.sheet.specs.Words.FieldLayout.{Plains, sorts_by}
use Rattle.sheet.proofs.Laws.Reading.FieldLoopLaws.{Through}
use Rattle.sheet.proofs.layout.read_layout.Given as goal

abbrev pub invariant-loop-i : goal.invariant-loop-i
invariant-loop-i g l = record {
  through : Through l.s l.rules l.issued (sorts_by g.R.FieldReader.read_as l.sorts) l.initial.place (area l.initial.kinds l.initial.vals) (area l.kinds l.vals) l.i l.o l.place;
  same : Plains (sorts_by g.R.FieldReader.read_as l.sorts) → l.rules ≡ l.initial.rules;
}

-- `read_rules`. Invariant: what was read so far is stored, its records too, and so many more rules give the rest (`RulesThrough`).
use Prim.Native.Nat.{◌-◌}
use Rattle.solver.specs.Terms.Tokens.{area}
use Rattle.sheet.proofs.Laws.Reading.RuleReading.{RulesThrough}
use Rattle.sheet.proofs.rules.read_rules.Given as goal

abbrev pub invariant-loop-r : goal.invariant-loop-r
invariant-loop-r l =
    RulesThrough l.s l.issued l.count l.initial.place (area l.initial.kinds l.initial.vals) (area l.kinds l.vals) l.initial.rules l.rules l.r l.place

abbrev pub decreases-loop-r : goal.decreases-loop-r
decreases-loop-r l = l.count - l.r

use mathlib.Core.Path.{ap₂, ◌∙◌}
use mathlib.Core.List.{List}
use lib.ListN.{set}
use native.Mathlib.Omega.{arith}
use Rattle.solver.specs.Terms.Tokens.{area}
use Rattle.solver.specs.TermTypes.{Rule}
use Rattle.solver.proofs.Terms.Options.{handed_on}
use Rattle.solver.proofs.Terms.Shortest.{octets}
use Rattle.sheet.specs.Words.FieldLayout.{sort_of, plain_of, Plain, Plains, Leading}
use Rattle.sheet.proofs.Laws.Reading.RuleReading.{RuleHere, rule_here, rule_refused}
use Rattle.sheet.proofs.rules.read_rule.Goals as goal
use Rattle.sheet.proofs.rules.read_rule.Goals.{In_ok-o}

-- the rule that was read
here : (c : In_ok-o) → RuleHere c.args.s.now c.args.issued c.args.place.now (area c.args.kinds.now c.args.vals.now) (area c.read_layout.new.kinds c.read_layout.new.vals) c.in_ok-o.o c.read_layout.new.place
unfolding plain_of sort_of
here c = rule_here c.read_layout.new.rules (octets _ (λ i. omega (arith, c.type_inv.s i))) c.requires.ample c.in_ok-o.ensures.done

pub read_layout-requires-clause-layout : goal.read_layout-requires-clause-layout
unfolding plain_of sort_of Plain Plains Leading
read_layout-requires-clause-layout c = record { few = omega arith; leading = (tt, (tt, (tt, (tt, tt)))) }

pub returns-in_err-o : goal.returns-in_err-o
unfolding plain_of sort_of
returns-in_err-o c = rw (handed_on _ _ c.from_residual.ensures.1) (rule_refused _ _ _ c.in_err-o.ensures.done.0, c.in_err-o.ensures.done.1)

pub keep_rule-requires : goal.keep_rule-requires
keep_rule-requires c = (here (goal.at.keep_rule-requires c).In_ok-o).fits

pub returns : goal.returns
unfolding plain_of sort_of Plain Plains
returns c =
    let x = here (goal.at.returns c).In_ok-o in
    let same = c.in_ok-o.ensures.same (tt, (tt, (tt, (tt, (tt, tt))))) in
    (x.rule, x.found, x.stored, x.inside, c.keep_rule.ensures ∙ ap₂ (λ (ws : List Rule) (z : Rule). set ws c.args.r z) same x.is)

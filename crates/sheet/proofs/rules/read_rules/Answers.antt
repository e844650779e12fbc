use mathlib.Core.Path.{refl}
use native.Mathlib.Omega.{arith}
use Rattle.solver.specs.Terms.Tokens.{area}
use Rattle.solver.proofs.Terms.Shortest.{octets}
use Rattle.sheet.proofs.Laws.Reading.RuleReading.{rules_start, rules_more, rules_stop, rules_undo, rules_end}
use Rattle.sheet.proofs.rules.read_rules.Goals as goal

pub loop-r-init : goal.loop-r-init
loop-r-init c = rules_start c.args.place.now (area c.args.kinds.now c.args.vals.now) c.requires.free c.requires.ample

pub returns-in-Err : goal.returns-in-Err
returns-in-Err c =
    let oct = octets c.args.s.now (λ i. omega (arith, c.type_inv.s i)) in
    let l = c.loop-r in
    let g = area c.read_rule.new.kinds c.read_rule.new.vals in
    let y = rw c.in-Err.is at c.read_rule.ensures in
    (rules_stop oct l.invariant c.loop-r-test.true _ g c.read_rule.new.rules y, rules_undo oct l.invariant g _ _ c.requires.free y.1 refl c.clear_tokens.ensures)

pub loop-r-preserved : goal.loop-r-preserved
loop-r-preserved c =
    rules_more (octets _ (λ i. omega (arith, c.type_inv.s i))) c.loop-r.invariant c.loop-r-test.true _ (area c.read_rule.new.kinds c.read_rule.new.vals) c.read_rule.new.rules (rw c.in_default.is at c.read_rule.ensures)

pub returns : goal.returns
returns c = rules_end (octets _ (λ i. omega (arith, c.type_inv.s i))) c.loop-r.invariant c.loop-r-test.false

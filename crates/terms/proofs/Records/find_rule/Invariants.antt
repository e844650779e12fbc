-- `find_rule`. The outer invariant: no rule passed is the row's. The inner: what is left of the row decides, with the arguments that are left.
use Prim.Native.Nat.{◌-◌, ◌≤◌}
use lib.ListN.{length}
use Rattle.terms.proofs.Laws.Normalising.RuleLaws.{Arguing, Searching, rule_at}
use Rattle.terms.proofs.Records.find_rule.Given as goal

abbrev pub invariant-loop-m : goal.invariant-loop-m
invariant-loop-m l = Arguing l.self.seen.now.tokens.kinds.now l.self.seen.now.tokens.vals.now l.self.seen.now.given l.self.heads.now l.self.kids.now l.s l.fuel (rule_at l.rules l.r) l.m l.a l.left

abbrev pub decreases-loop-m : goal.decreases-loop-m
decreases-loop-m l = l.left

abbrev pub invariant-rules : goal.invariant-rules
invariant-rules l = Searching l.self.seen.now.tokens.kinds.now l.self.seen.now.tokens.vals.now l.rules l.self.seen.now.given l.self.heads.now l.self.kids.now l.s l.fuel l.r × (l.r ≤ length l.rules)

abbrev pub decreases-rules : goal.decreases-rules
decreases-rules l = length l.rules - l.r

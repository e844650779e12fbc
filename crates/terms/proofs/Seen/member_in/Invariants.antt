-- `member_in`. Invariant: what is left of the row, after the last two numbers, has the row's last number but one.
use mathlib.Core.Path.{◌≡◌}
use Rattle.terms.specs.Words.VirtualTokens.{view}
use Rattle.terms.proofs.Laws.Normalising.RuleLaws.{Calling}
use Rattle.terms.proofs.Seen.member_in.Given as goal

abbrev pub invariant-loop-y : goal.invariant-loop-y
invariant-loop-y l = Calling (view l.self.tokens.kinds.now l.self.tokens.vals.now l.fn.self.given) l.fn.x l.y-iterator.at l.before l.last × (l.y-iterator.seen ≡ l.self) × (l.y-iterator.end ≡ l.fn.x.end)

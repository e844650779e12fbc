-- `behind_terms`. The loop's invariant: what is left of the terms ends where all of them do.
use Prim.Native.Nat.{◌+◌, ◌≤◌, ◌-◌}
use Rattle.terms.specs.Term.{Parts}
use Rattle.terms.specs.Words.Held.{HeldParts}
use Rattle.terms.specs.Shape.{Shape, many_terms}
use Rattle.terms.specs.Formed.{Fit}
use Rattle.terms.specs.Words.RecoverContract.{upto}
use Rattle.terms.proofs.Laws.Replacing.RecoverLaws.{Behind}
use Rattle.terms.proofs.recover.behind_terms.Given as goal

abbrev pub invariant-loop : goal.invariant-loop
invariant-loop l =
    (l.a.from ≤ l.p) × (l.p ≤ l.a.end) × ((s : Shape) (ps : Parts) → HeldParts l.tokens.kinds.now l.tokens.vals.now l.a.from l.a.end ps → Fit (many_terms l.n s) ps → Behind l.tokens.kinds.now l.tokens.vals.now l.p l.a.end (l.n - l.counter) s (l.a.from + upto l.n ps))

-- `alike_rows`. The loop's invariant: what is left of the rows is alike as the whole rows are.
use mathlib.Core.Path.{◌≡◌}
use Rattle.terms.specs.Term.{Parts}
use Rattle.terms.specs.Words.Held.{HeldParts}
use Rattle.terms.specs.Words.RecoverContract.{alike}
use Rattle.terms.proofs.Laws.Replacing.RecoverLaws.{Alike}
use Rattle.terms.proofs.recover.alike_rows.Given as goal

abbrev pub invariant-loop-step : goal.invariant-loop-step
invariant-loop-step l =
    (l.step-iterator.tokens ≡ l.tokens) × ((ps qs : Parts) → HeldParts l.tokens.kinds.now l.tokens.vals.now l.fn.a.from l.fn.a.end ps → HeldParts l.tokens.kinds.now l.tokens.vals.now l.fn.b.from l.fn.b.end qs
    → Alike l.tokens.kinds.now l.tokens.vals.now l.step-iterator.a.from l.step-iterator.a.end l.step-iterator.b.from l.step-iterator.b.end (alike ps qs))

use Prim.Native.Nat.{◌+◌, ◌*◌, ◌-◌, ◌≤◌, ◌<◌, ℕ}
use Rattle.terms.proofs.Laws.Replacing.RecoverLaws.{Recovering}
use Rattle.terms.specs.Formed.{Formed}
use Rattle.terms.specs.Recovery.{recover_row}
use Rattle.terms.specs.Term.{Parts, part_bytes, Subs}
use Rattle.terms.specs.Words.Held.{HeldParts}
use Rattle.terms.specs.Words.RecoverContract.{upto}
use lib.ListN.{length}
use mathlib.Core.Path.{◌≡◌}
use Rattle.terms.proofs.recover.+recovering.Given as goal

abbrev pub decreases-recover_row : goal.decreases-recover_row
decreases-recover_row l = 2 * (l.a.end - l.a.from) + 1

abbrev pub decreases-recover_term : goal.decreases-recover_term
decreases-recover_term l = 2 * (l.a.end - l.a.from)

abbrev pub invariant-recover_row-loop-step : goal.invariant-recover_row-loop-step
invariant-recover_row-loop-step l =
    ((l.fn.a.from ≤ l.rest.from) × (l.rest.from ≤ l.fn.a.end) × (l.rest.end ≡ l.fn.a.end) × (l.step-iterator.b.from < l.step-iterator.b.end → l.step-iterator.a.from ≡ l.rest.from))
    × ((l.step-iterator.a.end ≡ l.fn.stop) × (l.step-iterator.b.end ≡ l.fn.b.end) × (l.fn.b.from ≤ l.step-iterator.b.from) × (l.step-iterator.b.from ≤ l.step-iterator.b.end) × (l.step-iterator.tokens ≡ l.tokens))
    × ((l.fn.at ≤ l.to) × (l.to + 6 * l.fn.a.from + 6 * l.fn.b.from ≤ l.fn.at + 6 * l.rest.from + 6 * l.step-iterator.b.from) × (length l.out ≡ length l.initial.out))
    × ((k : ℕ) (ps qs : Parts) → HeldParts l.tokens.kinds.now l.tokens.vals.now l.fn.a.from l.fn.a.end ps → HeldParts l.tokens.kinds.now l.tokens.vals.now l.fn.b.from l.fn.b.end qs → Subs Formed ps → Subs Formed qs → l.fn.stop ≡ l.fn.a.from + upto k ps
    → Recovering l.tokens.kinds.now l.tokens.vals.now l.rest.from l.fn.a.end l.step-iterator.a.end l.step-iterator.b.from l.step-iterator.b.end l.initial.out l.out l.fn.at l.to (part_bytes (recover_row ps k qs)))

-- `key_at`. Invariant: none of the k numbers that were passed is the key.
use Prim.Native.Nat.{◌≤◌}
use Rattle.terms.proofs.Laws.Normalising.ScanLaws.{Walking, Passed}
use Rattle.terms.proofs.Seen.key_at.Given as goal

abbrev pub invariant-loop-y : goal.invariant-loop-y
invariant-loop-y l = Walking l.self l.h l.y-iterator (Passed l.x l.k) × (l.k ≤ l.y-iterator.at)

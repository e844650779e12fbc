-- `find_record`. Invariant: the records that are left, with what was found, give the answer.
use mathlib.Core.Path.{◌≡◌}
use Prim.Native.Nat.{◌-◌}
use Rattle.terms.specs.Words.FindContract.{last_at}
use Rattle.terms.proofs.find.find_record.Given as goal
use Rattle.std.specs.Prelude.{None}

abbrev pub invariant-loop-i : goal.invariant-loop-i
invariant-loop-i l =
    last_at l.tokens.kinds.now l.tokens.vals.now l.width l.wanted.owner l.wanted.position (l.row.end - l.i) l.i l.row.end l.best ≡ last_at l.tokens.kinds.now l.tokens.vals.now l.width l.wanted.owner l.wanted.position (l.row.end - l.row.from) l.row.from l.row.end None

abbrev pub decreases-loop-i : goal.decreases-loop-i
decreases-loop-i l = l.row.end - l.i

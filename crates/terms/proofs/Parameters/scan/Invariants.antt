-- The parameters that are left, with what was found, give the answer.
use Rattle.std.proofs.Common.{◌≡◌, ◌-◌, None}
use Rattle.terms.specs.Parameters.{parameters, listed, passed}
use Rattle.terms.proofs.Parameters.scan.Given as goal

abbrev pub invariant-loop-n : goal.invariant-loop-n
invariant-loop-n l = passed l.n l.best (parameters l.self.bytes.now (l.self.count - l.n) l.i) l.wanted ≡ passed 0 None (listed l.self) l.wanted

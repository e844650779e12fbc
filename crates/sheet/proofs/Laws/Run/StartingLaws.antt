-- A fresh session laid in the four areas.
use mathlib.Core.Path.{◌≡◌}
use mathlib.Core.List.{List}
use Prim.Native.Nat.{ℕ}
use native.Mathlib.Omega.{arith}
use Rattle.solver.specs.declared.Limits.{Limits}
use Rattle.solver.specs.declared.Solver.{Solver}
use Rattle.solver.specs.Session.{fresh}
use Rattle.solver.specs.Words.SessionsContract.{Holds, counters}
use Rattle.solver.specs.Words.Worklist.{Zero}
use Rattle.sheet.specs.Words.SessionInAreas.{areas, RepresentsInAreas}

-- the records and d were cleared, and the solver has a fresh session in a, b and the table
pub lays_fresh : (limits : Limits) (x : Solver) (a b r t d : List ℕ) → x ≡ counters limits → Zero r → Zero d → Holds (counters limits) a b t fresh
    → RepresentsInAreas x (areas a b r t d) fresh
lays_fresh limits x a b r t d e v w H =
    rw e
    (record {
      represents = H.represents;
      kinds = H.kinds;
      vals = H.vals;
      front = v;
      blank = H.blank;
      work = w;
      few = omega arith;
    })

-- A check that binds nothing hands the solver on as it was, so a pair, strict or not, that makes no binding leaves the session as it was.
use mathlib.Core.Path.{◌≡◌, refl, ap, ap₂, ◌∙◌}
use mathlib.Core.Bool.{Bool, true, false, not, ◌&&◌, ◌||◌}
use mathlib.Core.List.{List, [], ◌∷◌}
use mathlib.Core.Option.{Option, none, some}
use Prim.Native.Nat.{ℕ, zero, suc, ◌+◌, ◌≤◌}
use native.Mathlib.Nat.{add-zero}
use native.Mathlib.Omega.{arith}
use borrow.Author.Tests.{eq-eqb}
use Rattle.terms.specs.Term.{Term, var, node, size}
use Rattle.terms.specs.Tree.{same}
use Rattle.unify.specs.Solver.{Out}
use Rattle.solver.specs.Shapes.{Notion, notion, same_shape}
use Rattle.solver.specs.Constrain.{Solver, Pair, Requests, resolved, top, recovery, recovers, occurs, projects, admit, bind₁, bind₀, bind, decompose, differ, match, check_pair, settles, constrain}
use Rattle.solver.specs.Session.{Limits, Session, keep}
use Rattle.solver.specs.Orders.{pair, known, crowded, keeps, unless, solver_of, posing, order}

-- the revision does not fall, and where it is the same the solver is
abbrev pub Quiet : Solver → Solver → Type 0
Quiet z y = (z.revision ≤ y.revision) × (y.revision ≡ z.revision → y ≡ z)

still : (z : Solver) → Quiet z z
still z = (omega arith, λ e. refl)

quiet_trans : (x y z : Solver) → Quiet x y → Quiet y z → Quiet x z
quiet_trans x y z a b =
    let p = a.0 in
    let q = b.0 in
    (omega arith, λ e. b.1 (omega arith) ∙ a.1 (omega arith))

-- ---- a check

module _ (z : Solver) (ps : List Pair) where
  bind_quiet : (v : ℕ) (t : Term) → Quiet z (bind z v t ps).state
  unfolding bind bind₀ bind₁
  bind_quiet v t = soft (recovers (resolved z t))
    where
      go : (o : Option Requests) (b : Bool) → Quiet z (bind₁ z v t ps o b).state
      go none b = still z
      go (some rs) true = still z
      go (some rs) false = (omega arith, λ e. absurd (omega arith))

      soft : (b : Bool) → Quiet z (bind₀ z v t ps b).state
      soft true = still z
      soft false = go (admit z.requests (z.requests v) t) (occurs v (resolved z t))

  decompose_quiet : (t u : Term) (a b c : Bool) → Quiet z (decompose z t u ps a b c).state
  unfolding decompose
  decompose_quiet t u true b c = still z
  decompose_quiet t u false true c = still z
  decompose_quiet t u false false true = still z
  decompose_quiet t u false false false = still z

  module _ (n : Notion) where
    differ_quiet : (t u : Term) → Quiet z (differ n z t u ps).state
    unfolding differ
    differ_quiet (var v) u = bind_quiet v u
    differ_quiet (node k rs) (var v) = bind_quiet v (node k rs)
    differ_quiet (node k rs) (node j qs) =
        decompose_quiet (node k rs) (node j qs) (recovery (node k rs) || recovery (node j qs)) (projects (node k rs)) (same_shape n (node k rs) (node j qs))

    check_quiet : (t u : Term) → Quiet z (check_pair n z t u ps).state
    unfolding check_pair match
    check_quiet t u = go (same (resolved z t) (resolved z u))
      where
        go : (b : Bool) → Quiet z (match n z t u ps b).state
        go true = still z
        go false = differ_quiet (top z t) (top z u)

-- ---- all checks of a pair, however it ends

pub settles_quiet : (n : Notion) (k : ℕ) (z : Solver) (ok : Bool) (ps : List Pair) → Quiet z (solver_of (settles n k z ok ps))
unfolding settles solver_of
settles_quiet n zero z ok [] = still z
settles_quiet n zero z ok (p ∷ ps) = still z
settles_quiet n (suc k) z ok [] = still z
settles_quiet n (suc k) z ok (p ∷ ps) =
    let x = check_pair n z p.0 p.1 ps in
    quiet_trans z x.state (solver_of (settles n k x.state (ok && x.good) x.todo))
    (check_quiet z ps n p.0 p.1) (settles_quiet n k x.state (ok && x.good) x.todo)

-- ---- orders 4 and 22

module _ (lim : Limits) where
  -- with the solver as it was no node is kept
  pub posing_quiet : (s : Session) (m : ℕ) (o : Out Solver) → Quiet s.solver (solver_of o) → (solver_of o).revision ≡ s.solver.revision → (posing lim s m o).session ≡ s
  posing_quiet s m o q e =
      ap₂ (λ (z : Solver) (b : Bool). keep s z (keeps (not b) m)) (q.1 e) (eq-eqb (solver_of o).revision s.solver.revision e)
      ∙ ap (λ (k : ℕ). record { solver = s.solver; places = s.places; deferred = s.deferred; kept = k }) (add-zero s.kept)

  -- A PAIR THAT MAKES NO BINDING, however it ends, LEAVES THE SESSION AS IT WAS.
  pub quiet_pair : (s : Session) (b : Bool) (k : ℕ) (t u : Term) → (order lim s (pair b k t u)).session.solver.revision ≡ s.solver.revision → (order lim s (pair b k t u)).session ≡ s
  unfolding order
  quiet_pair s b k t u = go (known s t && known s u) (crowded lim s (size t + size u))
    where
      o : Out Solver
      o = constrain (notion b) k s.solver t u

      go : (a c : Bool) → (unless lim s a c (posing lim s (size t + size u) o)).session.solver.revision ≡ s.solver.revision
          → (unless lim s a c (posing lim s (size t + size u) o)).session ≡ s
      go true true e = refl
      go true false e = posing_quiet s (size t + size u) o (settles_quiet (notion b) k s.solver true ((t, u) ∷ [])) e
      go false c e = refl

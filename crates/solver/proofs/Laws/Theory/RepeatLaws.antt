-- A script that repeats a satisfied pair runs through: each repeat is compatible and leaves the session as it was, its kept nodes too.
use mathlib.Core.Path.{◌≡◌, refl, ap, ap₂, ◌∙◌}
use mathlib.Core.Bool.{Bool, false}
use mathlib.Core.List.{List, ◌∷◌}
use mathlib.Core.Logic.{inl, inr}
use Prim.Native.Nat.{ℕ, zero, suc, ◌+◌, ◌≤◌}
use native.Mathlib.Omega.{arith}
use lib.ListN.{replicate}
use Rattle.terms.specs.Term.{Term, size}
use Rattle.unify.specs.Term.{clash}
use Rattle.solver.specs.Constrain.{Solver, recovers}
use Rattle.solver.specs.Session.{Limits, Session, fresh}
use Rattle.solver.specs.Orders.{Command, pair, Reply, verdict, crowded, order, run, replies}
use Rattle.solver.specs.Again.{SatisfiedOrder}
use Rattle.solver.proofs.Laws.Definition.QuietLaws.{quiet_pair}
use Rattle.solver.proofs.Laws.Theory.AgainLaws.{again_pair}

module _ (lim : Limits) (b : Bool) (k m : ℕ) (y : Session) (t u : Term) (x : SatisfiedOrder lim b k m y t u) where
  -- the session stays as it was
  pub satisfied_session : (order lim y (pair b m t u)).session ≡ y
  satisfied_session = quiet_pair lim y b m t u (ap (λ (z : Solver). z.revision) x.unchanged)

  module _ (enough : k ≤ m) (room : crowded lim y (size t + size u) ≡ false) where
    satisfied_reply : (order lim y (pair b m t u)).reply ≡ verdict 1
    satisfied_reply = elim x.answered [ inl e ↦ e | inr (inl e) ↦ absurd (let l = e.1 in omega arith) | inr (inr e) ↦ clash (cc (e.1, room)) ]

    pub repeats_stay : (j : ℕ) → run lim y (replicate j (pair b m t u)) ≡ y
    unfolding run
    repeats_stay zero = refl
    repeats_stay (suc j) = ap (λ (s : Session). run lim s (replicate j (pair b m t u))) satisfied_session ∙ repeats_stay j

    pub repeats_answer : (j : ℕ) → replies lim y (replicate j (pair b m t u)) ≡ replicate j (verdict 1)
    unfolding replies
    repeats_answer zero = refl
    repeats_answer (suc j) =
        ap₂ (λ (r : Reply) (s : Session). r ∷ replies lim s (replicate j (pair b m t u))) satisfied_reply satisfied_session
        ∙ ap (λ (rs : List Reply). verdict 1 ∷ rs) (repeats_answer j)

-- A SCRIPT THAT REPEATS A SATISFIED PAIR RUNS THROUGH (posed by 4 or 22). After the orders cs a pair whose two terms hold no Unknown and no Error is answered compatible with
-- k checks; then, after any orders ds, it is given j times with k checks or more, and has space beside the kept nodes: each time it is answered compatible, and the
-- session stays as it was.
pub runs_through : (lim : Limits) (b : Bool) (cs : List Command) (t u : Term) → recovers t ≡ false → recovers u ≡ false → (k : ℕ) → (order lim (run lim fresh cs) (pair b k t u)).reply ≡ verdict 1
    → (ds : List Command) (m : ℕ) → k ≤ m → crowded lim (run lim (order lim (run lim fresh cs) (pair b k t u)).session ds) (size t + size u) ≡ false → (j : ℕ)
    → (replies lim (run lim (order lim (run lim fresh cs) (pair b k t u)).session ds) (replicate j (pair b m t u)) ≡ replicate j (verdict 1))
    × (run lim (run lim (order lim (run lim fresh cs) (pair b k t u)).session ds) (replicate j (pair b m t u))
    ≡ run lim (order lim (run lim fresh cs) (pair b k t u)).session ds)
runs_through lim b cs t u ht hu k e ds m enough room j =
    let y = run lim (order lim (run lim fresh cs) (pair b k t u)).session ds in
    let x = again_pair lim b cs t u ht hu k e ds m in
    (repeats_answer lim b k m y t u x enough room j, repeats_stay lim b k m y t u x enough room j)

-- Pairs that bind nothing, over order bytes: they leave the session as it was, so that repeats run through.
use mathlib.Core.Path.{◌≡◌, refl, sym, ap, subst, ◌∙◌}
use mathlib.Core.Bool.{Bool, true, false, not, ◌&&◌}
use mathlib.Core.List.{List, [], ◌∷◌, ◌++◌}
use mathlib.Core.Option.{Option, some}
use Prim.Native.Nat.{ℕ, zero, suc, ◌+◌}
use borrow.Author.Tests.{ne_eqb}
use lib.ListN.{replicate}
use Rattle.solver.specs.Terms.Term.{Term, size}
use Rattle.solver.specs.Shapes.{notion}
use Rattle.solver.specs.Constrain as solving
use Rattle.solver.specs.Theory.Solver.{Out}
use Rattle.solver.specs.Session.{Limits, Session, fresh}
use Rattle.solver.specs.Orders as solver
use Rattle.solver.specs.Orders.{Command, order, run, replies, known, crowded, unless, posing, keeps, solver_of}
use Rattle.solver.proofs.Laws.Definition.QuietLaws.{quiet_pair}
use Rattle.solver.proofs.Laws.Theory.RepeatLaws.{runs_through}
use Rattle.sheet.specs.OrderTable.{outcome}
use Rattle.sheet.specs.Sheet.{Step, answer_of, solve, order_of, framed}
use Rattle.sheet.specs.OrdersInTurn.{session_after, answers_to}
use Rattle.sheet.specs.Commands.{command, commands}
use Rattle.sheet.specs.RepeatedPairs.{repeated, PosedAgain}
use Rattle.sheet.proofs.Laws.Answering.FramingLaws.{one_frame}
use Rattle.sheet.proofs.Laws.Answering.TermOrderLaws.{uncrowded}
use Rattle.sheet.proofs.Laws.Bytes.CommandLaws.{StepBy, does_order, session_commands}
use Rattle.sheet.proofs.Laws.Bytes.PairsAnsweredLaws.{said, from_bytes}

module _ (lim : Limits) where
  -- ---- an order 4

  module _ (s : Session) (b : List ℕ) (d : Bool) (k : ℕ) (t u : Term) (e : command s b ≡ some (solver.pair d k t u)) where
    solved : order_of lim s b ≡ solve lim s (solver.pair d k t u)
    solved = subst (λ (o : Option Command). StepBy lim s o (order_of lim s b)) e (does_order lim s b)

    -- where it makes no binding, however it ends, it leaves the session as it was
    pub quiet_order : (order_of lim s b).session.solver.revision ≡ s.solver.revision → (order_of lim s b).session ≡ s
    quiet_order h =
        ap (λ (x : Step). x.session) solved
        ∙ quiet_pair lim s d k t u (sym (ap (λ (x : Step). x.session.solver.revision) solved) ∙ h)

    -- where it makes one it keeps the nodes of both terms
    pub bound_order : ((order_of lim s b).session.solver.revision ≡ s.solver.revision → ⊥) → (order_of lim s b).session.kept ≡ s.kept + (size t + size u)
    unfolding order
    bound_order h =
        ap (λ (x : Step). x.session.kept) solved
        ∙ go (known s t && known s u) (crowded lim s (size t + size u)) (λ i. h (ap (λ (x : Step). x.session.solver.revision) solved ∙ i))
      where
        g : Out solving.Solver
        g = solving.constrain (notion d) k s.solver t u

        go : (a c : Bool) → ((unless lim s a c (posing lim s (size t + size u) g)).session.solver.revision ≡ s.solver.revision → ⊥)
            → (unless lim s a c (posing lim s (size t + size u) g)).session.kept ≡ s.kept + (size t + size u)
        go true true n = absurd (n refl)
        go true false n = ap (λ (b : Bool). s.kept + keeps (not b) (size t + size u)) (ne_eqb (solver_of g).revision s.solver.revision n)
        go false c n = absurd (n refl)

  -- ---- repeats

  -- an order that leaves the session, given again and again: the same answer each time
  pub repeats : (s : Session) (b : List ℕ) → (order_of lim s b).session ≡ s → (j : ℕ)
      → (answers_to lim s (replicate j b) ≡ repeated j (framed (order_of lim s b).answer)) × (session_after lim s (replicate j b) ≡ s)
  unfolding answers_to session_after repeated
  repeats s b e zero = (refl, refl)
  repeats s b e (suc j) =
      let r = repeats s b e j in (
        ap (λ (z : Session). framed (order_of lim s b).answer ++ answers_to lim z (replicate j b)) e ∙ ap (λ (l : List ℕ). framed (order_of lim s b).answer ++ l) r.0,
        ap (λ (z : Session). session_after lim z (replicate j b)) e ∙ r.1,
      )

  -- A SATISFIED PAIR POSED AGAIN, j times: each time it is answered compatible, and the session stays as it was
  module _ (bs : List (List ℕ)) (b : List ℕ) (cs : List (List ℕ)) (c : List ℕ) where
    abbrev before : Session
    before = session_after lim fresh bs

    abbrev later : Session
    later = session_after lim (order_of lim before b).session cs

    module _ (p : PosedAgain lim before later b c) where
      abbrev t : Term
      t = p.first.left

      abbrev u : Term
      u = p.first.right

      abbrev told : Command
      told = solver.pair p.first.strict p.first.checks t u

      -- the same sessions by what the orders told
      abbrev start : Session
      start = run lim fresh (commands lim fresh bs)

      abbrev between : List Command
      between = commands lim (order_of lim before b).session cs

      abbrev end : Session
      end = run lim (order lim start told).session between

      start_is : before ≡ start
      start_is = session_commands lim fresh bs

      end_is : later ≡ end
      end_is =
          session_commands lim (order_of lim before b).session cs
          ∙ ap (λ (z : Session). run lim z between)
          (ap (λ (x : Step). x.session) (solved before b p.first.strict p.first.checks t u p.first.says) ∙ ap (λ (z : Session). (order lim z told).session) start_is)

      compatible : (order lim start told).reply ≡ solver.verdict 1
      compatible =
          subst (λ (z : Session). (order lim z told).reply ≡ solver.verdict 1) start_is
          (said lim 1 (order lim before told).reply (from_bytes lim 1 before b told p.first.says p.first))

      room : crowded lim end (size t + size u) ≡ false
      room = subst (λ (z : Session). crowded lim z (size t + size u) ≡ false) end_is (uncrowded lim later (size t + size u) p.space)

      once : (replies lim end (solver.pair p.first.strict p.checks t u ∷ []) ≡ solver.verdict 1 ∷ []) × (run lim end (solver.pair p.first.strict p.checks t u ∷ []) ≡ end)
      once = runs_through lim p.first.strict (commands lim fresh bs) t u p.left p.right p.first.checks compatible between p.checks p.enough room 1

      stays : (order lim later (solver.pair p.first.strict p.checks t u)).session ≡ later
      unfolding run
      stays = subst (λ (z : Session). (order lim z (solver.pair p.first.strict p.checks t u)).session ≡ z) (sym end_is) once.1

      replied : (order lim later (solver.pair p.first.strict p.checks t u)).reply ≡ solver.verdict 1
      unfolding replies
      replied = subst (λ (z : Session). (order lim z (solver.pair p.first.strict p.checks t u)).reply ≡ solver.verdict 1) (sym end_is) (let e = once.0 in cc)

      again : order_of lim later c ≡ solve lim later (solver.pair p.first.strict p.checks t u)
      again = solved later c p.first.strict p.checks t u p.says

      says_so : (order_of lim later c).answer ≡ outcome (1 ∷ [])
      unfolding answer_of
      says_so = ap (λ (x : Step). x.answer) again ∙ ap answer_of replied

      pub satisfied_repeats : (j : ℕ) → (answers_to lim later (replicate j c) ≡ repeated j (2 ∷ 0 ∷ 1 ∷ [])) × (session_after lim later (replicate j c) ≡ later)
      satisfied_repeats j =
          let r = repeats later c (ap (λ (x : Step). x.session) again ∙ stays) j in
          (r.0 ∙ ap (repeated j) (ap framed says_so ∙ one_frame 1), r.1)

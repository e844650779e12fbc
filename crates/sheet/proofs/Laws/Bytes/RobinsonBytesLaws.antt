-- Robinson's theorems for lists of order bytes: carried over from crate solver.
use mathlib.Core.Path.{◌≡◌, refl, sym, ap, ◌∙◌, subst}
use mathlib.Core.Bool.{Bool, true, false, ◌&&◌}
use mathlib.Core.List.{List, [], ◌∷◌}
use mathlib.Core.Logic.{◌⊎◌, inl, inr, ◌↔◌}
use mathlib.Core.Option.{Option, none, some}
use Prim.Native.Nat.{ℕ, ◌+◌, ◌≤◌}
use native.Mathlib.Omega.{arith}
use Rattle.solver.specs.Terms.Term.{Term, size}
use Rattle.solver.proofs.Terms.Bools.{never_true}
use Rattle.solver.specs.Theory.Solver.{Out, cancelled, done}
use Rattle.solver.specs.Constrain.{Solver, Pair, resolved, constrain}
use Rattle.solver.specs.Shapes.{notion}
use Rattle.solver.specs.Session.{Limits, Session, fresh}
use Rattle.solver.specs.Orders as solver
use Rattle.solver.specs.Orders.{Command, verdict, verdict_code, known, crowded, unless, posing, order}
use Rattle.solver.specs.Demand3 as theirs
use Rattle.solver.specs.Demand3.{beginning}
use Rattle.solver.specs.Invariant.{Settled, SettledBy}
use Rattle.solver.specs.Robinson.{Unmarked, UnmarkedPairs, Decides}
use Rattle.solver.specs.RobinsonPair.{FirstOrderIn, PlainPair, Decided, DecidedBy, RobinsonDecides, AllPure}
use Rattle.solver.proofs.Laws.Definition.InvariantLaws.{settled}
use Rattle.solver.proofs.Laws.Robinson.RobinsonLaws.{robinson}
use Rattle.solver.proofs.Laws.Robinson.RobinsonPairLaws.{robinson_each}
use Rattle.solver.proofs.Laws.Robinson.PlainListLaws.{posed_plain, unrequested}
use Rattle.sheet.specs.OrderTable.{outcome}
use Rattle.sheet.specs.Sheet.{Step, answer_of, solve, order_of, run_of}
use Rattle.sheet.specs.OrdersInTurn.{accepted, session_after, answered_orders}
use Rattle.sheet.specs.Commands.{command, commands}
use Rattle.sheet.specs.Demand3.{ByteString, ByteStrings, InFragment, PairsInFragment, history_of}
use Rattle.sheet.specs.RobinsonBytes.{FirstOrder, PlainOrder, AnsweredSo, DecidesOrders}
use Rattle.sheet.proofs.Laws.Bytes.CommandLaws.{accepted_of, StepBy, does_order, session_commands}
use Rattle.sheet.proofs.Laws.Bytes.Demand3Bytes.{premises_of}
use Rattle.sheet.proofs.Laws.Bytes.Demand3Run.{orders_bytes}
use Rattle.sheet.proofs.Laws.Bytes.InvariantBytes.{order_5}

-- ROBINSON: of plain first-order pairs, given as order bytes with whatever orders between.
pub robinson_bytes : (lim : Limits) (d : Bool) (bs : List (List ℕ)) → ByteStrings bs → FirstOrder lim d bs → Decides (history_of lim beginning bs)
robinson_bytes lim d bs o f = robinson lim d (commands lim fresh bs) (record { only = f.only; premises = premises_of lim bs o f.premises; unmarked = f.unmarked; numberless = f.numberless })

-- and of a run
pub robinson_run : (lim : Limits) (d : Bool) (s : List ℕ) → ByteString s → (space : ℕ) → FirstOrder lim d (answered_orders lim s space) → Decides (history_of lim beginning (answered_orders lim s space))
robinson_run lim d s o space = robinson_bytes lim d (answered_orders lim s space) (orders_bytes s o (run_of lim s space).orders 0)

-- ---- pair by pair

recast : (s y : Session) (t u : Term) {yes no told refused : Type 0} → yes ↔ told → no ↔ refused → Decided s y t u yes no → Decided s y t u told refused
recast s y t u f g d = record {
  compatible = (λ a. d.compatible.0 (f.1 a), λ a. f.0 (d.compatible.1 a));
  unifiable = (λ a. d.unifiable.0 (f.1 a), λ a. f.0 (d.unifiable.1 a));
  incompatible = (λ a. d.incompatible.0 (g.1 a), λ a. g.0 (d.incompatible.1 a));
  clashing = (λ a. d.clashing.0 (g.1 a), λ a. g.0 (d.clashing.1 a));
  unified = d.unified;
}

module _ (lim : Limits) (d : Bool) (s : Session) (t u : Term) where
  -- an order that is read as c does what c does, and answers so
  solves : (b : List ℕ) (c : Command) → command s b ≡ some c → order_of lim s b ≡ solve lim s c
  solves b c e = subst (λ (o : Option Command). StepBy lim s o (order_of lim s b)) e (does_order lim s b)

  -- an order 4 answered with outcome 0: its variables are issued, and its nodes have space
  taken_pair : (k : ℕ) → theirs.accepted (order lim s (solver.pair d k t u)).reply ≡ true → (known s t ≡ true) × (known s u ≡ true) × (crowded lim s (size t + size u) ≡ false)
  unfolding order theirs.accepted
  taken_pair k = go (known s t) (known s u) (crowded lim s (size t + size u))
    where
      go : (a b c : Bool) → theirs.accepted (unless lim s (a && b) c (posing lim s (size t + size u) (constrain (notion d) k s.solver t u))).reply ≡ true
          → (a ≡ true) × (b ≡ true) × (c ≡ false)
      go true true true e = never_true e
      go true true false e = (refl, refl, refl)
      go true false c e = never_true e
      go false b c e = never_true e

  module _ (k : ℕ) (b : List ℕ) (p : PlainOrder lim d s b k t u) where
    does : order_of lim s b ≡ solve lim s (solver.pair d k t u)
    does = solves b (solver.pair d k t u) p.says

    plain : PlainPair lim d s t u
    plain =
        let e = sym (accepted_of (order lim s (solver.pair d k t u)).reply) ∙ ap (λ (x : Step). accepted x.answer) (sym does) ∙ p.taken in
        let f = taken_pair k e in
        record { known_left = f.0; known_right = f.1; room = f.2; left = p.left; right = p.right }

    -- its reply is a verdict
    replied : (order lim s (solver.pair d k t u)).reply ≡ verdict (verdict_code (constrain (notion d) k s.solver t u))
    unfolding order
    replied = rw (plain.known_left, plain.known_right, plain.room)

    -- and so is its answer
    told : (v : ℕ) → ((order lim s (solver.pair d k t u)).reply ≡ verdict v) ↔ ((order_of lim s b).answer ≡ outcome (v ∷ []))
    unfolding answer_of
    told v =
        let a : (order_of lim s b).answer ≡ outcome (verdict_code (constrain (notion d) k s.solver t u) ∷ []) = ap (λ (x : Step). x.answer) does ∙ ap answer_of replied in (
          λ e. a ∙ ap (λ (n : ℕ). outcome (n ∷ [])) (let q : verdict_code (constrain (notion d) k s.solver t u) ≡ v = cc (replied, e) in q),
          λ e. replied ∙ ap verdict (let q : verdict_code (constrain (notion d) k s.solver t u) ≡ v = cc (a, e) in q),
        )

    so : DecidedBy lim d s k t u → AnsweredSo lim s b t u
    so e = record {
      decided =
          let f = recast s (order lim s (solver.pair d k t u)).session (resolved s.solver t) (resolved s.solver u) (told 1) (told 0) e in
          subst (λ (y : Session). Decided s y (resolved s.solver t) (resolved s.solver u) ((order_of lim s b).answer ≡ outcome (1 ∷ [])) ((order_of lim s b).answer ≡ outcome (0 ∷ [])))
          (ap (λ (x : Step). x.session) (sym does)) f;
      before = order_5 lim s;
      after = order_5 lim (order_of lim s b).session;
    }

    either : RobinsonDecides lim d s t u → ((order_of lim s b).answer ≡ outcome (2 ∷ [])) ⊎ AnsweredSo lim s b t u
    either r = elim (r.fewer k) [ inl e ↦ inl ((told 2).0 e) | inr e ↦ inr (so e) ]

    -- settled, it is not cancelled
    never_cut : Settled (constrain (notion d) k s.solver t u) → ¬ ((order_of lim s b).answer ≡ outcome (2 ∷ []))
    unfolding verdict_code
    never_cut f e = go (constrain (notion d) k s.solver t u) f (let q : verdict_code (constrain (notion d) k s.solver t u) ≡ 2 = cc (replied, (told 2).1 e) in q)
      where
        go : (o : Out Solver) → Settled o → verdict_code o ≡ 2 → ⊥
        go (cancelled z) f q = f
        go (done z true) f q = absurd (omega (arith, q))
        go (done z false) f q = absurd (omega (arith, q))

  -- so many checks settle the pair, if its variables are issued
  abbrev Ends : Type 0
  Ends = (K : ℕ) × ((k : ℕ) → K ≤ k → known s t ≡ true → known s u ≡ true → Settled (constrain (notion d) k s.solver t u))

  ends : (known s t ≡ true → known s u ≡ true → (K : ℕ) × SettledBy (notion d) K s.solver t u) → Ends
  ends f = go (known s t) (known s u) refl refl
    where
      go : (a b : Bool) → known s t ≡ a → known s u ≡ b → Ends
      go true true p q = let e = f p q in (e.0, λ k l x y. e.1 k l)
      go true false p q = (0, λ k l x y. never_true (sym q ∙ y))
      go false b p q = (0, λ k l x y. never_true (sym p ∙ x))

  decides : Ends → (PlainPair lim d s t u → RobinsonDecides lim d s t u) → DecidesOrders lim d s t u
  decides e r = record {
    checks = e.0;
    enough = λ k b p l. elim (either k b p (r (plain k b p))) [
      | inl q ↦ absurd (never_cut k b p (e.1 k l (plain k b p).known_left (plain k b p).known_right) q)
      | inr q ↦ q
    ];
    fewer = λ k b p. either k b p (r (plain k b p));
  }

-- every pair is settled by some number of checks
pub settled_bytes : (lim : Limits) (d : Bool) (bs : List (List ℕ)) (t u : Term)
    → (let s = session_after lim fresh bs in known s t ≡ true → known s u ≡ true → (K : ℕ) × SettledBy (notion d) K s.solver t u)
settled_bytes lim d bs t u = subst (λ (s : Session). known s t ≡ true → known s u ≡ true → (K : ℕ) × SettledBy (notion d) K s.solver t u) (sym (session_commands lim fresh bs))
    (settled lim d (commands lim fresh bs) t u)

-- after any list of orders, each given as its bytes
pub robinson_each_bytes : (lim : Limits) (d : Bool) (bs : List (List ℕ)) (t u : Term)
    → (let s = session_after lim fresh bs in PlainPair lim d s t u → RobinsonDecides lim d s t u)
robinson_each_bytes lim d bs t u =
    subst (λ (s : Session). PlainPair lim d s t u → RobinsonDecides lim d s t u) (sym (session_commands lim fresh bs)) (robinson_each lim d (commands lim fresh bs) t u)

-- ROBINSON 1965 DECIDES EACH PLAIN FIRST-ORDER PAIR: posed after any list of orders, each given as its bytes, whatever was answered.
pub robinson_orders : (lim : Limits) (d : Bool) (bs : List (List ℕ)) (t u : Term) → DecidesOrders lim d (session_after lim fresh bs) t u
robinson_orders lim d bs t u = let s = session_after lim fresh bs in decides lim d s t u (ends lim d s t u (settled_bytes lim d bs t u)) (robinson_each_bytes lim d bs t u)

-- ---- plain pairs by the terms as they were posed

all_pure : (d : Bool) (ps : List Pair) → PairsInFragment ps → UnmarkedPairs (notion d) ps → AllPure (notion d) ps
all_pure d [] p m = tt
all_pure d (x ∷ ps) p m = ((p.0, m.0), (p.1, m.1), all_pure d ps p.2 m.2)

-- where no pair had a recovery term, a projection or an access mark, and no number was requested
pub posed_plain_bytes : (lim : Limits) (d : Bool) (bs : List (List ℕ)) → PairsInFragment (history_of lim beginning bs).posed → UnmarkedPairs (notion d) (history_of lim beginning bs).posed
    → ((v : ℕ) → (history_of lim beginning bs).requests v ≡ none) → (t : Term) → InFragment t → Unmarked (notion d) t → FirstOrderIn (notion d) (session_after lim fresh bs) t
posed_plain_bytes lim d bs p m r t q u =
    let f = unrequested lim (commands lim fresh bs) r in
    subst (λ (s : Session). FirstOrderIn (notion d) s t) (sym (session_commands lim fresh bs))
    (posed_plain lim d (commands lim fresh bs) (all_pure d (history_of lim beginning bs).posed p m) t (q, u) (λ v o. f v))

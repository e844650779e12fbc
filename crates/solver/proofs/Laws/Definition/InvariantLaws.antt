-- What holds of a session in order, and after every list of orders; sessions within limits.
use mathlib.Core.Path.{◌≡◌, refl, subst}
use mathlib.Core.Bool.{Bool, true, false, ◌&&◌}
use mathlib.Core.List.{List, [], ◌∷◌}
use mathlib.Core.Option.{Option, none, some}
use Prim.Native.Nat.{ℕ, suc, ◌+◌, ◌≤◌}
use native.Mathlib.Omega.{arith}
use borrow.Author.Tests.{leb-false, ltb-false}
use lib.Dec.{leb}
use Rattle.terms.specs.Term.{Term, var, node, size}
use Rattle.unify.specs.Solver.{Out, cancelled, done}
use Rattle.unify.proofs.Enough.{Finished, settles_enough}
use Rattle.solver.specs.Shapes.{Notion, notion, read}
use Rattle.solver.specs.Constrain.{Solver, resolved, constrain}
use Rattle.solver.specs.Session.{Limits, VariablePlace, at, gap, Session, issued, find, fresh, issue_at, deferring}
use Rattle.solver.specs.Orders.{Command, variable, number, hole, defer, pair, resolving, numbers, nevers, revision, unread}
use Rattle.solver.specs.Orders.{term, nothing, ◌gives◌, known, full, crowded, unless, variable_step, number_at, hole_at, solver_of, moved, keeps, posing, order, run}
use Rattle.solver.specs.Demand3.{History, after, history}
use Rattle.solver.specs.Invariant.{InOrder, Invariant, WithinLimits, Settled, SettledBy}
use Rattle.solver.proofs.Laws.Theory.TheoryView.{view}
use Rattle.solver.proofs.Laws.Theory.Signature.{S}
use Rattle.solver.proofs.Laws.Theory.ConstrainView.{view_table, view_out, settles_view}
use Rattle.solver.proofs.Laws.Theory.TheorySimulation.{known_yes}
use Rattle.solver.proofs.Laws.Theory.Demand3Laws.{respects}
use Rattle.solver.proofs.Laws.Definition.NotionLaws.{notion_codes}
use Rattle.solver.proofs.Laws.Definition.InOrderLaws.{in_order_ordered, fresh_ordered, run_ordered}
use Rattle.solver.proofs.Laws.Definition.SolverInvariantLaws.{within_known, Ordered, ordered_counted, ordered_far, ordered_within, ordered_steady, ordered_stays, ordered_topped}

module _ (s : Session) (ordered : Ordered (issued s) s.solver) where
  abbrev z : Solver
  z = s.solver

  pub invariant_of : Invariant s
  invariant_of = record {
    counted = ordered_counted (issued s) z ordered;
    far = ordered_far (issued s) z ordered;
    within = λ v t e. within_known s t (ordered_within (issued s) z ordered v t e);
    free = (ordered_steady (issued s) z ordered).free;
    bound = (ordered_steady (issued s) z ordered).bound;
    stays = ordered_stays (issued s) z ordered;
    tops = (ordered_topped (issued s) z ordered).tops;
    topped = (ordered_topped (issued s) z ordered).topped;
  }

  -- every pair is settled by some number of checks
  module _ (n : Notion) (codes_count : n 4 ≡ false) where
    settled_view : (o : Out Solver) → Finished S (read n) (respects n codes_count) (view_out o) → Settled o
    unfolding view_out
    settled_view (cancelled z) f = f
    settled_view (done z b) f = tt

    pub settled_of : (t u : Term) → known s t ≡ true → known s u ≡ true → (K : ℕ) × SettledBy n K z t u
    settled_of t u e f =
        let x = settles_enough S (read n) (respects n codes_count) (issued s) (view_table z) ordered.means ordered.stands ordered.counted ordered.fine (view t) (view u) (known_yes s t e) (known_yes s u f) in
        (x.0, λ k l. settled_view (constrain n k z t u) (subst (Finished S (read n) (respects n codes_count)) (settles_view n k z true ((t, u) ∷ [])) (x.1 k l)))

-- the history's session is the run's
pub history_run : (lim : Limits) (h : History) (cs : List Command) → (history lim h cs).session ≡ run lim h.session cs
unfolding history run
history_run lim h [] = refl
history_run lim h (c ∷ cs) = history_run lim (after lim h c) cs

-- WHAT FOLLOWS of a session in order, whatever led to it
pub invariant : (s : Session) → InOrder (issued s) s.solver → Invariant s
invariant s x = invariant_of s (in_order_ordered (issued s) s.solver x)

module _ (lim : Limits) where
  -- after every list of orders
  pub all_ordered : (cs : List Command) → Ordered (issued (run lim fresh cs)) (run lim fresh cs).solver
  all_ordered cs = run_ordered lim fresh cs fresh_ordered

  -- AFTER EVERY LIST OF ORDERS, premises or not, the session is in order.
  pub in_order : (cs : List Command) → Invariant (run lim fresh cs)
  in_order cs = invariant_of (run lim fresh cs) (all_ordered cs)

  -- AND EVERY PAIR, strict or not, IS SETTLED WITH ENOUGH CHECKS.
  pub settled : (b : Bool) (cs : List Command) (t u : Term) → known (run lim fresh cs) t ≡ true → known (run lim fresh cs) u ≡ true
      → (K : ℕ) × SettledBy (notion b) K (run lim fresh cs).solver t u
  settled b cs = settled_of (run lim fresh cs) (all_ordered cs) (notion b) (notion_codes b)

-- ---- limits

-- no more nodes are kept than there are
keeps_few : (b : Bool) (m : ℕ) → keeps b m ≤ m
keeps_few true m = omega arith
keeps_few false m = omega arith

module _ (lim : Limits) where
  full_fits : (s : Session) → leb lim.variables (issued s) ≡ false → suc (issued s) ≤ lim.variables
  full_fits s e = leb-false lim.variables (issued s) e

  place_fits : (s : Session) (p : VariablePlace) → WithinLimits lim s → leb lim.variables (issued s) ≡ false → WithinLimits lim (issue_at s p)
  place_fits s p f e = record { variables = full_fits s e; nodes = f.nodes }

  pub order_fits : (s : Session) (c : Command) → WithinLimits lim s → WithinLimits lim (order lim s c).session
  unfolding order variable_step number_at hole_at deferring
  order_fits s (variable site slot) f = go (find (at site slot) s.places) (full lim s) refl
    where
      go : (o : Option ℕ) (b : Bool) → full lim s ≡ b → WithinLimits lim (variable_step lim s (at site slot) o b).session
      go (some v) b e = f
      go none true e = f
      go none false e = place_fits s (at site slot) f e
  order_fits s (number site r) f = go (find (at site 1) s.places) (full lim s) refl
    where
      go : (o : Option ℕ) (b : Bool) → full lim s ≡ b → WithinLimits lim (number_at lim s (at site 1) r o b).session
      go (some v) b e = record { variables = f.variables; nodes = f.nodes }
      go none true e = f
      go none false e = record { variables = full_fits s e; nodes = f.nodes }
  order_fits s (hole site) f = go (find (gap site) s.places) (full lim s) refl
    where
      go : (o : Option ℕ) (b : Bool) → full lim s ≡ b → WithinLimits lim (hole_at lim s (gap site) o b).session
      go (some v) b e = f
      go none true e = f
      go none false e = place_fits s (gap site) f e
  order_fits s (defer t) f = go (known s t) (crowded lim s (size t))
    where
      last : (u : Term) → WithinLimits lim (deferring s u)
      last (var v) = record { variables = f.variables; nodes = f.nodes }
      last (node k ps) = f

      go : (b c : Bool) → WithinLimits lim (unless lim s b c (deferring s (resolved s.solver t) gives nothing)).session
      go true true = f
      go true false = last (resolved s.solver t)
      go false c = f
  order_fits s (pair b k t u) f = go (known s t && known s u) (crowded lim s (size t + size u)) refl
    where
      go : (a c : Bool) → crowded lim s (size t + size u) ≡ c → WithinLimits lim (unless lim s a c (posing lim s (size t + size u) (constrain (notion b) k s.solver t u))).session
      go true true e = f
      go true false e = record {
        variables = f.variables;
        nodes = omega (arith, ltb-false lim.nodes (s.kept + (size t + size u)) e, keeps_few (moved s.solver (solver_of (constrain (notion b) k s.solver t u))) (size t + size u));
      }
      go false c e = f
  order_fits s (resolving t) f = go (known s t) (crowded lim s (size t))
    where
      go : (b c : Bool) → WithinLimits lim (unless lim s b c (s gives term (resolved s.solver t))).session
      go true true = f
      go true false = f
      go false c = f
  order_fits s numbers f = record { variables = f.variables; nodes = f.nodes }
  order_fits s nevers f = record { variables = f.variables; nodes = f.nodes }
  order_fits s revision f = f
  order_fits s (unread r) f = f

  run_fits : (s : Session) (cs : List Command) → WithinLimits lim s → WithinLimits lim (run lim s cs)
  unfolding run
  run_fits s [] f = f
  run_fits s (c ∷ cs) f = run_fits (order lim s c).session cs (order_fits s c f)

  -- AFTER EVERY LIST OF ORDERS the session is within its limits.
  pub fits : (cs : List Command) → WithinLimits lim (run lim fresh cs)
  fits cs = run_fits fresh cs (record { variables = omega arith; nodes = omega arith })

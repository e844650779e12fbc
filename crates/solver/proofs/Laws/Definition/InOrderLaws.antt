-- A solver in order: as the definition says it and as the theory has it. A fresh one is, and every order keeps it.
use mathlib.Core.Path.{◌≡◌, refl, sym, ap, ◌∙◌, subst}
use mathlib.Core.Bool.{Bool, true, false}
use mathlib.Core.List.{List, [], ◌∷◌}
use mathlib.Core.Logic.{inl, inr}
use mathlib.Core.Option.{Option, none, some}
use Prim.Native.Nat.{ℕ, suc, ◌<◌}
use native.Mathlib.Omega.{arith}
use borrow.Author.Tests.{eqb-true, eq-eqb}
use lib.Dec.{eqb}
use lib.ListN.{length}
use Rattle.terms.specs.Result.{pick}
use Rattle.terms.specs.Term.{Term}
use Rattle.terms.specs.Questions.{among}
use Rattle.terms.proofs.Laws.General.Bools.{never_true, or-true, or_right, or_either}
use Rattle.unify.specs.Term.{In, clash}
use Rattle.unify.specs.Orders.{Run}
use Rattle.unify.proofs.Lazy.{Mem, Deep, Sorted}
use Rattle.unify.proofs.InOrder.{InOrderRun, in_order_begin, obey_in_order}
use Rattle.unify.proofs.Acyclic.{acyclic_in_order, in_order_acyclic}
use Rattle.solver.specs.Shapes.{notion, read}
use Rattle.solver.specs.Constrain.{Solver}
use Rattle.solver.specs.Session.{Limits, VariablePlace, at, same_place, Session, issued, find, fresh, never}
use Rattle.solver.specs.Orders.{Command, order, run}
use Rattle.solver.specs.Demand3.{History, beginning}
use Rattle.solver.specs.Invariant.{LeadsTo, Descends, InOrder}
use Rattle.solver.proofs.Laws.Theory.TheoryView.{T, view}
use Rattle.solver.proofs.Laws.Theory.Signature.{S}
use Rattle.solver.proofs.Laws.Theory.TheoryViewLaws.{viewed, all_viewed, occurs_in, in_occurs}
use Rattle.solver.proofs.Laws.Theory.ConstrainView.{view_table, fallback}
use Rattle.solver.proofs.Laws.Theory.TheorySimulation.{TheSession, view_run, view_command, strict, order_view}
use Rattle.solver.proofs.Laws.Theory.Demand3Laws.{respects}
use Rattle.solver.proofs.Laws.Definition.NotionLaws.{notion_codes}
use Rattle.solver.proofs.Laws.Definition.SolverInvariantLaws.{Ordered, none_viewed, taken_bound}

-- ---- lists of variables

mem_among : (v : ℕ) (vs : List ℕ) → Mem v vs → among v vs ≡ true
unfolding among
mem_among v [] m = absurd m
mem_among v (w ∷ vs) (inl e) = or-true (eqb v w) (among v vs) (eq-eqb v w e)
mem_among v (w ∷ vs) (inr m) = or_right (eqb v w) (among v vs) (mem_among v vs m)

among_mem : (v : ℕ) (vs : List ℕ) → among v vs ≡ true → Mem v vs
unfolding among
among_mem v [] e = never_true e
among_mem v (w ∷ vs) e = elim (or_either (eqb v w) (among v vs) e) [ inl p ↦ inl (eqb-true v w p) | inr p ↦ inr (among_mem v vs p) ]

-- ---- bindings, viewed

some_viewed : (o : Option Term) (u : T) → viewed o ≡ some u → (t : Term) × (o ≡ some t) × (view t ≡ u)
unfolding viewed
some_viewed none u e = clash (cc)
some_viewed (some t) u e = (t, refl, let q : view t ≡ u = cc in q)

module _ (b : ℕ → Option Term) where
  leads_deep : (vs : List ℕ) (t : Term) → LeadsTo b vs t → Deep (all_viewed b) vs (view t)
  unfolding viewed
  leads_deep vs t l w i = elim (l w (in_occurs w t i)) [ inl e ↦ inl (ap viewed e) | inr m ↦ inr (among_mem w vs m) ]

  deep_leads : (vs : List ℕ) (t : Term) → Deep (all_viewed b) vs (view t) → LeadsTo b vs t
  deep_leads vs t d w o = elim (d w (occurs_in w t o)) [ inl e ↦ inl (none_viewed (b w) e) | inr m ↦ inr (mem_among w vs m) ]

  descends_sorted : (vs : List ℕ) → Descends b vs → Sorted (all_viewed b) vs
  descends_sorted [] d = tt
  descends_sorted (v ∷ vs) d = (
    λ u e. let x = some_viewed (b v) u e in subst (λ (y : T). Deep (all_viewed b) vs y) x.2 (leads_deep vs x.0 (d.0 x.0 x.1)),
    descends_sorted vs d.1,
  )

  sorted_descends : (vs : List ℕ) → Sorted (all_viewed b) vs → Descends b vs
  unfolding viewed
  sorted_descends [] d = tt
  sorted_descends (v ∷ vs) d = (λ t e. deep_leads vs t (d.0 (view t) (ap viewed e)), sorted_descends vs d.1)

-- ---- THE DEFINITION AND THE THEORY SAY THE SAME.

module _ (N : ℕ) (z : Solver) where
  pub in_order_ordered : InOrder N z → Ordered N z
  unfolding viewed
  in_order_ordered x = acyclic_in_order S N (view_table z) (record {
    order = x.sequence;
    sorted = descends_sorted z.bindings x.sequence x.descends;
    covers = λ v u e. let y = some_viewed (z.bindings v) u e in among_mem v x.sequence (x.listed v y.0 y.1);
    as_many = x.many;
    number = sym (taken_bound N z.bindings) ∙ x.counted;
    far = λ v l. (ap viewed (x.unbound v l), x.unrequested v l);
    inside = λ v u e w i. let y = some_viewed (z.bindings v) u e in x.inside v y.0 y.1 w (in_occurs w y.0 (subst (λ (t : T). In w t) (sym y.2) i));
  })

  pub ordered_in_order : Ordered N z → InOrder N z
  unfolding viewed
  ordered_in_order o = let x = in_order_acyclic S N (view_table z) o in record {
    sequence = x.order;
    descends = sorted_descends z.bindings x.order x.sorted;
    listed = λ v t e. mem_among v x.order (x.covers v (view t) (ap viewed e));
    many = x.as_many;
    counted = taken_bound N z.bindings ∙ x.number;
    unbound = λ v l. none_viewed (z.bindings v) (x.far v l).0;
    unrequested = λ v l. (x.far v l).1;
    inside = λ v t e w i. x.inside v (view t) (ap viewed e) w (occurs_in w t i);
  }

-- ---- orders

-- the variable of a place is issued
pub find_issued : (p : VariablePlace) (ps : List VariablePlace) (v : ℕ) → find p ps ≡ some v → v < length ps
unfolding find
find_issued p [] v e = clash (cc)
find_issued p (q ∷ ps) v e = go (same_place p q) e (find_issued p ps v)
  where
    go : (b : Bool) → pick b (some (length ps)) (find p ps) ≡ some v → (find p ps ≡ some v → v < length ps) → v < suc (length ps)
    go true d f = let x : length ps ≡ v = cc in omega arith
    go false d f = let x = f d in omega arith

pub fresh_ordered : Ordered (issued fresh) fresh.solver
unfolding viewed
fresh_ordered = (in_order_begin S fallback never).table

module _ (lim : Limits) where
  pub order_ordered : (s : Session) (c : Command) → Ordered (issued s) s.solver → Ordered (issued (order lim s c).session) (order lim s c).session.solver
  order_ordered s c o =
      let h : History = record { session = s; requests = beginning.requests; posed = []; by = []; incompatible = false; cancelled = false } in
      let x : InOrderRun S fallback never (view_run h) = record { table = o; placed = λ r i v p. find_issued (at r i) s.places v p } in
      (subst (λ (y : Run S TheSession). InOrderRun S fallback never y) (order_view lim h c)
      (obey_in_order S fallback never (read (notion (strict c))) (respects (notion (strict c)) (notion_codes (strict c))) (view_run h) x (view_command lim s c))).table

  pub run_ordered : (s : Session) (cs : List Command) → Ordered (issued s) s.solver → Ordered (issued (run lim s cs)) (run lim s cs).solver
  unfolding run
  run_ordered s [] o = o
  run_ordered s (c ∷ cs) o = run_ordered (order lim s c).session cs (order_ordered s c o)

  -- EVERY ORDER KEEPS A SOLVER IN ORDER.
  pub order_in_order : (s : Session) (c : Command) → InOrder (issued s) s.solver → InOrder (issued (order lim s c).session) (order lim s c).session.solver
  order_in_order s c x =
      let y = (order lim s c).session in
      ordered_in_order (issued y) y.solver (order_ordered s c (in_order_ordered (issued s) s.solver x))

  -- and so does every list of orders
  pub run_in_order : (s : Session) (cs : List Command) → InOrder (issued s) s.solver → InOrder (issued (run lim s cs)) (run lim s cs).solver
  unfolding run
  run_in_order s [] x = x
  run_in_order s (c ∷ cs) x = run_in_order (order lim s c).session cs (order_in_order s c x)

-- A FRESH ONE IS IN ORDER.
pub fresh_in_order : InOrder (issued fresh) fresh.solver
fresh_in_order = ordered_in_order (issued fresh) fresh.solver fresh_ordered

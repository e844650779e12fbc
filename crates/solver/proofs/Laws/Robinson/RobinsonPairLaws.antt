-- Robinson 1965, pair by pair, in every session: carried over from the theory.
use mathlib.Core.Path.{◌≡◌, refl, sym, ap, ◌∙◌, subst}
use mathlib.Core.Bool.{Bool, true, false, ◌||◌}
use mathlib.Core.List.{List, [], ◌∷◌}
use mathlib.Core.Logic.{◌⊎◌, inl, inr, ite}
use mathlib.Core.Option.{none}
use Prim.Native.Nat.{ℕ, ◌+◌}
use borrow.Author.Tests.{eqb-true}
use Rattle.terms.specs.Result.{pick}
use Rattle.terms.specs.Term.{Term, var, size}
use Rattle.terms.specs.Tree.{same}
use Rattle.terms.specs.Questions.{meets}
use Rattle.terms.proofs.Laws.General.Bools.{never_true}
use Rattle.terms.proofs.Laws.Held.SameLaws.{same_true, same_refl}
use Rattle.unify.specs.Term as tree
use Rattle.unify.specs.Term.{Sort, Tree, nil, ◌▸◌, same?, clash, sub_ext}
use Rattle.unify.specs.Solver.{Out, cancelled, done}
use Rattle.unify.specs.Table.{answer}
use Rattle.unify.proofs.RobinsonPair as theory
use Rattle.unify.proofs.RobinsonPair.{Simple, FirstOrder, UnifiedBy, Poses, table_pair}
use Rattle.unify.proofs.Robinson.{Normal}
use Rattle.solver.specs.Shapes.{Notion, notion, read, read_all}
use Rattle.solver.specs.Constrain.{Solver, replace, resolved, always, occurs, is, recovery, projects, constrain}
use Rattle.solver.specs.Session.{Limits, Session, issued, fresh}
use Rattle.solver.specs.Orders.{Command, pair, Reply, verdict, Step, verdict_code, solver_of, posing, order, run}
use Rattle.solver.specs.Demand3.{outside}
use Rattle.solver.specs.Invariant.{InOrder, Settled}
use Rattle.solver.specs.Robinson.{Substitution, value, unifier, without, unification, resolves, Unmarked}
use Rattle.solver.specs.RobinsonPair.{FirstOrderIn, PlainPair, Decided, DecidedBy, RobinsonDecides}
use Rattle.solver.proofs.Laws.Theory.TheoryView.{T, view, view_injective, meets_view, some_of}
use Rattle.solver.proofs.Laws.Theory.Signature.{S, term?}
use Rattle.solver.proofs.Laws.Theory.TheoryViewLaws.{view_replace, view_resolve, view_read, in_occurs}
use Rattle.solver.proofs.Laws.Theory.ConstrainView.{view_table, view_out, settles_view}
use Rattle.solver.proofs.Laws.Theory.TheorySimulation.{known_yes}
use Rattle.solver.proofs.Laws.Theory.Demand3Laws.{respects, odd, or_both, outside_odd}
use Rattle.solver.proofs.Laws.Definition.SolverInvariantLaws.{Ordered}
use Rattle.solver.proofs.Laws.Definition.InvariantLaws.{settled_of, all_ordered}
use Rattle.solver.proofs.Laws.Definition.InOrderLaws.{in_order_ordered}
use Rattle.solver.proofs.Laws.Definition.NotionLaws.{notion_codes}
use Rattle.solver.proofs.Laws.Robinson.RobinsonLaws.{with_unifier, without_unifier, either, normal_map}

-- a term without Unknown, Error and projections, and unmarked
simple_tree : (m : Term → Term) {s : Sort} (t : Tree Term s) → some_of (λ v. false) odd t ≡ false → Normal S m t → Simple S m t
unfolding some_of odd
simple_tree m (tree.var v) e q = tt
simple_tree m (tree.node h ts) e q =
    let a = or_both (recovery h || projects h) (some_of (λ v. false) odd ts) e in
    let b = or_both (recovery h) (projects h) a.0 in
    (b.0, b.1, q.0, simple_tree m ts a.1 q.1)
simple_tree m nil e q = tt
simple_tree m (t ▸ ts) e q =
    let a = or_both (some_of (λ v. false) odd t) (some_of (λ v. false) odd ts) e in
    (simple_tree m t a.0 q.0, simple_tree m ts a.1 q.1)

pub simple_view : (n : Notion) (t : Term) → meets outside always t ≡ false → Unmarked n t → Simple S (read n) (view t)
unfolding outside
simple_view n t e q = simple_tree (read n) (view t) (sym (meets_view outside odd outside_odd t) ∙ e) (normal_map (read n) (view t) (sym (view_read n t) ∙ ap view q))

-- What a pair did: each variable that was free just before it, to what that one resolves to after it.
unfoldable newly : Session → Session → ℕ → Term
newly s y v = pick (same (resolves s v) (var v)) (resolves y v) (var v)

-- what a term resolves to, viewed
pub seen : (x : Session) (w : Term) → view (resolved x.solver w) ≡ answer S (view_table x.solver) (view w)
seen x w = view_resolve x.solver.revision x.solver.bindings w

module _ (lim : Limits) (b : Bool) where
  abbrev n : Notion
  n = notion b

  codes_count : n 4 ≡ false
  codes_count = notion_codes b

  module _ (s y : Session) where
    abbrev before : T → T
    before w = answer S (view_table s.solver) w

    abbrev after : T → T
    after w = answer S (view_table y.solver) w

    abbrev done_to : ℕ → T
    done_to = theory.newly S (read n) (respects n codes_count) before after

    newly_view : (v : ℕ) → view (newly s y v) ≡ done_to v
    unfolding newly theory.newly view
    newly_view v = go (same (resolves s v) (var v)) refl (same? term? (before (tree.var v)) (tree.var v))
      where
        go : (b : Bool) → same (resolves s v) (var v) ≡ b → (d : Dec (before (tree.var v) ≡ tree.var v)) → view (pick b (resolves y v) (var v)) ≡ ite d (after (tree.var v)) (tree.var v)
        go true e (yes d) = seen y (var v)
        go true e (no d) = absurd (d (sym (seen s (var v)) ∙ ap view (same_true (resolves s v) (var v) e)))
        go false e (yes d) = never_true (sym e ∙ ap (λ (x : Term). same x (var v)) (view_injective (resolves s v) (var v) (seen s (var v) ∙ d)) ∙ same_refl (var v))
        go false e (no d) = refl

    module _ (t u : Term) where
      abbrev t' : Term
      t' = resolved s.solver t

      abbrev u' : Term
      u' = resolved s.solver u

      to_trees : (θ : ℕ → Term) → replace θ t' ≡ replace θ u' → tree.sub (λ v. view (θ v)) (before (view t)) ≡ tree.sub (λ v. view (θ v)) (before (view u))
      to_trees θ q =
          ap (λ (x : T). tree.sub (λ v. view (θ v)) x) (sym (seen s t)) ∙ sym (view_replace θ t') ∙ ap view q ∙ view_replace θ u' ∙ ap (λ (x : T). tree.sub (λ v. view (θ v)) x) (seen s u)

      newly_replaced : (w : Term) → view (replace (newly s y) w) ≡ tree.sub done_to (view w)
      newly_replaced w = view_replace (newly s y) w ∙ sub_ext (view w) (λ v i. newly_view v)

      module _ (x : UnifiedBy S (read n) (respects n codes_count) done_to (before (view t)) (before (view u)) before after) where
        unifies_here : replace (newly s y) t' ≡ replace (newly s y) u'
        unifies_here = view_injective (replace (newly s y) t') (replace (newly s y) u') (
            newly_replaced t' ∙ ap (λ (w : T). tree.sub done_to w) (seen s t) ∙ x.unifies ∙ ap (λ (w : T). tree.sub done_to w) (sym (seen s u)) ∙ sym (newly_replaced u')
            )

        general_here : (θ : ℕ → Term) → replace θ t' ≡ replace θ u' → (v : ℕ) → θ v ≡ replace θ (newly s y v)
        general_here θ q v = view_injective (θ v) (replace θ (newly s y v)) (
            x.general (λ w. view (θ w)) (to_trees θ q) v ∙ ap (λ (w : T). tree.sub (λ v. view (θ v)) w) (sym (newly_view v)) ∙ sym (view_replace θ (newly s y v))
            )

        so_here : (w : Term) → resolved y.solver w ≡ replace (newly s y) (resolved s.solver w)
        so_here w = view_injective (resolved y.solver w) (replace (newly s y) (resolved s.solver w)) (
            seen y w ∙ x.so (view w) ∙ ap (λ (w : T). tree.sub done_to w) (sym (seen s w)) ∙ sym (newly_replaced (resolved s.solver w))
            )

        decided_yes : (r : Reply) → r ≡ verdict 1 → Decided s y t' u' (r ≡ verdict 1) (r ≡ verdict 0)
        decided_yes r e = go (either t' u')
          where
            go : ((σ : Substitution) × (unification t' u' ≡ unifier σ)) ⊎ (unification t' u' ≡ without) → Decided s y t' u' (r ≡ verdict 1) (r ≡ verdict 0)
            go (inr f) = absurd (without_unifier t' u' f (newly s y) unifies_here)
            go (inl f) = record {
              compatible = (λ q. f, λ q. e);
              unifiable = (λ q. (newly s y, unifies_here), λ q. e);
              incompatible = ((λ q. clash (cc (q, e))), λ q. clash (cc (f.1, q)));
              clashing = ((λ q. clash (cc (q, e))), λ q. absurd (q (newly s y) unifies_here));
              unified = λ σ q.
                  let w = with_unifier t' u' σ q in (
                    newly s y,
                    record {
                      his = record { unifies = (w.0, tt); general = λ θ a. (θ, w.1 θ a.0) };
                      ours = record { unifies = (unifies_here, tt); general = λ θ a. (θ, general_here θ a.0) };
                      forth = (value σ, general_here (value σ) w.0);
                      back = (newly s y, w.1 (newly s y) unifies_here);
                      applied = so_here;
                    },
                  );
            }

      decided_no : ((θ : ℕ → T) → ¬ (tree.sub θ (before (view t)) ≡ tree.sub θ (before (view u)))) → (r : Reply) → r ≡ verdict 0
          → Decided s y t' u' (r ≡ verdict 1) (r ≡ verdict 0)
      decided_no x r e = go (either t' u')
        where
          none_left : (θ : ℕ → Term) → ¬ (replace θ t' ≡ replace θ u')
          none_left θ q = x (λ v. view (θ v)) (to_trees θ q)

          go : ((σ : Substitution) × (unification t' u' ≡ unifier σ)) ⊎ (unification t' u' ≡ without) → Decided s y t' u' (r ≡ verdict 1) (r ≡ verdict 0)
          go (inl f) = absurd (none_left (value f.0) (with_unifier t' u' f.0 f.1).0)
          go (inr f) = record {
            compatible = ((λ q. clash (cc (q, e))), λ q. clash (cc (q.1, f)));
            unifiable = ((λ q. clash (cc (q, e))), λ q. absurd (none_left q.0 q.1));
            incompatible = (λ q. f, λ q. e);
            clashing = (λ q. none_left, λ q. e);
            unified = λ σ q. clash (cc (q, f));
          }

  -- the premise, viewed
  first : (s : Session) (t : Term) → FirstOrderIn n s t → FirstOrder S (read n) s.solver.requests (answer S (view_table s.solver) (view t))
  first s t f = subst (λ (x : T). FirstOrder S (read n) s.solver.requests x) (seen s t) (
    simple_view n (resolved s.solver t) f.plain f.unmarked,
    λ v i. f.numberless v (in_occurs v (resolved s.solver t) i),
  )

  module _ (s : Session) (sane : Ordered (issued s) s.solver) (t u : Term) (p : PlainPair lim b s t u) where
    -- a pair that is not refused
    poses : (k : ℕ) → order lim s (pair b k t u) ≡ posing lim s (size t + size u) (constrain n k s.solver t u)
    unfolding order
    poses k = rw (p.known_left, p.known_right, p.room)

    abbrev So : Step → Type 0
    So x = Decided s x.session (resolved s.solver t) (resolved s.solver u) (x.reply ≡ verdict 1) (x.reply ≡ verdict 0)

    final : (o : Out Solver) → Poses S (read n) (respects n codes_count) (view_table s.solver) (view t) (view u) (view_out o) → Settled o
        → So (posing lim s (size t + size u) o)
    unfolding view_out verdict_code solver_of
    final (cancelled z) q f = absurd f
    final (done z true) q f = decided_yes s (posing lim s (size t + size u) (done z true)).session t u q (verdict 1) refl
    final (done z false) q f = decided_no s (posing lim s (size t + size u) (done z false)).session t u q (verdict 0) refl

    shown : (k : ℕ) → Settled (constrain n k s.solver t u) → DecidedBy lim b s k t u
    shown k f = subst (λ (x : Step). So x) (sym (poses k)) (final (constrain n k s.solver t u)
        (subst (Poses S (read n) (respects n codes_count) (view_table s.solver) (view t) (view u)) (settles_view n k s.solver true ((t, u) ∷ []))
        (table_pair S (read n) (respects n codes_count) k (issued s) (view_table s.solver) sane.means sane.stands sane.counted sane.fine (view t) (view u)
        (known_yes s t p.known_left) (known_yes s u p.known_right) (first s t p.left) (first s u p.right))) f)

    ends_or_cut : (o : Out Solver) → Settled o ⊎ ((posing lim s (size t + size u) o).reply ≡ verdict 2)
    unfolding verdict_code
    ends_or_cut (cancelled z) = inr refl
    ends_or_cut (done z b) = inl tt

    pub decides_in : RobinsonDecides lim b s t u
    decides_in =
        let K = settled_of s sane n codes_count t u p.known_left p.known_right in
        record {
          checks = K.0;
          enough = λ k l. shown k (K.1 k l);
          fewer = λ k. elim (ends_or_cut (constrain n k s.solver t u)) [
            | inl f ↦ inr (shown k f)
            | inr e ↦ inl (ap (λ (x : Step). x.reply) (poses k) ∙ e)
          ];
        }

-- ---- the premise, by what a term resolves to

module _ (n : Notion) (s : Session) where
  pub first_order_in : (t w : Term) → resolved s.solver t ≡ w → meets outside always w ≡ false → Unmarked n w
      → ((v : ℕ) → occurs v w ≡ true → s.solver.requests v ≡ none) → FirstOrderIn n s t
  first_order_in t w e p m r = record {
    plain = ap (meets outside always) e ∙ p;
    unmarked = ap (read_all n) e ∙ m ∙ sym e;
    numberless = λ v o. r v (ap (occurs v) (sym e) ∙ o);
  }

  -- a free variable of which nothing is requested
  pub free_in : (v : ℕ) → resolved s.solver (var v) ≡ var v → s.solver.requests v ≡ none → FirstOrderIn n s (var v)
  unfolding meets outside read_all is
  free_in v e r = first_order_in (var v) (var v) e refl refl (λ w o. ap s.solver.requests (eqb-true w v o) ∙ r)

  -- a term without variables
  pub closed_in : (t w : Term) → resolved s.solver t ≡ w → meets outside always w ≡ false → Unmarked n w → ((v : ℕ) → occurs v w ≡ false) → FirstOrderIn n s t
  closed_in t w e p m o = first_order_in t w e p m (λ v q. never_true (sym (o v) ∙ q))

-- ---- the theorem

-- a pair that was not cancelled
pub not_cancelled : (lim : Limits) (b : Bool) (s : Session) (t u : Term) → RobinsonDecides lim b s t u → (k : ℕ) → ¬ ((order lim s (pair b k t u)).reply ≡ verdict 2) → DecidedBy lim b s k t u
not_cancelled lim b s t u d k uncut = elim (d.fewer k) [ inl e ↦ absurd (uncut e) | inr y ↦ y ]

-- ROBINSON 1965 DECIDES EACH PLAIN FIRST-ORDER PAIR, by its own order (4: up to Set and Map access; 22: with access), in every session in order
pub robinson_in : (lim : Limits) (b : Bool) (s : Session) → InOrder (issued s) s.solver → (t u : Term) → PlainPair lim b s t u → RobinsonDecides lim b s t u
robinson_in lim b s x t u p = decides_in lim b s (in_order_ordered (issued s) s.solver x) t u p

-- and so after every list of orders
pub robinson_each : (lim : Limits) (b : Bool) (cs : List Command) (t u : Term) → PlainPair lim b (run lim fresh cs) t u → RobinsonDecides lim b (run lim fresh cs) t u
robinson_each lim b cs t u p = decides_in lim b (run lim fresh cs) (all_ordered lim cs) t u p

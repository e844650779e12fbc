-- The Rust's `Solver` answers as the definition does, for every list of orders, and never panics. Both stand for one session over the
-- theory's substitutions.
use mathlib.Core.Path.{◌≡◌, refl, sym, ap, ap₂, ◌∙◌, subst}
use mathlib.Core.Bool.{Bool, true, false, not, ◌&&◌}
use mathlib.Core.List.{List, [], ◌∷◌, ◌++◌}
use mathlib.Core.Logic.{ite}
use mathlib.Core.Option.{Option, none, some}
use Prim.Native.Nat.{ℕ, zero, suc, ◌+◌, ◌≤◌, ◌<◌}
use native.Mathlib.Decide.{ℕ_discrete}
use native.Mathlib.Omega.{arith}
use borrow.Author.Tests.{eq-eqb, ne_eqb}
use lib.Dec.{eqb}
use lib.ListN.{length}
use Rattle.terms.specs.Result.{pick}
use Rattle.terms.specs.Term.{Term, var, node, end, num, size}
use Rattle.terms.specs.Shape.{kind_of}
use Rattle.terms.specs.Formed.{TakesNumber, after_number, Formed}
use Rattle.terms.proofs.Laws.General.Bools.{never_true, never_false}
use Rattle.terms.proofs.Laws.Held.SameLaws.{both}
use Rattle.terms.proofs.Laws.Replacing.SubstitutionLaws.{FormedOr}
use Rattle.unify.specs.Term as tree
use Rattle.unify.specs.Term.{In, clash}
use Rattle.unify.specs.Solver as theory
use Rattle.unify.specs.Solver.{State, Out, cancelled, done, put, put_same, put_other}
use Rattle.unify.proofs.Lazy.{resolve_right}
use Rattle.unify.specs.Orders.{Issued}
use Rattle.unify.specs.Table as table
use Rattle.unify.specs.Table.{Table}
use Rattle.unify.proofs.Refine.{Ends, tops, reach, idem_sub, settles_follows}
use Rattle.unify.specs.Session as session
use Rattle.unify.proofs.Whole.{Sane, sane_begin, sane_more, sane_asks, sane_bind}
use Rattle.unify.specs.RustMaps.{look, sorted, look_site}
use Rattle.unify.proofs.RustMapLaws.{look_insert, Once, once_insert, with_some, collect, sorted_collect}
use Rattle.unify.proofs.RustRounds.{Holds, holds_begin, holds_push, within}
use Rattle.solver.specs.Families.{Request, requested, default_of}
use Rattle.solver.specs.Shapes.{loose, notion, read}
use Rattle.solver.specs.Constrain as solving
use Rattle.solver.specs.Constrain.{resolved, top}
use Rattle.solver.specs.Session.{Limits, at, gap, same_place, Session, issued, find, fresh, issue_at, request, deferring, keep, never, settle_at, numeric_at, never_at, numeric_defaults_of, never_defaults_of}
use Rattle.solver.specs.Orders.{Command, variable, number, hole, defer, pair, resolving, numbers, nevers, revision, unread}
use Rattle.solver.specs.Orders.{Reply, term, verdict, changed, count, nothing, verdict_code, solver_of, known, full, crowded, unless, variable_step, number_at, hole_at, moved, keeps, posing, order, replies}
use Rattle.solver.specs.Demand3.{accepted}
use Rattle.solver.specs.Words.MethodContract.{is_some}
use Rattle.solver.specs.Rust.{and_then, Solver, default, with_numeric, resolve, variable_entry, hole_entry, returning, numeric_entry, diverge, defer_never, constrain}
use Rattle.solver.specs.Rust.{default_root, numeric_defaults, never_defaults, with_verdict, with_change, with_term, answer, with_answer, answers, OfRust, AllOfRust, given, unrefused}
use Rattle.solver.proofs.Laws.Theory.TheoryView.{T, view, view_injective}
use Rattle.solver.proofs.Laws.Theory.Signature.{S}
use Rattle.solver.proofs.Laws.Theory.TheoryViewLaws.{viewed, all_viewed, view_resolve, view_follow}
use Rattle.solver.proofs.Laws.Theory.ConstrainView.{view_table, view_out, settles_view, fallback, leaf_view, fill_view}
use Rattle.solver.proofs.Laws.Theory.TheorySimulation.{known_yes}
use Rattle.solver.proofs.Laws.Theory.Demand3Laws.{respects}
use Rattle.solver.proofs.Laws.Definition.DefaultLaws.{settle_requests, settle_same}
use Rattle.solver.proofs.Laws.Definition.RequestLaws.{taken_plain}
use Rattle.solver.proofs.Laws.Definition.InOrderLaws.{find_issued}
use Rattle.solver.proofs.Laws.Rust.RustPasses.{codes_count, view_bindings, view_numeric, push_view, long_view, asked, look_view, formed_push, low_insert, Proper, Held, resolve_held, Kept, kept_trans, bound, bound_some, bound_held, formed_bound, asks_held, MeetsOut, while_goes}

-- ---- a table and a solver of the Rust that stand for one session over N variables

pub record BothTable (N : ℕ) (tab : Table S) (z : Solver) : Type 0 where
  pub sane : Sane S fallback never (read loose) (respects loose codes_count) N tab
  pub held : Held N z sane.means
  pub proper : Proper z

abbrev pub Both : ℕ → solving.Solver → Solver → Type 0
Both N y z = BothTable N (view_table y) z

module _ (N : ℕ) (y : solving.Solver) (z : Solver) (b : Both N y z) where
  abbrev st : State S
  st = b.sane.means

  right : (t : Term) → view (resolved y t) ≡ tree.sub st.res (view t)
  right t = view_resolve y.revision y.bindings t ∙ resolve_right (all_viewed y.bindings) y.revision st.res b.sane.stands.rep (view t)

  both_resolve : (t : Term) → Issued N (view t) → resolve z t ≡ some (resolved y t)
  both_resolve t i =
      let a = resolve_held N z st b.held b.sane.fine t i in
      a.1 ∙ ap some (view_injective a.0 (resolved y t) (a.2 ∙ sym (right t)))

  both_revision : z.revision ≡ y.revision
  both_revision = b.held.stands.revs ∙ sym b.sane.stands.revs

  both_long : length z.bindings ≡ N
  both_long = sym (long_view z.bindings) ∙ b.held.long

  idem : (t : T) → tree.sub st.res (tree.sub st.res t) ≡ tree.sub st.res t
  idem = idem_sub S (read loose) (respects loose codes_count) N st b.sane.fine

  -- what a term with issued variables resolves to has issued variables
  resolved_issued : (t : Term) → Issued N (view t) → Issued N (view (resolved y t))
  resolved_issued t i v j = within S N st b.sane.fine (view t) i v (subst (λ (x : T). In v x) (right t) j)

var_issued : (N v : ℕ) → v < N → Issued N (view (var v))
unfolding view
var_issued N v l w e = omega arith

var_in : (v : ℕ) → In v (view (var v))
unfolding view
var_in v = refl

-- ---- defaults

formed_builtin : (c : ℕ) → c < 32 → Formed (node 4 (num c end))
unfolding Formed kind_of TakesNumber after_number
formed_builtin c l = (refl, (l, refl))

pub record Filled (N : ℕ) (y : solving.Solver) (z : Solver) (o : Option Solver) : Type 0 where
  pub out : Solver
  pub is : o ≡ some out
  pub both : Both N y out
  pub kept : Kept z out

-- the root of a variable, if it is a variable, is bound
fill_same : (N : ℕ) (y : solving.Solver) (z : Solver) → Both N y z → (c v : ℕ) → c < 32 → v < N
    → Filled N (settle_at y (λ w. node 4 (num c end)) (top y (var v))) z (default_root z c (resolved y (var v)))
unfolding default_root settle_at tree.sub view session.fill sane_bind
fill_same N y z b c v lc l = go (top y (var v)) (view_follow y.revision y.bindings (var v)) (resolved y (var v)) (right N y z b (var v))
  where
    s : State S
    s = b.sane.means

    tab : Table S
    tab = view_table y

    d : Term
    d = node 4 (num c end)

    above : tree.sub s.res (table.top S tab (tree.var v)) ≡ s.res v
    above = tops S tab s b.sane.stands (idem N y z b) [] [] tt (tree.var v)

    root : (w : ℕ) → table.top S tab (tree.var v) ≡ tree.var w → (w < N) × (tab.bound w ≡ none)
    root = reach S (read loose) (respects loose codes_count) N tab s b.sane.stands b.sane.fine (tree.var v) (tree.var v) refl (λ w e. omega arith)

    binds : (w : ℕ) → w < N → tab.bound w ≡ none → Filled N (settle_at y (λ w. d) (var w)) z (default_root z c (var w))
    binds w m e =
        let r = b.sane.stands.rep.unbound w e in
        let k = both_long N y z b in
        record {
          out = bound z w d;
          is = bound_some z w d (omega arith);
          both = subst (λ (x : Table S). BothTable N x (bound z w d)) (fill_view y (λ w. c) (var w)) (record {
            sane = sane_bind S fallback never (read loose) (respects loose codes_count) N tab d w m e b.sane;
            held = subst (λ (x : T). Held N (bound z w d) (theory.bind S s w x s.fam)) (leaf_view c)
                (bound_held N z s b.held (idem N y z b) w d m r (ap (λ (x : T). tree.sub s.res x) (leaf_view c) ∙ sym (leaf_view c)) (λ i. subst (λ (x : T). In w x) (leaf_view c) i));
            proper = (formed_bound z w d (omega arith) (formed_builtin c lc) b.proper.0, b.proper.1);
          });
          kept = (refl, refl, refl);
        }

    go : (t : Term) → view t ≡ table.top S tab (tree.var v) → (u : Term) → view u ≡ s.res v → Filled N (settle_at y (λ w. d) t) z (default_root z c u)
    go (var w) p u q =
        let a = root w (sym p) in
        let e : view u ≡ tree.var w = q ∙ sym above ∙ ap (λ (x : T). tree.sub s.res x) (sym p) ∙ b.sane.stands.rep.unbound w a.1 in
        subst (λ (x : Term). Filled N (settle_at y (λ w. d) (var w)) z (default_root z c x)) (sym (view_injective u (var w) e)) (binds w a.0 a.1)
    go (node k ps) p (var w) q = let e = q ∙ sym above ∙ ap (λ (x : T). tree.sub s.res x) (sym p) in clash (cc)
    go (node k ps) p (node j qs) q = record { out = z; is = refl; both = b; kept = (refl, refl, refl) }

-- the Rust's requests are plain, so a default takes the fallback
plain-same : (g : ℕ → Option ℕ) (y : solving.Solver) → ((w : ℕ) → y.requests w ≡ asked (g w)) → (c : ℕ) (t : Term)
    → settle_at y (λ w. node 4 (num c end)) t ≡ settle_at y (λ w. default_of (requested c) (y.requests w)) t
unfolding asked
plain-same g y e c t = settle_same y (λ w. node 4 (num c end)) (λ w. default_of (requested c) (y.requests w))
    (λ w. ap (λ (x : ℕ). node 4 (num x end)) (sym (taken_plain (requested c) (y.requests w) refl (λ s p. asked_plain (g w) s (sym (e w) ∙ p))))) t
  where
    asked_plain : (o : Option ℕ) (s : Request) → asked o ≡ some s → s.ranged ≡ false
    asked_plain none s p = clash (cc)
    asked_plain (some d) s p = let q : requested d ≡ s = cc in ap (λ (x : Request). x.ranged) (sym q)

numbers_same : (g : ℕ → Option ℕ) → ((v c : ℕ) → g v ≡ some c → c < 32) → (N m v : ℕ) (y : solving.Solver) (z : Solver) → v + m ≤ N → ((w : ℕ) → y.requests w ≡ asked (g w)) → Both N y z
    → Filled N (numeric_defaults_of m v y) z (numeric_defaults (collect m v g) z)
unfolding numeric_defaults_of numeric_at numeric_defaults collect with_some asked and_then
numbers_same g low N zero v y z l e b = record { out = z; is = refl; both = b; kept = (refl, refl, refl) }
numbers_same g low N (suc m) v y z l e b =
    subst (λ (o : Option Request). Filled N (numeric_defaults_of m (suc v) (numeric_at y v o)) z (numeric_defaults (with_some v (g v) (collect m (suc v) g)) z)) (sym (e v))
    (go (g v) refl (λ y' z' e' b'. numbers_same g low N m (suc v) y' z' (omega arith) e' b'))
  where
    go : (o : Option ℕ) → g v ≡ o
        → ((y' : solving.Solver) (z' : Solver) → ((w : ℕ) → y'.requests w ≡ asked (g w)) → Both N y' z' → Filled N (numeric_defaults_of m (suc v) y') z' (numeric_defaults (collect m (suc v) g) z'))
        → Filled N (numeric_defaults_of m (suc v) (numeric_at y v (asked o))) z (numeric_defaults (with_some v o (collect m (suc v) g)) z)
    go none q i = i y z e b
    go (some c) q i =
        let d : ℕ → Term = λ w. node 4 (num c end) in
        let f = fill_same N y z b c v (low v c q) (omega arith) in
        let r = i (settle_at y d (top y (var v))) f.out (λ w. ap (λ (h : ℕ → Option Request). h w) (settle_requests y d (top y (var v))) ∙ e w) f.both in
        subst (λ (x : solving.Solver). Filled N (numeric_defaults_of m (suc v) x) z (numeric_defaults ((v, c) ∷ collect m (suc v) g) z)) (plain-same g y e c (top y (var v)))
        (record {
          out = r.out;
          is = ap (λ (o : Option Term). and_then o (λ t. and_then (default_root z c t) (λ x. numeric_defaults (collect m (suc v) g) x))) (both_resolve N y z b (var v) (var_issued N v (omega arith)))
              ∙ ap (λ (o : Option Solver). and_then o (λ x. numeric_defaults (collect m (suc v) g) x)) f.is ∙ r.is;
          both = r.both;
          kept = kept_trans z f.out r.out f.kept r.kept;
        })

nevers_same : (d : ℕ → Bool) (g : ℕ → Option (Unit {0})) (N m v : ℕ) (y : solving.Solver) (z : Solver) → v + m ≤ N → ((w : ℕ) → is_some (g w) ≡ d w) → Both N y z
    → Filled N (never_defaults_of d m v y) z (never_defaults (collect m v g) z)
unfolding never_defaults_of never_at never_defaults collect with_some and_then
nevers_same d g N zero v y z l e b = record { out = z; is = refl; both = b; kept = (refl, refl, refl) }
nevers_same d g N (suc m) v y z l e b =
    subst (λ (o : Bool). Filled N (never_defaults_of d m (suc v) (never_at y v o)) z (never_defaults (with_some v (g v) (collect m (suc v) g)) z)) (e v)
    (go (g v) (λ y' z' b'. nevers_same d g N m (suc v) y' z' (omega arith) e b'))
  where
    go : (o : Option (Unit {0})) → ((y' : solving.Solver) (z' : Solver) → Both N y' z' → Filled N (never_defaults_of d m (suc v) y') z' (never_defaults (collect m (suc v) g) z'))
        → Filled N (never_defaults_of d m (suc v) (never_at y v (is_some o))) z (never_defaults (with_some v o (collect m (suc v) g)) z)
    go none i = i y z b
    go (some u) i =
        let f = fill_same N y z b 10 v (omega arith) (omega arith) in
        let r = i (settle_at y (λ w. never) (top y (var v))) f.out f.both in
        record {
          out = r.out;
          is = ap (λ (o : Option Term). and_then o (λ t. and_then (default_root z 10 t) (λ x. never_defaults (collect m (suc v) g) x))) (both_resolve N y z b (var v) (var_issued N v (omega arith)))
              ∙ ap (λ (o : Option Solver). and_then o (λ x. never_defaults (collect m (suc v) g) x)) f.is ∙ r.is;
          both = r.both;
          kept = kept_trans z f.out r.out f.kept r.kept;
        }

-- ---- a session and a solver of the Rust that have answered the same orders

pub record Same (s : Session) (z : Solver) : Type 0 where
  pub both : Both (issued s) s.solver z
  pub sites : (a i : ℕ) → look_site z.variables a i ≡ find (at a i) s.places
  pub holes : (a : ℕ) → look z.holes a ≡ find (gap a) s.places
  pub diverging : (v : ℕ) → is_some (look z.diverging v) ≡ s.deferred v
  pub once : Once z.diverging
  pub far : (v : ℕ) → issued s ≤ v → look z.diverging v ≡ none

-- the Rust's answer, and what it leaves
pub record Answered (s : Session) (r : Reply) (o : Option (Solver × Reply)) : Type 0 where
  pub out : Solver
  pub is : o ≡ some (out, r)
  pub same : Same s out

same_begin : Same fresh default
unfolding sane_begin look look_site find viewed FormedOr
same_begin = record {
  both = record { sane = sane_begin S fallback never (read loose) (respects loose codes_count); held = holds_begin S; proper = ((λ v. tt), λ v c e. clash (cc)) };
  sites = λ a i. refl;
  holes = λ a. refl;
  diverging = λ v. refl;
  once = tt;
  far = λ v l. refl;
}

-- another solver with the same places
same_solver : (s : Session) (z z' : Solver) (y : solving.Solver) → Same s z → Kept z z' → Both (issued s) y z' → (m : ℕ)
    → Same (record { solver = y; places = s.places; deferred = s.deferred; kept = m }) z'
same_solver s z z' y x k b m = record {
  both = b;
  sites = λ a i. ap (λ (ps : List (ℕ × ℕ × ℕ)). look_site ps a i) k.0 ∙ x.sites a i;
  holes = λ a. ap (λ (ps : List (ℕ × ℕ)). look ps a) k.1 ∙ x.holes a;
  diverging = λ v. ap (λ (ps : List (ℕ × Unit {0})). is_some (look ps v)) k.2 ∙ x.diverging v;
  once = subst (λ (ps : List (ℕ × Unit {0})). Once ps) (sym k.2) x.once;
  far = λ v l. ap (λ (ps : List (ℕ × Unit {0})). look ps v) k.2 ∙ x.far v l;
}

module _ (s : Session) (z : Solver) (x : Same s z) where
  abbrev N : ℕ
  N = issued s

  long : length z.bindings ≡ N
  long = both_long N s.solver z x.both

  -- one variable more
  abbrev pushed_held : Holds S (suc N) (view_bindings (z.bindings ++ (none ∷ []))) (view_numeric z.numeric) z.revision x.both.sane.means
  pushed_held =
      subst (λ (bs : List (Option T)). Holds S (suc N) bs (view_numeric z.numeric) z.revision x.both.sane.means) (push_view z.bindings)
      (holds_push S N (view_bindings z.bindings) (view_numeric z.numeric) z.revision x.both.sane.means x.both.held (read loose) (respects loose codes_count))

  -- order 0
  entry_same : (site slot : ℕ) → Same (issue_at s (at site slot)) (variable_entry z site slot none).0
  unfolding variable_entry sane_more find same_place look_site
  entry_same site slot = record {
    both = record {
      sane = sane_more S fallback never (read loose) (respects loose codes_count) N (view_table s.solver) x.both.sane;
      held = pushed_held;
      proper = (formed_push z.bindings x.both.proper.0, x.both.proper.1);
    };
    sites = λ a i. outer a i (ℕ_discrete a site) (ℕ_discrete i slot);
    holes = x.holes;
    diverging = x.diverging;
    once = x.once;
    far = λ v l. x.far v (omega arith);
  }
    where
      outer : (a i : ℕ) (d : Dec (a ≡ site)) (e : Dec (i ≡ slot))
          → ite d (ite e (some (length z.bindings)) (look_site z.variables a i)) (look_site z.variables a i) ≡ pick (eqb a site && eqb i slot) (some N) (find (at a i) s.places)
      outer a i (yes p) (yes q) = rw (eq-eqb a site p, eq-eqb i slot q) (ap some long)
      outer a i (yes p) (no q) = rw (eq-eqb a site p, ne_eqb i slot q) (x.sites a i)
      outer a i (no p) e = rw (ne_eqb a site p) (x.sites a i)

  -- order 2
  hole_same : (site : ℕ) → Same (issue_at s (gap site)) (hole_entry z site none).0
  unfolding hole_entry sane_more find same_place look
  hole_same site = record {
    both = record {
      sane = sane_more S fallback never (read loose) (respects loose codes_count) N (view_table s.solver) x.both.sane;
      held = pushed_held;
      proper = (formed_push z.bindings x.both.proper.0, x.both.proper.1);
    };
    sites = x.sites;
    holes = λ a. go a (ℕ_discrete a site);
    diverging = x.diverging;
    once = x.once;
    far = λ v l. x.far v (omega arith);
  }
    where
      go : (a : ℕ) (d : Dec (a ≡ site)) → ite d (some (length z.bindings)) (look z.holes a) ≡ pick (eqb a site) (some N) (find (gap a) s.places)
      go a (yes p) = rw (eq-eqb a site p) (ap some long)
      go a (no p) = rw (ne_eqb a site p) (x.holes a)

  -- order 1
  asks_same : (v c : ℕ) → v < N → c < 32 → Same (request s v (requested c)) (with_numeric z v c)
  unfolding sane_asks
  asks_same v c l m = record {
    both = record {
      sane = sane_asks S fallback never (read loose) (respects loose codes_count) N (view_table s.solver) v (requested c) l x.both.sane;
      held = asks_held N z x.both.sane.means x.both.held v c;
      proper = (x.both.proper.0, low_insert z.numeric v c m x.both.proper.1);
    };
    sites = x.sites;
    holes = x.holes;
    diverging = x.diverging;
    once = x.once;
    far = x.far;
  }

  -- order 3
  defer_same : (u : Term) → ((v : ℕ) → u ≡ var v → v < N) → Same (deferring s u) (diverge z u)
  unfolding deferring diverge
  defer_same (node k ps) b = x
  defer_same (var v) b = record {
    both = record { sane = x.both.sane; held = x.both.held; proper = x.both.proper };
    sites = x.sites;
    holes = x.holes;
    diverging = λ w. ap (λ (g : ℕ → Option (Unit {0})). is_some (g w)) (look_insert z.diverging v tt) ∙ go w (ℕ_discrete w v);
    once = once_insert z.diverging v tt x.once;
    far = λ w l. ap (λ (g : ℕ → Option (Unit {0})). g w) (look_insert z.diverging v tt) ∙ put_other (look z.diverging) v (some tt) w (λ e. let q = b v refl in omega arith) ∙ x.far w l;
  }
    where
      go : (w : ℕ) → Dec (w ≡ v) → is_some (put (look z.diverging) v (some tt) w) ≡ put s.deferred v true w
      go w (yes e) = rw e (ap is_some (put_same (look z.diverging) v (some tt)) ∙ sym (put_same s.deferred v true))
      go w (no e) = ap is_some (put_other (look z.diverging) v (some tt) w e) ∙ x.diverging w ∙ sym (put_other s.deferred v true w e)

  -- order 4: both end as the theory does
  pair_same : (k : ℕ) (t u : Term) → Issued N (view t) → Issued N (view u) → Formed t → Formed u → (m : ℕ)
      → Answered (keep s (solver_of (solving.constrain loose k s.solver t u)) m) (verdict (verdict_code (solving.constrain loose k s.solver t u)))
      (and_then (constrain k z t u) (λ o. some (with_verdict o)))
  unfolding and_then with_verdict solver_of verdict_code view_out
  pair_same k t u it iu ft fu m =
      let w = while_goes k N z z x.both.sane.means true ((t, u) ∷ []) (refl, refl, refl) x.both.held x.both.sane.fine (it, iu, tt) x.both.proper (ft, fu, tt) in
      let e = settles_follows S (read loose) (respects loose codes_count) k N (view_table s.solver) x.both.sane.means true true ((view t, view u) ∷ []) ((view t, view u) ∷ [])
      x.both.sane.stands x.both.sane.counted refl x.both.sane.fine (it, iu, tt) (refl, refl, tt) in
      subst (λ (o : Option (Out Solver)). Answered (keep s (solver_of (solving.constrain loose k s.solver t u)) m) (verdict (verdict_code (solving.constrain loose k s.solver t u))) (and_then o (λ o. some (with_verdict o))))
      (sym w.is)
      (go (solving.constrain loose k s.solver t u) (theory.constrain S (read loose) k x.both.sane.means true ((view t, view u) ∷ [])) w.out
      (subst (λ (o : Out (Table S)). Ends S (read loose) (respects loose codes_count) N o (theory.constrain S (read loose) k x.both.sane.means true ((view t, view u) ∷ []))) (settles_view loose k s.solver true ((t, u) ∷ [])) e)
      w.meets)
    where
      ended : (y : solving.Solver) (z' : Solver) (p : State S) (a : Ends S (read loose) (respects loose codes_count) N (cancelled (view_table y)) (cancelled p)) → Held N z' p × Kept z z' × Proper z' → Same (keep s y m) z'
      ended y z' p a b = same_solver s z z' y x b.1 (record { sane = record { means = p; stands = a.0; counted = a.1; fine = a.2 }; held = b.0; proper = b.2 }) (s.kept + m)

      go : (o : Out solving.Solver) (p : Out (State S)) (q : Out Solver) → Ends S (read loose) (respects loose codes_count) N (view_out o) p → MeetsOut N z q p
          → Answered (keep s (solver_of o) m) (verdict (verdict_code o)) (some (with_verdict q))
      go (cancelled y) (cancelled p) (cancelled z') a b = record { out = z'; is = refl; same = ended y z' p a b }
      go (cancelled y) (cancelled p) (done z' c) a b = absurd b
      go (cancelled y) (done p c) q a b = absurd a
      go (done y c) (cancelled p) q a b = absurd a
      go (done y c) (done p d) (cancelled z') a b = absurd b
      go (done y true) (done p d) (done z' true) a b = record { out = z'; is = refl; same = ended y z' p (a.0, a.1, a.2) (b.0, b.1, b.2) }
      go (done y true) (done p d) (done z' false) a b = clash (cc (a.3, b.3))
      go (done y false) (done p d) (done z' true) a b = clash (cc (a.3, b.3))
      go (done y false) (done p d) (done z' false) a b = record { out = z'; is = refl; same = ended y z' p (a.0, a.1, a.2) (b.0, b.1, b.2) }

  -- orders 6 and 7
  change_same : (y : solving.Solver) (z' : Solver) → Both N y z' → with_change z z' ≡ (z', changed (not (eqb y.revision s.solver.revision)))
  change_same y z' b = ap₂ (λ (i j : ℕ). (z', changed (not (eqb i j)))) (both_revision N y z' b) (both_revision N s.solver z x.both)

  filled : (y : solving.Solver) (o : Option Solver) → Filled N y z o
      → Answered (record { solver = y; places = s.places; deferred = s.deferred; kept = s.kept }) (changed (not (eqb y.revision s.solver.revision))) (and_then o (λ z'. some (with_change z z')))
  unfolding and_then
  filled y o f = record {
    out = f.out;
    is = ap (λ (p : Option Solver). and_then p (λ z'. some (with_change z z'))) f.is ∙ ap some (change_same y f.out f.both);
    same = same_solver s z f.out y x f.kept f.both s.kept;
  }

  asked_none : (a : Option ℕ) → asked a ≡ none → a ≡ none
  unfolding asked
  asked_none none e = refl
  asked_none (some c) e = clash (cc)

  once_back : (ns : List (ℕ × ℕ)) → Once (view_numeric ns) → Once ns
  once_back [] o = tt
  once_back (p ∷ ns) o = (asked_none (look ns p.0) (sym (look_view ns p.0) ∙ o.0), once_back ns o.1)

  requests_look : (v : ℕ) → s.solver.requests v ≡ asked (look z.numeric v)
  requests_look v =
      ap (λ (f : ℕ → Option Request). f v) (x.both.sane.stands.fams ∙ sym x.both.held.stands.fams) ∙ look_view z.numeric v

  numbers_fill : Filled N (numeric_defaults_of N 0 s.solver) z (numeric_defaults (sorted z.numeric) z)
  numbers_fill =
      let e : sorted z.numeric ≡ collect N 0 (look z.numeric) =
      sorted_collect N z.numeric (once_back z.numeric x.both.held.once)
      (λ v l. asked_none (look z.numeric v) (sym (look_view z.numeric v) ∙ ap (λ (f : ℕ → Option Request). f v) x.both.held.stands.fams ∙ (x.both.sane.fine.fresh v l).1)) in
      subst (λ (ps : List (ℕ × ℕ)). Filled N (numeric_defaults_of N 0 s.solver) z (numeric_defaults ps z)) (sym e)
      (numbers_same (look z.numeric) x.both.proper.1 N N 0 s.solver z (omega arith) requests_look x.both)

  nevers_fill : Filled N (never_defaults_of s.deferred N 0 s.solver) z (never_defaults (sorted z.diverging) z)
  nevers_fill =
      let e : sorted z.diverging ≡ collect N 0 (look z.diverging) = sorted_collect N z.diverging x.once x.far in
      subst (λ (ps : List (ℕ × Unit {0})). Filled N (never_defaults_of s.deferred N 0 s.solver) z (never_defaults ps z)) (sym e)
      (nevers_same s.deferred (look z.diverging) N N 0 s.solver z (omega arith) x.diverging x.both)

-- ---- each order

-- an order 1 at an issued variable
request_answered : (s : Session) (z : Solver) → Same s z → (v c : ℕ) → v < issued s → c < 32
    → Answered (request s v (requested c)) (term (resolved s.solver (var v))) (and_then (numeric_entry z c (var v)) (λ x. some (with_term x)))
unfolding and_then numeric_entry returning with_term
request_answered s z x v c l m =
    let y = asks_same s z x v c l m in
    record {
      out = with_numeric z v c;
      is = ap (λ (o : Option Term). and_then (returning (with_numeric z v c) o) (λ x. some (with_term x)))
          (both_resolve (issued s) (request s v (requested c)).solver (with_numeric z v c) y.both (var v) (var_issued (issued s) v l));
      same = y;
    }

module _ (lim : Limits) where
  -- a refused order leaves the session
  pub refused_stays : (s : Session) (c : Command) → accepted (order lim s c).reply ≡ false → (order lim s c).session ≡ s
  unfolding order variable_step number_at hole_at accepted
  refused_stays s (variable site slot) = go (find (at site slot) s.places) (full lim s)
    where
      go : (o : Option ℕ) (b : Bool) → accepted (variable_step lim s (at site slot) o b).reply ≡ false → (variable_step lim s (at site slot) o b).session ≡ s
      go (some v) b e = never_false e
      go none true e = refl
      go none false e = never_false e
  refused_stays s (number site r) = go (find (at site 1) s.places) (full lim s)
    where
      go : (o : Option ℕ) (b : Bool) → accepted (number_at lim s (at site 1) r o b).reply ≡ false → (number_at lim s (at site 1) r o b).session ≡ s
      go (some v) b e = never_false e
      go none true e = refl
      go none false e = never_false e
  refused_stays s (hole site) = go (find (gap site) s.places) (full lim s)
    where
      go : (o : Option ℕ) (b : Bool) → accepted (hole_at lim s (gap site) o b).reply ≡ false → (hole_at lim s (gap site) o b).session ≡ s
      go (some v) b e = never_false e
      go none true e = refl
      go none false e = never_false e
  refused_stays s (defer t) = go (known s t) (crowded lim s (size t))
    where
      go : (a b : Bool) → accepted (unless lim s a b (record { session = deferring s (resolved s.solver t); reply = nothing })).reply ≡ false
          → (unless lim s a b (record { session = deferring s (resolved s.solver t); reply = nothing })).session ≡ s
      go true true e = refl
      go true false e = never_false e
      go false b e = refl
  refused_stays s (pair d k t u) = go (known s t && known s u) (crowded lim s (size t + size u))
    where
      go : (a b : Bool) → accepted (unless lim s a b (posing lim s (size t + size u) (solving.constrain (notion d) k s.solver t u))).reply ≡ false
          → (unless lim s a b (posing lim s (size t + size u) (solving.constrain (notion d) k s.solver t u))).session ≡ s
      go true true e = refl
      go true false e = never_false e
      go false b e = refl
  refused_stays s (resolving t) = go (known s t) (crowded lim s (size t))
    where
      go : (a b : Bool) → accepted (unless lim s a b (record { session = s; reply = term (resolved s.solver t) })).reply ≡ false
          → (unless lim s a b (record { session = s; reply = term (resolved s.solver t) })).session ≡ s
      go true true e = refl
      go true false e = refl
      go false b e = refl
  refused_stays s numbers = λ e. never_false e
  refused_stays s nevers = λ e. never_false e
  refused_stays s revision = λ e. refl
  refused_stays s (unread r) = λ e. refl

  -- AN ORDER THAT IS NOT REFUSED: the same answer, no panic, and the two agree after it.
  order_same : (s : Session) (z : Solver) → Same s z → (c : Command) → OfRust c → accepted (order lim s c).reply ≡ true
      → Answered (order lim s c).session (order lim s c).reply (answer z c)
  unfolding order answer variable_step number_at hole_at accepted variable_entry hole_entry with_term and_then returning
  order_same s z x (variable site slot) f =
      subst (λ (o : Option ℕ). accepted (variable_step lim s (at site slot) (find (at site slot) s.places) (full lim s)).reply ≡ true
      → Answered (variable_step lim s (at site slot) (find (at site slot) s.places) (full lim s)).session (variable_step lim s (at site slot) (find (at site slot) s.places) (full lim s)).reply (some (with_term (variable_entry z site slot o))))
      (sym (x.sites site slot)) (go (find (at site slot) s.places) (full lim s))
    where
      go : (o : Option ℕ) (b : Bool) → accepted (variable_step lim s (at site slot) o b).reply ≡ true
          → Answered (variable_step lim s (at site slot) o b).session (variable_step lim s (at site slot) o b).reply (some (with_term (variable_entry z site slot o)))
      go (some v) b e = record { out = z; is = refl; same = x }
      go none true e = never_true e
      go none false e = record {
        out = (variable_entry z site slot none).0;
        is = ap (λ (i : ℕ). some ((variable_entry z site slot none).0, term (var i))) (long s z x);
        same = entry_same s z x site slot;
      }
  order_same s z x (number site r) f =
      subst (λ (o : Option ℕ). accepted (number_at lim s (at site 1) r (find (at site 1) s.places) (full lim s)).reply ≡ true
      → Answered (number_at lim s (at site 1) r (find (at site 1) s.places) (full lim s)).session (number_at lim s (at site 1) r (find (at site 1) s.places) (full lim s)).reply (told o))
      (sym (x.sites site 1)) (go (find (at site 1) s.places) refl (full lim s))
    where
      told : Option ℕ → Option (Solver × Reply)
      told o = and_then (numeric_entry (variable_entry z site 1 o).0 r.fallback (variable_entry z site 1 o).1) (λ x. some (with_term x))

      here : (q : Session) (y : Solver) → Same q y → (v : ℕ) → v < issued q
          → Answered (request q v r) (term (resolved q.solver (var v))) (and_then (numeric_entry y r.fallback (var v)) (λ x. some (with_term x)))
      here q y w v l =
          subst (λ (p : Request). Answered (request q v p) (term (resolved q.solver (var v))) (and_then (numeric_entry y r.fallback (var v)) (λ x. some (with_term x)))) (sym f.0)
          (request_answered q y w v r.fallback l f.1)

      go : (o : Option ℕ) → find (at site 1) s.places ≡ o → (b : Bool) → accepted (number_at lim s (at site 1) r o b).reply ≡ true
          → Answered (number_at lim s (at site 1) r o b).session (number_at lim s (at site 1) r o b).reply (told o)
      go (some v) q b e = here s z x v (find_issued (at site 1) s.places v q)
      go none q true e = never_true e
      go none q false e =
          let z' = (variable_entry z site 1 none).0 in
          subst (λ (i : ℕ). Answered (request (issue_at s (at site 1)) (issued s) r) (term (resolved s.solver (var (issued s)))) (and_then (numeric_entry z' r.fallback (var i)) (λ x. some (with_term x))))
          (sym (long s z x)) (here (issue_at s (at site 1)) z' (entry_same s z x site 1) (issued s) (omega arith))
  order_same s z x (hole site) f =
      subst (λ (o : Option ℕ). accepted (hole_at lim s (gap site) (find (gap site) s.places) (full lim s)).reply ≡ true
      → Answered (hole_at lim s (gap site) (find (gap site) s.places) (full lim s)).session (hole_at lim s (gap site) (find (gap site) s.places) (full lim s)).reply (told o))
      (sym (x.holes site)) (go (find (gap site) s.places) refl (full lim s))
    where
      told : Option ℕ → Option (Solver × Reply)
      told o = and_then (returning (hole_entry z site o).0 (resolve (hole_entry z site o).0 (var (hole_entry z site o).1))) (λ x. some (with_term x))

      here : (q : Session) (y : Solver) → Same q y → (v : ℕ) → v < issued q
          → Answered q (term (resolved q.solver (var v))) (and_then (returning y (resolve y (var v))) (λ x. some (with_term x)))
      here q y w v l = record {
        out = y;
        is = ap (λ (o : Option Term). and_then (returning y o) (λ x. some (with_term x))) (both_resolve (issued q) q.solver y w.both (var v) (var_issued (issued q) v l));
        same = w;
      }

      go : (o : Option ℕ) → find (gap site) s.places ≡ o → (b : Bool) → accepted (hole_at lim s (gap site) o b).reply ≡ true
          → Answered (hole_at lim s (gap site) o b).session (hole_at lim s (gap site) o b).reply (told o)
      go (some v) q b e = here s z x v (find_issued (gap site) s.places v q)
      go none q true e = never_true e
      go none q false e =
          let z' = (hole_entry z site none).0 in
          subst (λ (i : ℕ). Answered (issue_at s (gap site)) (term (resolved s.solver (var (issued s)))) (and_then (returning z' (resolve z' (var i))) (λ x. some (with_term x))))
          (sym (long s z x)) (here (issue_at s (gap site)) z' (hole_same s z x site) (issued s) (omega arith))
  order_same s z x (defer t) f = go (known s t) refl (crowded lim s (size t))
    where
      go : (a : Bool) → known s t ≡ a → (b : Bool) → accepted (unless lim s a b (record { session = deferring s (resolved s.solver t); reply = nothing })).reply ≡ true
          → Answered (unless lim s a b (record { session = deferring s (resolved s.solver t); reply = nothing })).session (unless lim s a b (record { session = deferring s (resolved s.solver t); reply = nothing })).reply
          (and_then (defer_never z t) (λ z. some (z, nothing)))
      go true q true e = never_true e
      go true q false e =
          let i = known_yes s t q in
          record {
            out = diverge z (resolved s.solver t);
            is = ap (λ (o : Option Term). and_then (and_then o (λ u. some (diverge z u))) (λ z. some (z, nothing))) (both_resolve (issued s) s.solver z x.both t i);
            same = defer_same s z x (resolved s.solver t) (λ v p. resolved_issued (issued s) s.solver z x.both t i v (subst (λ (u : Term). In v (view u)) (sym p) (var_in v)));
          }
      go false q b e = never_true e
  order_same s z x (pair true k t u) f = never_false f.0
  order_same s z x (pair false k t u) f = go (known s t && known s u) refl (crowded lim s (size t + size u))
    where
      go : (a : Bool) → (known s t && known s u) ≡ a → (b : Bool) → accepted (unless lim s a b (posing lim s (size t + size u) (solving.constrain loose k s.solver t u))).reply ≡ true
          → Answered (unless lim s a b (posing lim s (size t + size u) (solving.constrain loose k s.solver t u))).session (unless lim s a b (posing lim s (size t + size u) (solving.constrain loose k s.solver t u))).reply
          (and_then (constrain k z t u) (λ o. some (with_verdict o)))
      go true q true e = never_true e
      go true q false e =
          let a = both (known s t) (known s u) q in
          pair_same s z x k t u (known_yes s t a.0) (known_yes s u a.1) f.1 f.2 (keeps (moved s.solver (solver_of (solving.constrain loose k s.solver t u))) (size t + size u))
      go false q b e = never_true e
  order_same s z x (resolving t) f = go (known s t) refl (crowded lim s (size t))
    where
      go : (a : Bool) → known s t ≡ a → (b : Bool) → accepted (unless lim s a b (record { session = s; reply = term (resolved s.solver t) })).reply ≡ true
          → Answered (unless lim s a b (record { session = s; reply = term (resolved s.solver t) })).session (unless lim s a b (record { session = s; reply = term (resolved s.solver t) })).reply
          (and_then (resolve z t) (λ u. some (z, term u)))
      go true q true e = never_true e
      go true q false e = record {
        out = z;
        is = ap (λ (o : Option Term). and_then o (λ u. some (z, term u))) (both_resolve (issued s) s.solver z x.both t (known_yes s t q));
        same = x;
      }
      go false q b e = never_true e
  order_same s z x numbers f = λ e. filled s z x (numeric_defaults_of (issued s) 0 s.solver) (numeric_defaults (sorted z.numeric) z) (numbers_fill s z x)
  order_same s z x nevers f = λ e. filled s z x (never_defaults_of s.deferred (issued s) 0 s.solver) (never_defaults (sorted z.diverging) z) (nevers_fill s z x)
  order_same s z x revision f = λ e. record { out = z; is = ap (λ (i : ℕ). some (z, count i)) (both_revision (issued s) s.solver z x.both); same = x }
  order_same s z x (unread r) f = λ e. never_true e

  all_same : (s : Session) (z : Solver) → Same s z → (cs : List Command) → AllOfRust (given lim s cs) → answers z (given lim s cs) ≡ some (unrefused (replies lim s cs))
  unfolding answers given replies unrefused and_then with_answer
  all_same s z x [] f = refl
  all_same s z x (c ∷ cs) f =
      go (accepted (order lim s c).reply) refl
      (λ z' y g. all_same (order lim s c).session z' y cs g) f
    where
      s' : Session
      s' = (order lim s c).session

      r : Reply
      r = (order lim s c).reply

      go : (b : Bool) → accepted (order lim s c).reply ≡ b
          → ((z' : Solver) → Same s' z' → AllOfRust (given lim s' cs) → answers z' (given lim s' cs) ≡ some (unrefused (replies lim s' cs)))
          → AllOfRust (pick b (c ∷ given lim s' cs) (given lim s' cs))
          → answers z (pick b (c ∷ given lim s' cs) (given lim s' cs)) ≡ some (pick b (r ∷ unrefused (replies lim s' cs)) (unrefused (replies lim s' cs)))
      go true e i f =
          let a = order_same s z x c f.0 e in
          ap (λ (o : Option (Solver × Reply)). and_then o (λ x. with_answer x.1 (answers x.0 (given lim s' cs)))) a.is
          ∙ ap (with_answer r) (i a.out a.same f.1)
      go false e i f = i z (subst (λ (q : Session). Same q z) (sym (refused_stays s c e)) x) f

  -- where all orders are such as the Rust has, those that are not refused are
  pub given_of_rust : (s : Session) (cs : List Command) → AllOfRust cs → AllOfRust (given lim s cs)
  unfolding given
  given_of_rust s [] f = tt
  given_of_rust s (c ∷ cs) f = go (accepted (order lim s c).reply) (given_of_rust (order lim s c).session cs f.1)
    where
      go : (b : Bool) → AllOfRust (given lim (order lim s c).session cs) → AllOfRust (pick b (c ∷ given lim (order lim s c).session cs) (given lim (order lim s c).session cs))
      go true g = (f.0, g)
      go false g = g

  -- THE RUST'S SOLVER ANSWERS AS THE DEFINITION DOES, for every list of orders of which those that are not refused are such as the Rust has, as they are read, for
  -- all limits: given these, in turn, it gives their answers, and never comes to an `unreachable!` or an index out of range.
  pub rust_same : (cs : List Command) → AllOfRust (given lim fresh cs) → answers default (given lim fresh cs) ≡ some (unrefused (replies lim fresh cs))
  rust_same cs f = all_same fresh default same_begin cs f

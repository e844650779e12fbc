-- What is bound stays bound, to the same term, and what is issued stays issued: so it is of a session and one that later orders lead to.
use mathlib.Core.Path.{◌≡◌, refl, ap, ◌∙◌, subst}
use mathlib.Core.Bool.{Bool, true, false, ◌&&◌}
use mathlib.Core.List.{List, [], ◌∷◌}
use mathlib.Core.Option.{Option, none, some}
use Prim.Native.Nat.{ℕ, zero, suc, ◌+◌, ◌≤◌, ◌<◌}
use native.Mathlib.Omega.{arith}
use Rattle.terms.specs.Term.{Term, var, node, end, num, size}
use Rattle.unify.specs.Term.{clash}
use Rattle.unify.specs.Solver.{put_other}
use Rattle.unify.specs.Table.{Table}
use Rattle.unify.proofs.Whole.{Sane, sane_fill}
use Rattle.solver.specs.Families.{Request, taken}
use Rattle.solver.specs.Shapes.{Notion, loose, notion, read}
use Rattle.solver.specs.Constrain.{Solver, resolved, top, Pair, check_pair, settles, constrain}
use Rattle.solver.specs.Session.{Limits, Session, at, gap, issued, find, deferring, never, settle_at, numeric_at, never_at, numeric_defaults_of, never_defaults_of}
use Rattle.solver.specs.Orders.{Command, variable, number, hole, defer, pair, resolving, numbers, nevers, revision, unread}
use Rattle.solver.specs.Orders.{term, nothing, ◌gives◌, known, full, crowded, unless, variable_step, number_at, hole_at, solver_of, posing, order, run}
use Rattle.solver.specs.Words.ConstrainContract.{Within, AllWithin}
use Rattle.solver.proofs.Laws.Theory.Signature.{S}
use Rattle.solver.proofs.Laws.Theory.ConstrainView.{view_table, fallback, at_view}
use Rattle.solver.proofs.Laws.Theory.TheorySimulation.{known_yes, yes_known}
use Rattle.solver.proofs.Laws.Theory.Demand3Laws.{respects}
use Rattle.solver.proofs.Laws.Definition.SolverInvariantLaws.{Ordered, ordered_sane, sane_ordered, issued_within, top_free}
use Rattle.solver.proofs.Laws.Definition.InOrderLaws.{order_ordered}
use Rattle.solver.proofs.Laws.Definition.NotionLaws.{notion_codes}
use Rattle.solver.proofs.Laws.Definition.CheckStepLaws.{turn_ordered, turn_within, turn_extends}

abbrev pub Extends : Solver → Solver → Type 0
Extends z y = (v : ℕ) (t : Term) → z.bindings v ≡ some t → y.bindings v ≡ some t

-- y comes after s
pub record Later (s y : Session) : Type 0 where
  pub bindings : Extends s.solver y.solver
  pub count : issued s ≤ issued y

later_refl : (s : Session) → Later s s
later_refl s = record { bindings = λ v t e. e; count = omega arith }

later_trans : (s y x : Session) → Later s y → Later y x → Later s x
later_trans s y x a b = record { bindings = λ v t e. b.bindings v t (a.bindings v t e); count = let p = a.count in let q = b.count in omega arith }

pub later_known : (s y : Session) → Later s y → (t : Term) → known s t ≡ true → known y t ≡ true
later_known s y a t e = yes_known y t (λ v i. let p = known_yes s t e v i in let q = a.count in omega arith)

module _ (n : Notion) (codes_count : n 4 ≡ false) (N : ℕ) where
  -- the solver that a pair leaves is in order, and has the bindings that there were
  pub settles_extends : (k : ℕ) (z : Solver) (ok : Bool) (ps : List Pair) → Ordered N z → AllWithin N ps
      → Ordered N (solver_of (settles n k z ok ps)) × Extends z (solver_of (settles n k z ok ps))
  unfolding settles solver_of
  settles_extends zero z ok [] h w = (h, λ v t e. e)
  settles_extends zero z ok (p ∷ ps) h w = (h, λ v t e. e)
  settles_extends (suc k) z ok [] h w = (h, λ v t e. e)
  settles_extends (suc k) z ok (p ∷ ps) h w =
      let x = check_pair n z p.0 p.1 ps in
      let a = settles_extends k x.state (ok && x.good) x.todo (turn_ordered n codes_count N z h p.0 p.1 ps w.0 w.1 w.2)
      (turn_within n codes_count N z h p.0 p.1 ps w.0 w.1 w.2) in
      (a.0, λ v t e. a.1 v t (turn_extends n codes_count N z h p.0 p.1 ps v t e))

-- ---- defaults

module _ (N : ℕ) where
  default_ordered : (z : Solver) (c : ℕ → ℕ) (v : ℕ) → v < N → Ordered N z → Ordered N (settle_at z (λ w. node 4 (num (c w) end)) (top z (var v)))
  default_ordered z c v l h =
      let e = notion_codes false in
      sane_ordered loose e N (settle_at z (λ w. node 4 (num (c w) end)) (top z (var v)))
      (subst (λ (x : Table S). Sane S fallback never (read loose) (respects loose e) N x) (at_view z c v)
      (sane_fill S fallback never (read loose) (respects loose e) N (view_table z) (λ w. node 4 (num (c w) end)) v l (ordered_sane loose e N z h)))

  settle_extends : (z : Solver) (d : ℕ → Term) (t : Term) → ((w : ℕ) → t ≡ var w → z.bindings w ≡ none) → Extends z (settle_at z d t)
  unfolding settle_at
  settle_extends z d (var w) h v t e = put_other z.bindings w (some (d w)) v (λ p. let q = ap z.bindings p in let r = h w refl in clash (cc)) ∙ e
  settle_extends z d (node k ps) h v t e = e

  abbrev Kept : Solver → Solver → Type 0
  Kept z y = Ordered N y × Extends z y

  default_kept : (z : Solver) (c : ℕ → ℕ) (v : ℕ) → v < N → Ordered N z → Kept z (settle_at z (λ w. node 4 (num (c w) end)) (top z (var v)))
  default_kept z c v l h = (default_ordered z c v l h, settle_extends z (λ w. node 4 (num (c w) end)) (top z (var v)) (λ w q. top_free N z h (var v) w q))

  numeric_extends : (m v : ℕ) (z : Solver) → v + m ≤ N → Ordered N z → Extends z (numeric_defaults_of m v z)
  unfolding numeric_defaults_of numeric_at
  numeric_extends zero v z l h = λ w t e. e
  numeric_extends (suc m) v z l h =
      let a = go (z.requests v) in
      λ w t e. numeric_extends m (suc v) (numeric_at z v (z.requests v)) (omega arith) a.0 w t (a.1 w t e)
    where
      go : (o : Option Request) → Kept z (numeric_at z v o)
      go none = (h, λ w t e. e)
      go (some r) = default_kept z (λ w. taken r (z.requests w)) v (omega arith) h

  never_extends : (d : ℕ → Bool) (m v : ℕ) (z : Solver) → v + m ≤ N → Ordered N z → Extends z (never_defaults_of d m v z)
  unfolding never_defaults_of never_at
  never_extends d zero v z l h = λ w t e. e
  never_extends d (suc m) v z l h =
      let a = go (d v) in
      λ w t e. never_extends d m (suc v) (never_at z v (d v)) (omega arith) a.0 w t (a.1 w t e)
    where
      go : (b : Bool) → Kept z (never_at z v b)
      go false = (h, λ w t e. e)
      go true = default_kept z (λ w. 10) v (omega arith) h

-- ---- orders

module _ (lim : Limits) where
  pub order_later : (s : Session) (c : Command) → Ordered (issued s) s.solver → Later s (order lim s c).session
  unfolding order variable_step number_at hole_at deferring
  order_later s (variable site slot) h = go (find (at site slot) s.places) (full lim s)
    where
      go : (o : Option ℕ) (b : Bool) → Later s (variable_step lim s (at site slot) o b).session
      go (some v) b = later_refl s
      go none true = later_refl s
      go none false = record { bindings = λ v t e. e; count = omega arith }
  order_later s (number site r) h = go (find (at site 1) s.places) (full lim s)
    where
      go : (o : Option ℕ) (b : Bool) → Later s (number_at lim s (at site 1) r o b).session
      go (some v) b = record { bindings = λ v t e. e; count = omega arith }
      go none true = later_refl s
      go none false = record { bindings = λ v t e. e; count = omega arith }
  order_later s (hole site) h = go (find (gap site) s.places) (full lim s)
    where
      go : (o : Option ℕ) (b : Bool) → Later s (hole_at lim s (gap site) o b).session
      go (some v) b = later_refl s
      go none true = later_refl s
      go none false = record { bindings = λ v t e. e; count = omega arith }
  order_later s (defer t) h = go (known s t) (crowded lim s (size t)) (resolved s.solver t)
    where
      go : (b c : Bool) (u : Term) → Later s (unless lim s b c (deferring s u gives nothing)).session
      go true true u = later_refl s
      go true false (var v) = record { bindings = λ v t e. e; count = omega arith }
      go true false (node k ps) = later_refl s
      go false c u = later_refl s
  order_later s (pair d k t u) h = go (known s t) (known s u) (crowded lim s (size t + size u)) refl refl
    where
      within : (w : Term) → known s w ≡ true → Within (issued s) w
      within w e = issued_within (issued s) w (known_yes s w e)

      go : (a b c : Bool) → known s t ≡ a → known s u ≡ b → Later s (unless lim s (a && b) c (posing lim s (size t + size u) (constrain (notion d) k s.solver t u))).session
      go true true true p q = later_refl s
      go true true false p q = record { bindings = (settles_extends (notion d) (notion_codes d) (issued s) k s.solver true ((t, u) ∷ []) h (within t p, within u q, tt)).1; count = omega arith }
      go true false c p q = later_refl s
      go false b c p q = later_refl s
  order_later s (resolving t) h = go (known s t) (crowded lim s (size t))
    where
      go : (b c : Bool) → Later s (unless lim s b c (s gives term (resolved s.solver t))).session
      go true true = later_refl s
      go true false = later_refl s
      go false c = later_refl s
  order_later s numbers h = record { bindings = numeric_extends (issued s) (issued s) 0 s.solver (omega arith) h; count = omega arith }
  order_later s nevers h = record { bindings = never_extends (issued s) s.deferred (issued s) 0 s.solver (omega arith) h; count = omega arith }
  order_later s revision h = later_refl s
  order_later s (unread r) h = later_refl s

  -- AFTER EVERY LIST OF ORDERS, given to a session in order.
  pub run_later : (s : Session) (cs : List Command) → Ordered (issued s) s.solver → Later s (run lim s cs)
  unfolding run
  run_later s [] h = later_refl s
  run_later s (c ∷ cs) h =
      let y = (order lim s c).session in
      later_trans s y (run lim y cs) (order_later s c h) (run_later y cs (order_ordered lim s c h))

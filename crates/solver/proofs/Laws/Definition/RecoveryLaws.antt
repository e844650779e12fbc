-- No binding holds Unknown or Error, after every list of orders: a pair of a variable and a term that resolves to one that holds them is passed over. So a term
-- without them resolves to one without them.
use mathlib.Core.Path.{◌≡◌, refl, sym, ap, ◌∙◌}
use mathlib.Core.Bool.{Bool, true, false, ◌&&◌, ◌||◌}
use mathlib.Core.List.{List, [], ◌∷◌}
use mathlib.Core.Logic.{◌⊎◌, inl, inr, ◌≢◌}
use mathlib.Core.Option.{Option, none, some}
use Prim.Native.Nat.{ℕ, zero, suc, ◌+◌}
use Rattle.terms.specs.Term.{Term, Parts, var, node, end, num, sub, size}
use Rattle.terms.specs.Tree.{same}
use Rattle.terms.specs.Questions.{among, meets, meets_row}
use Rattle.terms.proofs.Laws.General.Bools.{never_false}
use Rattle.unify.specs.Term.{clash}
use Rattle.unify.specs.Solver.{put}
use Rattle.unify.proofs.Sound.{put_cases}
use Rattle.solver.specs.Families.{Request, taken}
use Rattle.solver.specs.Shapes.{Notion, notion, same_shape}
use Rattle.solver.specs.Constrain.{Solver, replace, replace_row, followed, resolve, resolved, top, always, recovery, recovers, occurs, projects, Requests, Pair, admit}
use Rattle.solver.specs.Constrain.{bind₁, bind₀, bind, decompose, differ, match, check_pair, settles, constrain}
use Rattle.solver.specs.Session.{Limits, Session, at, gap, issued, find, fresh, deferring, settle_at, numeric_at, never_at, numeric_defaults_of, never_defaults_of}
use Rattle.solver.specs.Orders.{Command, variable, number, hole, defer, pair, resolving, numbers, nevers, revision, unread}
use Rattle.solver.specs.Orders.{term, nothing, ◌gives◌, known, full, crowded, unless, variable_step, number_at, hole_at, solver_of, posing, order, run}

or_both : (a b : Bool) → (a || b) ≡ false → (a ≡ false) × (b ≡ false)
or_both true b e = never_false e
or_both false b e = (refl, e)

or-none : (a b : Bool) → a ≡ false → b ≡ false → (a || b) ≡ false
or-none a b p q = rw p q

-- ---- variables replaced

abbrev recovers_row : Parts → Bool
recovers_row ps = meets_row recovery always ps

module _ (f : ℕ → Term) where
  mutual
    unfolding replace meets recovery

    replace_recovers : (t : Term) → ((v : ℕ) → recovers (f v) ≡ false) → recovers t ≡ false → recovers (replace f t) ≡ false
    replace_recovers (var v) h e = h v
    replace_recovers (node k ps) h e =
        let a = or_both (among k (2 ∷ 3 ∷ [])) (recovers_row ps) e in
        or-none (among k (2 ∷ 3 ∷ [])) (recovers_row (replace_row f ps)) a.0 (replace_recovers_row ps h a.1)

    replace_recovers_row : (ps : Parts) → ((v : ℕ) → recovers (f v) ≡ false) → recovers_row ps ≡ false → recovers_row (replace_row f ps) ≡ false
    replace_recovers_row end h e = refl
    replace_recovers_row (num n ps) h e = replace_recovers_row ps h e
    replace_recovers_row (sub t ps) h e =
        let a = or_both (recovers t) (recovers_row ps) e in
        or-none (recovers (replace f t)) (recovers_row (replace_row f ps)) (replace_recovers t h a.0) (replace_recovers_row ps h a.1)

  mutual
    unfolding replace meets recovery

    unreplaced : (t : Term) → recovers (replace f t) ≡ false → recovers t ≡ false
    unreplaced (var v) e = refl
    unreplaced (node k ps) e =
        let a = or_both (among k (2 ∷ 3 ∷ [])) (recovers_row (replace_row f ps)) e in
        or-none (among k (2 ∷ 3 ∷ [])) (recovers_row ps) a.0 (unreplaced_row ps a.1)

    unreplaced_row : (ps : Parts) → recovers_row (replace_row f ps) ≡ false → recovers_row ps ≡ false
    unreplaced_row end e = refl
    unreplaced_row (num n ps) e = unreplaced_row ps e
    unreplaced_row (sub t ps) e =
        let a = or_both (recovers (replace f t)) (recovers_row (replace_row f ps)) e in
        or-none (recovers t) (recovers_row ps) (unreplaced t a.0) (unreplaced_row ps a.1)

-- a term holds neither if what it resolves to does not
unresolved : (n : ℕ) (b : ℕ → Option Term) (t : Term) → recovers (resolve n b t) ≡ false → recovers t ≡ false
unfolding resolve
unresolved zero b t e = e
unresolved (suc n) b t e = unreplaced (λ v. followed v (b v) (λ u. resolve n b u)) t e

-- ---- bindings

abbrev Bindings : (ℕ → Option Term) → Type 0
Bindings b = (v : ℕ) (t : Term) → b v ≡ some t → recovers t ≡ false

-- no binding holds Unknown or Error
abbrev pub NoneBound : Solver → Type 0
NoneBound z = Bindings z.bindings

resolve_recovers : (n : ℕ) (b : ℕ → Option Term) → Bindings b → (t : Term) → recovers t ≡ false → recovers (resolve n b t) ≡ false
unfolding resolve followed meets recovery
resolve_recovers zero b h t e = e
resolve_recovers (suc n) b h t e = replace_recovers (λ v. followed v (b v) (λ u. resolve n b u)) t (λ v. go (λ u q. resolve_recovers n b h u q) v (b v) refl) e
  where
    go : ((u : Term) → recovers u ≡ false → recovers (resolve n b u) ≡ false) → (v : ℕ) (o : Option Term) → b v ≡ o → recovers (followed v o (λ u. resolve n b u)) ≡ false
    go more v none q = refl
    go more v (some u) q = more u (h v u q)

-- A term without Unknown and Error resolves to one without them.
pub resolved_recovers : (z : Solver) → NoneBound z → (t : Term) → recovers t ≡ false → recovers (resolved z t) ≡ false
resolved_recovers z h t e = resolve_recovers z.revision z.bindings h t e

put_none : (b : ℕ → Option Term) (v : ℕ) (t : Term) → Bindings b → recovers t ≡ false → Bindings (put b v (some t))
put_none b v t h e w u q = go (put_cases b v t w u q)
  where
    go : ((w ≡ v) × (t ≡ u)) ⊎ ((w ≢ v) × (b w ≡ some u)) → recovers u ≡ false
    go (inl c) = ap recovers (sym c.1) ∙ e
    go (inr c) = h w u c.1

-- ---- a check, and the loop

module _ (z : Solver) (h : NoneBound z) (ps : List Pair) where
  bind-none : (v : ℕ) (t : Term) → NoneBound (bind z v t ps).state
  unfolding bind bind₀ bind₁
  bind-none v t = go (recovers (resolved z t)) refl
    where
      last : recovers t ≡ false → (o : Option Requests) (b : Bool) → NoneBound (bind₁ z v t ps o b).state
      last e none b = h
      last e (some rs) true = h
      last e (some rs) false = put_none z.bindings v t h e

      go : (b : Bool) → recovers (resolved z t) ≡ b → NoneBound (bind₀ z v t ps b).state
      go true e = h
      go false e = last (unresolved z.revision z.bindings t e) (admit z.requests (z.requests v) t) (occurs v (resolved z t))

  module _ (n : Notion) where
    decompose_none : (t u : Term) (a b c : Bool) → NoneBound (decompose z t u ps a b c).state
    unfolding decompose
    decompose_none t u true b c = h
    decompose_none t u false true c = h
    decompose_none t u false false true = h
    decompose_none t u false false false = h

    differ_none : (t u : Term) → NoneBound (differ n z t u ps).state
    unfolding differ
    differ_none (var v) u = bind-none v u
    differ_none (node k rs) (var v) = bind-none v (node k rs)
    differ_none (node k rs) (node j qs) =
        decompose_none (node k rs) (node j qs) (recovery (node k rs) || recovery (node j qs)) (projects (node k rs)) (same_shape n (node k rs) (node j qs))

    match_none : (t u : Term) (b : Bool) → NoneBound (match n z t u ps b).state
    unfolding match
    match_none t u true = h
    match_none t u false = differ_none (top z t) (top z u)

module _ (n : Notion) where
  settles_none : (k : ℕ) (z : Solver) (ok : Bool) (ps : List Pair) → NoneBound z → NoneBound (solver_of (settles n k z ok ps))
  unfolding settles check_pair solver_of
  settles_none zero z ok [] h = h
  settles_none zero z ok (p ∷ ps) h = h
  settles_none (suc k) z ok [] h = h
  settles_none (suc k) z ok (p ∷ ps) h =
      let x = check_pair n z p.0 p.1 ps in
      settles_none k x.state (ok && x.good) x.todo (match_none z h ps n p.0 p.1 (same (resolved z p.0) (resolved z p.1)))

-- ---- defaults

settle_none : (z : Solver) (c : ℕ → ℕ) (t : Term) → NoneBound z → NoneBound (settle_at z (λ w. node 4 (num (c w) end)) t)
unfolding settle_at meets recovery among
settle_none z c (var w) h = put_none z.bindings w (node 4 (num (c w) end)) h refl
settle_none z c (node k ps) h = h

numeric_none : (m v : ℕ) (z : Solver) → NoneBound z → NoneBound (numeric_defaults_of m v z)
unfolding numeric_defaults_of numeric_at
numeric_none zero v z h = h
numeric_none (suc m) v z h = numeric_none m (suc v) (numeric_at z v (z.requests v)) (go (z.requests v))
  where
    go : (o : Option Request) → NoneBound (numeric_at z v o)
    go none = h
    go (some r) = settle_none z (λ w. taken r (z.requests w)) (top z (var v)) h

never_none : (d : ℕ → Bool) (m v : ℕ) (z : Solver) → NoneBound z → NoneBound (never_defaults_of d m v z)
unfolding never_defaults_of never_at
never_none d zero v z h = h
never_none d (suc m) v z h = never_none d m (suc v) (never_at z v (d v)) (go (d v))
  where
    go : (b : Bool) → NoneBound (never_at z v b)
    go false = h
    go true = settle_none z (λ w. 10) (top z (var v)) h

-- ---- orders

module _ (lim : Limits) where
  order_none : (s : Session) (c : Command) → NoneBound s.solver → NoneBound (order lim s c).session.solver
  unfolding order variable_step number_at hole_at deferring
  order_none s (variable site slot) h = go (find (at site slot) s.places) (full lim s)
    where
      go : (o : Option ℕ) (b : Bool) → NoneBound (variable_step lim s (at site slot) o b).session.solver
      go (some v) b = h
      go none true = h
      go none false = h
  order_none s (number site r) h = go (find (at site 1) s.places) (full lim s)
    where
      go : (o : Option ℕ) (b : Bool) → NoneBound (number_at lim s (at site 1) r o b).session.solver
      go (some v) b = h
      go none true = h
      go none false = h
  order_none s (hole site) h = go (find (gap site) s.places) (full lim s)
    where
      go : (o : Option ℕ) (b : Bool) → NoneBound (hole_at lim s (gap site) o b).session.solver
      go (some v) b = h
      go none true = h
      go none false = h
  order_none s (defer t) h = go (known s t) (crowded lim s (size t)) (resolved s.solver t)
    where
      go : (b c : Bool) (u : Term) → NoneBound (unless lim s b c (deferring s u gives nothing)).session.solver
      go true true u = h
      go true false (var v) = h
      go true false (node k ps) = h
      go false c u = h
  order_none s (pair d k t u) h = go (known s t && known s u) (crowded lim s (size t + size u))
    where
      go : (b c : Bool) → NoneBound (unless lim s b c (posing lim s (size t + size u) (constrain (notion d) k s.solver t u))).session.solver
      go true true = h
      go true false = settles_none (notion d) k s.solver true ((t, u) ∷ []) h
      go false c = h
  order_none s (resolving t) h = go (known s t) (crowded lim s (size t))
    where
      go : (b c : Bool) → NoneBound (unless lim s b c (s gives term (resolved s.solver t))).session.solver
      go true true = h
      go true false = h
      go false c = h
  order_none s numbers h = numeric_none (issued s) 0 s.solver h
  order_none s nevers h = never_none s.deferred (issued s) 0 s.solver h
  order_none s revision h = h
  order_none s (unread r) h = h

  run_none : (s : Session) (cs : List Command) → NoneBound s.solver → NoneBound (run lim s cs).solver
  unfolding run
  run_none s [] h = h
  run_none s (c ∷ cs) h = run_none (order lim s c).session cs (order_none s c h)

  -- AFTER EVERY LIST OF ORDERS no binding holds Unknown or Error.
  pub none_bound : (cs : List Command) → NoneBound (run lim fresh cs).solver
  none_bound cs = run_none fresh cs (λ v t e. clash (cc))

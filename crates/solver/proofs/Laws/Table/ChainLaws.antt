-- The builtin that a default puts at the end of a chain, and the deferral of a term's top.
use mathlib.Core.Path.{◌≡◌, refl, sym, ap, ◌∙◌, subst}
use mathlib.Core.Bool.{Bool, true, false}
use mathlib.Core.List.{List}
use mathlib.Core.Option.{Option, none, some}
use Prim.Native.Nat.{ℕ, zero, suc, pred, ◌+◌, ◌-◌, ◌≤◌, ◌<◌}
use native.Mathlib.Nat.{zero-add, add-zero}
use native.Mathlib.Numerals.{add-one}
use native.Mathlib.Omega.{arith}
use native.Mathlib.Decide.{ℕ_discrete}
use lib.ListN.{length, get_or, take, set}
use Rattle.terms.specs.Term.{Term, Parts, var, node, num, end, Held}
use Rattle.std.specs.Prelude.{Some, None}
use Rattle.std.specs.declared.option.Option as rust
use Rattle.unify.specs.Term.{clash}
use Rattle.unify.specs.Solver.{put, put_same, put_other}
use Rattle.solver.specs.declared.Solver.{Solver}
use Rattle.solver.specs.declared.Defaulted.{Defaulted}
use Rattle.solver.specs.declared.Defaulted.TheVariants.{Requested, Deferred}
use Rattle.solver.specs.Families as families
use Rattle.solver.specs.Families.{Request, ranged_at, taken}
use Rattle.solver.specs.Constrain as solving
use Rattle.solver.specs.Constrain.{replace_row, followed, resolve, follow, resolved, top}
use Rattle.solver.specs.Orders.{order}
use Rattle.solver.specs.Session.{Limits, Session, issued, with_solver, deferring, settle_at, numeric_at, never_at, numeric_defaults_of, never_defaults_of}
use Rattle.solver.specs.Invariant.{InOrder}
use Rattle.solver.specs.Words.Bindings.{builtin}
use Rattle.solver.specs.Words.ChainRecord.{Coming}
use Rattle.solver.specs.Words.ChainEnds.{variable_in}
use Rattle.solver.specs.Words.ReachContract.{Steady, Topped}
use Rattle.solver.specs.Words.SessionRepresentation.{limits_of, RequestWord, request_in, HeldRequest, flag, Represents}
use Rattle.solver.specs.Words.MethodContract.{Beside, bound_to, never_word, default_word, end_word, default_at, defaulted, defaults_by}
use Rattle.solver.specs.Words.ConstrainContract.{Within}
use Rattle.solver.specs.Words.TableLayout.{deferrals_from}
use Rattle.solver.proofs.Laws.Definition.SolverInvariantLaws.{ordered_steady, ordered_topped, top_low}
use Rattle.solver.proofs.Laws.Definition.InOrderLaws.{in_order_ordered}
use Rattle.solver.proofs.Laws.Table.ColumnLaws.{column_read}
use Rattle.solver.proofs.Laws.Table.RequestWordLaws.{held_none, held_some}
use Rattle.solver.proofs.Laws.Table.MethodLaws.{beside_same, beside_then, lent_defer}
use Rattle.solver.proofs.Laws.Definition.ChainRecordLaws.{in_order_coming, coming_after}

-- ---- one default

-- by the word of v, which is that of its deferral or of its request
module _ (which : Defaulted) (x : Solver) (ks vs ts : List ℕ) (s : Session) (L : Represents x ks vs ts s) (v word : ℕ) (below : v < x.variables)
    (named : word ≡ default_word which x.variables ts v) where
  deferral : word ≡ never_word (get_or ts (deferrals_from x.variables + v) 0) → word ≡ never_word (flag (s.deferred v))
  deferral e = e ∙ ap never_word (sym (column_read x.variables (deferrals_from x.variables) ts _ v refl below) ∙ L.deferred v)

  asked : (w : ℕ) → w < x.variables → HeldRequest (s.solver.requests w) (get_or ts (x.variables + w) 0)
  asked w l = subst (λ (n : ℕ). HeldRequest (s.solver.requests w) n) (column_read x.variables x.variables ts _ w refl l) (L.requests w)

  requested_as : word ≡ get_or ts (x.variables + v) 0 → HeldRequest (s.solver.requests v) word
  requested_as e = subst (λ (n : ℕ). HeldRequest (s.solver.requests v) n) (sym e) (asked v below)

  -- no default
  stays : (b : Defaulted) → word ≡ default_word b x.variables ts v → word ≡ 0 → default_at b s v ≡ s.solver
  unfolding default_word default_at numeric_at never_at never_word
  stays Requested e z = rw (held_none (s.solver.requests v) word (requested_as e) z)
  stays Deferred e z = go (s.deferred v) (deferral e)
    where
      go : (d : Bool) → word ≡ never_word (flag d) → never_at s.solver v d ≡ s.solver
      go false h = refl
      go true h = absurd (omega arith)

  pub settled_none : word ≡ 0 → Represents x ks vs ts (with_solver s (default_at which s v))
  settled_none z = rw (stays which named z) L

  -- the code c is the one that the two words give, where the chain ends at w
  abbrev Coded : Defaulted → ℕ → ℕ → Type 0
  Coded b w c = (o : Option Request) → RequestWord word → HeldRequest o (end_word b x.variables ts w) → c ≡ taken (request_in word) o

  -- a default: the variable w of the table at which the chain ends is bound to the builtin with this code
  record Settles (b : Defaulted) : Type 0 where
    builtin : ℕ → Term
    settles : default_at b s v ≡ settle_at s.solver builtin (top s.solver (var v))
    coded : (w c : ℕ) → w < x.variables → Coded b w c → builtin w ≡ node 4 (num c end)

  settling : (b : Defaulted) → word ≡ default_word b x.variables ts v → (word ≡ 0 → ⊥) → Settles b
  unfolding default_word end_word default_at numeric_at never_at never_word request_in taken ranged_at
  settling Requested e n =
      let r = held_some (s.solver.requests v) word (requested_as e) n in
      record {
        builtin = λ w. families.default_of (request_in word) (s.solver.requests w);
        settles = rw r.1;
        coded = λ w c l h. ap (λ (k : ℕ). node 4 (num k end)) (sym (h (s.solver.requests w) r.0 (asked w l)));
      }
  settling Deferred e n = go (s.deferred v) refl (deferral e)
    where
      go : (d : Bool) → s.deferred v ≡ d → word ≡ never_word (flag d) → Settles Deferred
      go false f h = absurd (n h)
      go true f h =
          record {
            builtin = λ w. node 4 (num 10 end);
            settles = rw f;
            coded = λ w c l k.
                ap (λ (i : ℕ). node 4 (num i end)) (sym (k none (record { some = omega arith; mask = λ j. omega arith; most = omega arith }) refl ∙ ap (λ (i : ℕ). taken (request_in i) none) h));
          }

  module _ (n : word ≡ 0 → ⊥) where
    default : Settles which
    default = settling which named n

    -- the chain ends at no variable
    pub settled_stop : None ≡ variable_in (top s.solver (var v)) → Represents x ks vs ts (with_solver s (default_at which s v))
    unfolding settle_at
    settled_stop e = rw default.settles (go (top s.solver (var v)) e)
      where
        go : (t : Term) → None ≡ variable_in t → Represents x ks vs ts (with_solver s (settle_at s.solver default.builtin t))
        go (var u) f = clash (cc (f))
        go (node k ps) f = L

    -- it ends at the variable w, which was bound to the builtin with this code
    pub settled_bound : (w c : ℕ) → Some w ≡ variable_in (top s.solver (var v)) → w < x.variables → Coded which w c → (y : Solver) (us : List ℕ)
        → Represents y ks vs us (with_solver s (bound_to s.solver w (builtin c) s.solver.requests)) → Represents y ks vs us (with_solver s (default_at which s v))
    unfolding settle_at
    settled_bound w c e l h y us B = rw default.settles (go (top s.solver (var v)) e)
      where
        go : (t : Term) → Some w ≡ variable_in t → Represents y ks vs us (with_solver s (settle_at s.solver default.builtin t))
        go (var u) f =
            let g : w ≡ u = cc (f) in
            rw (← g, default.coded w c l h) B
        go (node j ps) f = clash (cc (f))

-- ---- following comes to an end after it, too

module _ (N : ℕ) where
  coming_settle : (z : solving.Solver) (d : ℕ → ℕ) (v : ℕ) → Coming N z → v < N → Coming N (settle_at z (λ w. node 4 (num (d w) end)) (top z (var v)))
  unfolding settle_at
  coming_settle z d v C h = go (top z (var v)) refl
    where
      go : (t : Term) → top z (var v) ≡ t → Coming N (settle_at z (λ w. node 4 (num (d w) end)) t)
      go (var w) e = coming_after N z C w (node 4 (num (d w) end)) (C.free (var v) w e) tt (C.low v w h e) (λ x f. clash (cc (f)))
      go (node k ps) e = C

  numeric_coming : (n v : ℕ) (z : solving.Solver) → v + n ≤ N → Coming N z → Coming N (numeric_defaults_of n v z)
  unfolding numeric_defaults_of numeric_at
  numeric_coming zero v z l C = C
  numeric_coming (suc n) v z l C = numeric_coming n (suc v) (numeric_at z v (z.requests v)) (omega arith) (go (z.requests v))
    where
      go : (o : Option Request) → Coming N (numeric_at z v o)
      go none = C
      go (some r) = coming_settle z (λ w. taken r (z.requests w)) v C (omega arith)

  never_coming : (d : ℕ → Bool) (n v : ℕ) (z : solving.Solver) → v + n ≤ N → Coming N z → Coming N (never_defaults_of d n v z)
  unfolding never_defaults_of never_at
  never_coming d zero v z l C = C
  never_coming d (suc n) v z l C = never_coming d n (suc v) (never_at z v (d v)) (omega arith) (go (d v))
    where
      go : (b : Bool) → Coming N (never_at z v b)
      go false = C
      go true = coming_settle z (λ w. 10) v C (omega arith)

-- ---- all of them, by rising id

-- a default for every variable before n
pub record Applied (which : Defaulted) (x₀ : Solver) (ks vs ts₀ : List ℕ) (n : ℕ) (x : Solver) (ts : List ℕ) : Type 0 where
  pub held : (s : Session) → Represents x₀ ks vs ts₀ s → Coming (issued s) s.solver → Represents x ks vs ts (with_solver s (defaulted which n s))
  pub beside : Beside x₀ x ts₀ ts
  pub issued : x.issued ≡ x₀.issued
  pub steps : x.revision ≤ x₀.revision + n
  pub most : n ≤ x₀.issued

pub numeric_more : (n v : ℕ) (z : solving.Solver) → numeric_defaults_of (suc n) v z ≡ numeric_at (numeric_defaults_of n v z) (v + n) ((numeric_defaults_of n v z).requests (v + n))
unfolding numeric_defaults_of
numeric_more zero v z = rw add-zero
numeric_more (suc n) v z = numeric_more n (suc v) (numeric_at z v (z.requests v)) ∙ (let e : suc v + n ≡ v + suc n = omega arith in rw e)

pub never_more : (d : ℕ → Bool) (n v : ℕ) (z : solving.Solver) → never_defaults_of d (suc n) v z ≡ never_at (never_defaults_of d n v z) (v + n) (d (v + n))
unfolding never_defaults_of
never_more d zero v z = rw add-zero
never_more d (suc n) v z = never_more d n (suc v) (never_at z v (d v)) ∙ (let e : suc v + n ≡ v + suc n = omega arith in rw e)

module _ (which : Defaulted) (x₀ : Solver) (ks vs ts₀ : List ℕ) where
  pub applied_start : Applied which x₀ ks vs ts₀ 0 x₀ ts₀
  unfolding defaulted numeric_defaults_of never_defaults_of
  applied_start =
      record {
        held = λ s L C. subst (λ (y : solving.Solver). Represents x₀ ks vs ts₀ (with_solver s y)) (sym (go which s)) L;
        beside = beside_same x₀ ts₀;
        issued = refl;
        steps = omega arith;
        most = omega arith;
      }
    where
      go : (b : Defaulted) (s : Session) → defaulted b 0 s ≡ s.solver
      go Requested s = refl
      go Deferred s = refl

  module _ (n : ℕ) (x y : Solver) (ts us : List ℕ) (A : Applied which x₀ ks vs ts₀ n x ts) (room : x₀.issued ≤ x₀.variables) where
    coming_before : (b : Defaulted) (s : Session) → n ≤ issued s → Coming (issued s) s.solver → Coming (issued s) (defaulted b n s)
    unfolding defaulted
    coming_before Requested s l C = numeric_coming (issued s) n 0 s.solver (omega arith) C
    coming_before Deferred s l C = never_coming (issued s) s.deferred n 0 s.solver (omega arith) C

    -- the default of the next variable
    next : (b : Defaulted) (s : Session) → default_at b (with_solver s (defaulted b n s)) n ≡ defaulted b (n + 1) s
    unfolding defaulted default_at
    next Requested s = sym (rw (add-one, numeric_more n 0 s.solver, zero-add))
    next Deferred s = sym (rw (add-one, never_more s.deferred n 0 s.solver, zero-add))

    pub applied_step : n < x₀.issued
        → ((s : Session) → Represents x ks vs ts s → Coming (issued s) s.solver → Represents y ks vs us (with_solver s (default_at which s n)))
        → Beside x y ts us → y.issued ≡ x.issued → y.revision ≤ x.revision + 1 → Applied which x₀ ks vs ts₀ (n + 1) y us
    applied_step l h B i r =
        record {
          held = λ s L C.
              subst (λ (z : solving.Solver). Represents y ks vs us (with_solver s z)) (next which s)
              (h (with_solver s (defaulted which n s)) (A.held s L C) (coming_before which s (omega (arith, A.most, L.issued)) C));
          beside = beside_then A.beside B;
          issued = i ∙ A.issued;
          steps = omega (arith, A.steps);
          most = omega arith;
        }

  -- what the order leaves
  by_order : (b : Defaulted) (lim : Limits) (s : Session) → with_solver s (defaulted b (issued s) s) ≡ (order lim s (defaults_by b)).session
  unfolding order defaulted
  by_order Requested lim s = refl
  by_order Deferred lim s = refl

  -- every variable has its default
  pub applied_end : (n : ℕ) (x : Solver) (ts : List ℕ) → Applied which x₀ ks vs ts₀ n x ts → n ≡ x₀.issued → (s : Session) → Represents x₀ ks vs ts₀ s → InOrder (issued s) s.solver
      → Represents x ks vs ts (order (limits_of x₀) s (defaults_by which)).session
  applied_end n x ts A e s L o =
      subst (Represents x ks vs ts) (by_order which (limits_of x₀) s)
      (subst (λ (k : ℕ). Represents x ks vs ts (with_solver s (defaulted which k s))) (e ∙ L.issued) (A.held s L (in_order_coming (issued s) s.solver o)))

-- ---- a term's top decides whether it resolves to a variable

module _ (n : ℕ) (b : ℕ → Option Term) (S : Steady n b) (T : Topped n b) (t : Term) where
  pub resolves_variable : (v : ℕ) → follow n b t ≡ var v → resolve n b t ≡ var v
  resolves_variable v e = sym (T.tops t) ∙ ap (resolve n b) e ∙ S.free v (T.topped t v e)

  node_stays : (m : ℕ) (k : ℕ) (ps : Parts) → (qs : Parts) × (resolve m b (node k ps) ≡ node k qs)
  unfolding resolve solving.replace
  node_stays zero k ps = (ps, refl)
  node_stays (suc m) k ps = (replace_row (λ v. followed v (b v) (λ u. resolve m b u)) ps, refl)

  pub resolves_node : (k : ℕ) (ps : Parts) → follow n b t ≡ node k ps → (qs : Parts) × (resolve n b t ≡ node k qs)
  resolves_node k ps e =
      let x = node_stays n k ps in
      (x.0, sym (T.tops t) ∙ ap (resolve n b) e ∙ x.1)

-- the term t, by the variable of its top
module _ {x : Solver} {ks₀ vs₀ ts : List ℕ} {s : Session} (A : InOrder (issued s) s.solver) (L : Represents x ks₀ vs₀ ts s) where
  module _ (t : Term) {r : rust.Option ℕ} (atop : r ≡ variable_in (top s.solver t)) where
    S : Steady s.solver.revision s.solver.bindings
    S = ordered_steady (issued s) s.solver (in_order_ordered (issued s) s.solver A)

    T : Topped s.solver.revision s.solver.bindings
    T = ordered_topped (issued s) s.solver (in_order_ordered (issued s) s.solver A)

    -- no variable at the top
    pub deferred_none : r ≡ None → Represents x ks₀ vs₀ ts (deferring s (resolved s.solver t))
    unfolding deferring
    deferred_none e = go (top s.solver t) refl
      where
        go : (u : Term) → top s.solver t ≡ u → Represents x ks₀ vs₀ ts (deferring s (resolved s.solver t))
        go (var w) f = clash (let d : Some w ≡ None = ap variable_in (sym f) ∙ sym atop ∙ e in cc)
        go (node k ps) f = rw (resolves_node s.solver.revision s.solver.bindings S T t k ps f).1 L

    -- the variable at the top
    top_variable : (v : ℕ) → r ≡ Some v → top s.solver t ≡ var v
    top_variable v e = go (top s.solver t) refl
      where
        go : (u : Term) → top s.solver t ≡ u → top s.solver t ≡ var v
        go (var w) f = let d : Some w ≡ Some v = ap variable_in (sym f) ∙ sym atop ∙ e in let q : w ≡ v = cc in f ∙ ap var q
        go (node k ps) f = clash (let d : None ≡ Some v = ap variable_in (sym f) ∙ sym atop ∙ e in cc)

    pub deferred_some : (v : ℕ) → r ≡ Some v → v < x.variables → Represents x ks₀ vs₀ (set ts (deferrals_from x.variables + v) 1) (deferring s (resolved s.solver t))
    deferred_some v e l =
        rw (resolves_variable s.solver.revision s.solver.bindings S T t v (top_variable v e)) (lent_defer x ks₀ vs₀ ts s L v l)

    pub deferred_far : Within (issued s) t → (v : ℕ) → r ≡ Some v → v < x.variables
    deferred_far k v e =
        let f = L.fits.variables in
        omega (arith, top_low (issued s) s.solver (in_order_ordered (issued s) s.solver A) t v k (top_variable v e))

-- The worklist over variables, and what its answer says of a resolved term.
use mathlib.Core.Bool.{Bool, true, false}
use mathlib.Core.List.{List}
use mathlib.Core.Logic.{◌⊎◌, inl, inr, ⊎_elim}
use mathlib.Core.Option.{Option, none, some}
use mathlib.Core.Path.{◌≡◌, refl, sym, ap, subst, ◌∙◌}
use Prim.Native.Nat.{ℕ, zero, suc, pred, ◌+◌, ◌<◌, ◌≤◌}
use native.Mathlib.Decide.{dec_lt}
use native.Mathlib.Omega.{arith}
use lib.ListN.{length, get_or, get_or-eq_default}
use Rattle.terms.specs.Words.Tokens.{Item, spell, toks}
use Rattle.terms.specs.Term.{Term, var, items, Held}
use Rattle.terms.specs.Questions.{among, meets}
use Rattle.terms.proofs.Laws.General.Bools.{never_false}
use Rattle.solver.specs.Constrain.{replace, followed, resolve, occurs, recovers, recovery, is}
use Rattle.solver.specs.Words.ResolveWalk.{run_len, Named}
use Rattle.solver.specs.Words.Bindings.{builtin, HeldWord, HeldWord.placed, HeldWord.coded, HeldBinding, HeldBindings}
use Rattle.solver.specs.Words.Worklist.{Zero, Work, Grown}
use Rattle.solver.specs.Words.ReachContract.{has, run_of, Reach, Reach.first, Reach.next, Told, wanted, asked, Steady, Free}
use Rattle.solver.proofs.Laws.Resolving.FrameLaws.{run_none, run_default}
use Rattle.solver.proofs.Laws.Resolving.WorklistLaws.{in_range}
use Rattle.solver.proofs.Laws.Resolving.ResolvedLaws.{replace_var, run_held, resolve_builtin}
use Rattle.solver.proofs.Laws.Resolving.AskLaws.{has_start, has_term, itself, through, quiet, kept, unasked}

-- ---- runs

pub named_run_of : (ks vs : List ℕ) (word at len : ℕ) → Named ks vs word at len → toks ks vs at len ≡ run_of ks vs word
unfolding spell
named_run_of ks vs word at zero h = ap (toks ks vs (pred word)) h.size
named_run_of ks vs word at (suc len) h = ap (λ (a : ℕ). toks ks vs a (suc len)) (h.place (omega arith)) ∙ ap (toks ks vs (pred word)) h.size

run_items : (ks vs : List ℕ) (word p : ℕ) (t : Term) → word ≡ p + 1 → Held ks vs p t → run_of ks vs word ≡ items t
run_items ks vs word p t e h =
    let q : pred word ≡ p = omega arith in
    ap (λ (a : ℕ). toks ks vs a (run_len ks vs word)) q ∙ ap (toks ks vs p) (ap (run_len ks vs) e ∙ run_held ks vs p t h) ∙ h.tokens

-- ---- the worklist

-- what is marked is reached; what the root and the entries before `done` have is marked, and is not what is asked for unless hit
pub record Going (ks vs bs : List ℕ) (root : List Item) (q : ℕ) (marks queue : List ℕ) (top done : ℕ) (hit : Bool) : Type 0 where
  pub work : Work marks queue top
  pub size : length marks ≡ length bs
  pub within : done ≤ top
  pub sound : (v : ℕ) → get_or marks v 0 ≡ 1 → Reach ks vs bs root v
  pub rooted : (v : ℕ) → v < length bs → has (suc v) root ≡ true → get_or marks v 0 ≡ 1
  pub passed : (k v : ℕ) → k < done → v < length bs → has (suc v) (run_of ks vs (get_or bs (get_or queue k 0) 0)) ≡ true → get_or marks v 0 ≡ 1
  pub none_root : hit ≡ false → has q root ≡ false
  pub none_passed : hit ≡ false → (k : ℕ) → k < done → has q (run_of ks vs (get_or bs (get_or queue k 0) 0)) ≡ false
  pub yes : hit ≡ true → (has q root ≡ true) ⊎ ((u : ℕ) × Reach ks vs bs root u × (has q (run_of ks vs (get_or bs u 0)) ≡ true))

module _ {ks vs bs : List ℕ} {root : List Item} {q : ℕ} where
  pub going_start : {marks₀ queue₀ marks queue : List ℕ} {top : ℕ} {hit : Bool} → Zero marks₀ → length marks ≡ length bs → (run : List Item) → run ≡ root → hit ≡ has q run
      → Grown (λ (u : ℕ). has (suc u) run ≡ true) marks₀ queue₀ 0 marks queue top → Going ks vs bs root q marks queue top 0 hit
  going_start {marks₀} {queue₀} {marks} {queue} {top} {hit} z l run er e G =
      record {
        work = G.work;
        size = l;
        within = omega arith;
        sound = λ v m. ⊎_elim (λ o. absurd (omega (arith, z v, o))) (λ t. first (range v m) (sym (ap (has (suc v)) er) ∙ t)) (G.only v m);
        rooted = λ v x t. G.all v (omega arith) (ap (has (suc v)) er ∙ t);
        passed = λ k v x. absurd (omega arith);
        none_root = λ h. sym (ap (has q) er) ∙ sym e ∙ h;
        none_passed = λ h k x. absurd (omega arith);
        yes = λ h. inl (sym (ap (has q) er) ∙ sym e ∙ h);
      }
    where
      range : (v : ℕ) → get_or marks v 0 ≡ 1 → v < length bs
      range v m = omega (arith, in_range marks v m)

  module _ {marks queue : List ℕ} {top done : ℕ} {hit : Bool} (R : Going ks vs bs root q marks queue top done hit) where
    -- the run of the entry at `done` has been scanned
    module _ (calm : hit ≡ false) (lt : done < top) (run : List Item) (er : run ≡ run_of ks vs (get_or bs (get_or queue done 0) 0)) where
      pub going_step : {marks' queue' : List ℕ} {top' : ℕ} {hit' : Bool} → length marks' ≡ length marks → hit' ≡ has q run
          → Grown (λ (u : ℕ). has (suc u) run ≡ true) marks queue top marks' queue' top' → Going ks vs bs root q marks' queue' top' (done + 1) hit'
      going_step {marks'} {queue'} {top'} {hit'} l e G =
          record {
            work = G.work;
            size = l ∙ R.size;
            within = omega (arith, G.longer);
            sound = λ v m. ⊎_elim (λ o. R.sound v o) (λ t. next (R.sound (get_or queue done 0) (R.work.queued done lt)) (range v m) (sym (ap (has (suc v)) er) ∙ t)) (G.only v m);
            rooted = λ v x t. G.old v (R.rooted v x t);
            passed = λ k v x y t. step k v x y t (dec_lt k done);
            none_root = λ h. R.none_root calm;
            none_passed = λ h k x. silent h k x (dec_lt k done);
            yes = λ h. inr (get_or queue done 0, R.sound (get_or queue done 0) (R.work.queued done lt), sym (ap (has q) er) ∙ sym e ∙ h);
          }
        where
          range : (v : ℕ) → get_or marks' v 0 ≡ 1 → v < length bs
          range v m = omega (arith, l, R.size, in_range marks' v m)

          -- the entry's run before and now
          entry : (k : ℕ) → k < top → run_of ks vs (get_or bs (get_or queue' k 0) 0) ≡ run_of ks vs (get_or bs (get_or queue k 0) 0)
          entry k x = ap (λ (v : ℕ). run_of ks vs (get_or bs v 0)) (G.same k x)

          last : (k : ℕ) → k ≡ done → run_of ks vs (get_or bs (get_or queue' k 0) 0) ≡ run
          last k x = entry k (omega arith) ∙ ap (λ (i : ℕ). run_of ks vs (get_or bs (get_or queue i 0) 0)) x ∙ sym er

          step : (k v : ℕ) → k < done + 1 → v < length bs → has (suc v) (run_of ks vs (get_or bs (get_or queue' k 0) 0)) ≡ true → Dec (k < done) → get_or marks' v 0 ≡ 1
          step k v x y t (yes p) = G.old v (R.passed k v p y (sym (ap (has (suc v)) (entry k (omega arith))) ∙ t))
          step k v x y t (no p) = G.all v (omega (arith, l, R.size)) (sym (ap (has (suc v)) (last k (omega arith))) ∙ t)

          silent : hit' ≡ false → (k : ℕ) → k < done + 1 → Dec (k < done) → has q (run_of ks vs (get_or bs (get_or queue' k 0) 0)) ≡ false
          silent h k x (yes p) = ap (has q) (entry k (omega arith)) ∙ R.none_passed calm k p
          silent h k x (no p) = ap (has q) (last k (omega arith)) ∙ sym e ∙ h

    complete : top ≤ done → (v : ℕ) → Reach ks vs bs root v → get_or marks v 0 ≡ 1
    complete le v (first l t) = R.rooted v l t
    complete le v (next {u} r l t) =
        let f = R.work.found u (complete le u r) in
        let x = f.1 in
        R.passed f.0 v (omega arith) l (ap (λ (i : ℕ). has (suc v) (run_of ks vs (get_or bs i 0))) f.2 ∙ t)

    pub going_end : top ≤ done → Told ks vs bs root q hit
    going_end le =
        record {
          no = λ n. (
            R.none_root n,
            λ u r.
                let f = R.work.found u (complete le u r) in
                let x = f.1 in
                sym (ap (λ (i : ℕ). has q (run_of ks vs (get_or bs i 0))) f.2) ∙ R.none_passed n f.0 (omega arith),
          );
          yes = R.yes;
        }

-- ---- terms

pub by_variable : (n : ℕ) (b : ℕ → Option Term) (t : Term) → replace (λ v. resolve n b (var v)) t ≡ resolve n b t
unfolding resolve replace
by_variable zero b t = replace_var t
by_variable (suc n) b t = refl

-- a builtin has nothing that is asked for
asked_builtin : (q n : ℕ) (b : ℕ → Option Term) (c : ℕ) → asked q (resolve n b (builtin c)) ≡ false
unfolding wanted recovery among is meets
asked_builtin zero n b c = ap (asked 0) (resolve_builtin n b c)
asked_builtin (suc v) n b c = ap (asked (suc v)) (resolve_builtin n b c)

module _ (ks vs bs : List ℕ) (b : ℕ → Option Term) (held : HeldBindings ks vs bs b) where
  none_there : (word : ℕ) (q : ℕ) → run_len ks vs word ≡ 0 → has q (run_of ks vs word) ≡ true → ⊥
  none_there word q e h = never_false (sym h ∙ ap (has q) (ap (toks ks vs (pred word)) e) ∙ has_start q ks vs (pred word))

  -- a variable whose run has something is bound to a term that has it
  entered : (q u : ℕ) → has q (run_of ks vs (get_or bs u 0)) ≡ true → (s : Term) × (b u ≡ some s) × (asked q s ≡ true)
  entered q u h = go (b u) refl (held.words u)
    where
      go : (o : Option Term) → b u ≡ o → HeldBinding ks vs o (get_or bs u 0) → (s : Term) × (b u ≡ some s) × (asked q s ≡ true)
      go none e w = absurd (none_there (get_or bs u 0) q (ap (run_len ks vs) w ∙ run_none ks vs) h)
      go (some s) e (placed p i g) = (s, e, sym (has_term q s) ∙ sym (ap (has q) (run_items ks vs (get_or bs u 0) p s i g)) ∙ h)
      go (some s) e (coded c l i f) = absurd (none_there (get_or bs u 0) q (run_default ks vs (get_or bs u 0) held.short (omega arith)) h)

  -- the term of a bound variable: that of its run, or a builtin
  bound_run : (u : ℕ) (s : Term) → b u ≡ some s → ((run_of ks vs (get_or bs u 0) ≡ items s) × (u < length bs)) ⊎ ((c : ℕ) × (s ≡ builtin c))
  bound_run u s e = go (subst (λ (o : Option Term). HeldBinding ks vs o (get_or bs u 0)) e (held.words u))
    where
      low : (p : ℕ) → get_or bs u 0 ≡ p + 1 → Dec (u < length bs) → u < length bs
      low p x (yes l) = l
      low p x (no l) = absurd (omega (arith, get_or-eq_default bs 0 {n = u} (omega arith)))

      go : HeldWord ks vs s (get_or bs u 0) → ((run_of ks vs (get_or bs u 0) ≡ items s) × (u < length bs)) ⊎ ((c : ℕ) × (s ≡ builtin c))
      go (placed p i g) = inl (run_items ks vs (get_or bs u 0) p s i g, low p i (dec_lt u (length bs)))
      go (coded c l i f) = inr (c, f)

  module _ (n : ℕ) (S : Steady n b) (q : ℕ) (f : Free q b) where
    -- what a term has, it has resolved
    direct : (t : Term) → asked q t ≡ true → asked q (resolve n b t) ≡ true
    direct t e = go q f e
      where
        go : (q : ℕ) → Free q b → asked q t ≡ true → asked q (resolve n b t) ≡ true
        go zero g h = subst (λ (x : Term). asked 0 x ≡ true) (by_variable n b t) (kept (λ v. resolve n b (var v)) t h)
        go (suc v) g h =
            subst (λ (x : Term). asked (suc v) x ≡ true) (by_variable n b t)
            (through (suc v) (λ w. resolve n b (var w)) v (ap (asked (suc v)) (S.free v g) ∙ itself v) t h)

    inside : (w : ℕ) (t : Term) → asked (suc w) t ≡ true → asked q (resolve n b (var w)) ≡ true → asked q (resolve n b t) ≡ true
    inside w t o h = subst (λ (x : Term). asked q x ≡ true) (by_variable n b t) (through q (λ v. resolve n b (var v)) w h t o)

    module _ (t : Term) (root : List Item) (er : root ≡ items t) where
      up : {u : ℕ} → Reach ks vs bs root u → asked q (resolve n b (var u)) ≡ true → asked q (resolve n b t) ≡ true
      up (first {v} l e) h = inside v t (sym (has_term (suc v) t) ∙ sym (ap (has (suc v)) er) ∙ e) h
      up (next {u} {v} r l e) h =
          let x = entered (suc v) u e in
          up r (ap (asked q) (S.bound u x.0 x.1) ∙ inside v x.0 x.2 h)

      module _ (no : (u : ℕ) → Reach ks vs bs root u → has q (run_of ks vs (get_or bs u 0)) ≡ false) where
        down : (m : ℕ) (s : Term) → asked q s ≡ false → ((w : ℕ) → w < length bs → asked (suc w) s ≡ true → Reach ks vs bs root w) → asked q (resolve m b s) ≡ false
        unfolding resolve followed
        down zero s e r = e
        down (suc m) s e r = quiet q (λ v. followed v (b v) (λ u. resolve m b u)) s e (λ w o. cell (down m) w o (b w) refl)
          where
            cell : ((u : Term) → asked q u ≡ false → ((w : ℕ) → w < length bs → asked (suc w) u ≡ true → Reach ks vs bs root w) → asked q (resolve m b u) ≡ false)
                → (w : ℕ) → asked (suc w) s ≡ true → (o : Option Term) → b w ≡ o → asked q (followed w o (λ u. resolve m b u)) ≡ false
            cell ih w o none d = unasked q w s e o
            cell ih w o (some u) d =
                ⊎_elim
                (λ x.
                let c = r w x.1 o in
                ih u (sym (has_term q u) ∙ sym (ap (has q) x.0) ∙ no w c) (λ v l i. next c l (ap (has (suc v)) x.0 ∙ has_term (suc v) u ∙ i)))
                (λ x. ap (asked q) (ap (resolve m b) x.1) ∙ asked_builtin q m b x.0)
                (bound_run w u d)

      told_root : (hit : Bool) → Told ks vs bs root q hit → hit ≡ asked q (resolve n b t)
      told_root true T =
          sym (⊎_elim (λ e. direct t (sym (has_term q t) ∙ sym (ap (has q) er) ∙ e))
          (λ w. let x = entered q w.0 w.2 in up w.1 (ap (asked q) (S.bound w.0 x.0 x.1) ∙ direct x.0 x.2))
          (T.yes refl))
      told_root false T =
          let x = T.no refl in
          sym (down x.1 n t (sym (has_term q t) ∙ sym (ap (has q) er) ∙ x.0)
          (λ w l o. first l (ap (has (suc w)) er ∙ has_term (suc w) t ∙ o)))

-- what is told of a held term is so of the term resolved
pub told_asked : (ks vs bs : List ℕ) (p q : ℕ) (hit : Bool) → Told ks vs bs (run_of ks vs (p + 1)) q hit → (t : Term) (b : ℕ → Option Term) (n : ℕ)
    → Held ks vs p t → HeldBindings ks vs bs b → Steady n b → Free q b → hit ≡ asked q (resolve n b t)
told_asked ks vs bs p q hit T t b n h g S f = told_root ks vs bs b g n S q f t (run_of ks vs (p + 1)) (run_items ks vs (p + 1) p t refl h) hit T

-- ---- the two questions

pub asks_variable : (v : ℕ) (t : Term) → asked (suc v) t ≡ occurs v t
unfolding wanted
asks_variable v t = refl

pub asks_recovery : (t : Term) → asked 0 t ≡ recovers t
unfolding wanted
asks_recovery t = refl

-- a builtin has neither
pub builtin_free : (v : ℕ) {t : Term} (n : ℕ) (b : ℕ → Option Term) (c : ℕ) → t ≡ builtin c → false ≡ occurs v (resolve n b t)
builtin_free v {t} n b c e =
    sym (sym (asks_variable v (resolve n b t)) ∙ ap (λ (u : Term). asked (suc v) (resolve n b u)) e ∙ asked_builtin (suc v) n b c)

pub builtin_whole : {t : Term} (n : ℕ) (b : ℕ → Option Term) (c : ℕ) → t ≡ builtin c → false ≡ recovers (resolve n b t)
builtin_whole {t} n b c e = sym (sym (asks_recovery (resolve n b t)) ∙ ap (λ (u : Term). asked 0 (resolve n b u)) e ∙ asked_builtin 0 n b c)

-- The Rust's bindings, number map and revision, read as a table, stand for a session over substitutions. The rounds of its `resolve` are
-- enough: each expands the bindings by one level, and there are no more levels than bindings.
use mathlib.Core.Path.{◌≡◌, refl, ap, ap₂, sym, ◌∙◌, subst, fun_ext}
use mathlib.Core.Logic.{inl, inr}
use mathlib.Core.Option.{Option, none, some}
use mathlib.Core.List.{List, [], ◌∷◌, ◌++◌}
use lib.ListN.{length, get_or, set, length-set}
use Prim.Native.Nat.{ℕ, zero, suc, ◌+◌, ◌≤◌, ◌<◌}
use native.Mathlib.Decide.{dec_lt}
use native.Mathlib.Omega.{arith}
use Rattle.unify.specs.Term.{Sort, Tree, var, node, nil, ◌▸◌, Term, sub, In, same?, clash, sub_ext, sub-sub, sub_fix, in_sub, sub_in}
use Rattle.unify.specs.Solver.{Sig, T, State, bind, put, put_other}
use Rattle.unify.specs.Solver.{asks, begin}
use Rattle.unify.specs.Meaning.{Fine}
use Rattle.unify.proofs.Lazy.{Rep, resolve_enough, resolve_zero, resolve_none, rep_fresh, rep_bind}
use Rattle.unify.specs.Expansion.{expand, resolve}
use Rattle.unify.specs.Orders.{Issued}
use Rattle.unify.specs.Table.{Table, top, tally, taken, taken_put}
use Rattle.unify.proofs.Refine.{Stands, Counted, tops, topped, counted_more}
use Rattle.unify.specs.RustMaps.{look, insert, or_else, substitute_once, binding, store}
use Rattle.unify.specs.RustMaps.{unless_same, rounds}
use Rattle.unify.proofs.RustMapLaws.{nth_push, length_push, nth_set, nth_inside, store_set, look_nil, look_insert, Once, once_insert}

-- one round of `resolve`, and the walks that only look
module _ {H : Type 0} (panic : Term H) (bs : List (Option (Term H))) where
  abbrev bound_by : ℕ → Option (Term H)
  bound_by v = get_or bs v none

  -- no index out of range
  abbrev Inside : {k : Sort} → Tree H k → Type 0
  Inside t = (v : ℕ) → In v t → v < length bs

  round_sub : {k : Sort} (t : Tree H k) → Inside t → substitute_once (binding panic bs) t ≡ sub (λ v. expand v (bound_by v) (λ u. u)) t
  unfolding substitute_once binding sub or_else expand
  round_sub (var v) l = ap (λ (o : Option (Term H)). or_else o (var v)) (nth_inside bs v (some panic) none (l v refl)) ∙ go (bound_by v)
    where
      go : (o : Option (Term H)) → or_else o (var v) ≡ expand v o (λ u. u)
      go none = refl
      go (some u) = refl
  round_sub (node h ts) l = ap (node h) (round_sub ts l)
  round_sub nil l = refl
  round_sub (t ▸ ts) l = ap₂ ◌▸◌ (round_sub t (λ v i. l v (inl i))) (round_sub ts (λ v i. l v (inr i)))

  resolve_is_sub : (f : ℕ) {k : Sort} (t : Tree H k) → resolve f bound_by t ≡ sub (λ v. resolve f bound_by (var v)) t
  unfolding resolve sub
  resolve_is_sub zero t = sym (sub_fix var t (λ v i. refl))
  resolve_is_sub (suc f) t = refl

  -- a round first, or a level of expansion last: the same
  resolve_round : (f : ℕ) {k : Sort} (t : Tree H k) → Inside t → resolve (suc f) bound_by t ≡ resolve f bound_by (substitute_once (binding panic bs) t)
  unfolding resolve expand sub
  resolve_round f t l = sub_ext t (λ v i. go v (bound_by v) refl) ∙ sym (sub-sub θ σ t) ∙ sym (resolve_is_sub f (sub σ t)) ∙ ap (resolve f bound_by) (sym (round_sub t l))
    where
      σ : ℕ → Term H
      σ v = expand v (bound_by v) (λ u. u)

      θ : ℕ → Term H
      θ v = resolve f bound_by (var v)

      go : (v : ℕ) (o : Option (Term H)) → bound_by v ≡ o → expand v o (λ u. resolve f bound_by u) ≡ sub θ (expand v o (λ u. u))
      go v none e = sym (resolve_none f bound_by v e)
      go v (some u) e = resolve_is_sub f u

  -- where a round changes nothing, none does
  resolve_still : (f : ℕ) (t : Term H) → Inside t → substitute_once (binding panic bs) t ≡ t → resolve f bound_by t ≡ t
  resolve_still zero t l e = resolve_zero bound_by t
  resolve_still (suc f) t l e = resolve_round f t l ∙ ap (resolve f bound_by) e ∙ resolve_still f t l e

  round_inside : ((v : ℕ) (u : Term H) → bound_by v ≡ some u → Inside u) → (t : Term H) → Inside t → Inside (substitute_once (binding panic bs) t)
  unfolding expand
  round_inside all t l w i =
      let r = in_sub w (λ v. expand v (bound_by v) (λ u. u)) t (subst (λ (u : Term H). In w u) (round_sub t l) i) in
      go r.0 (l r.0 r.1) (bound_by r.0) refl r.2
    where
      go : (v : ℕ) → v < length bs → (o : Option (Term H)) → bound_by v ≡ o → In w (expand v o (λ u. u)) → w < length bs
      go v m none e j = omega arith
      go v m (some u) e j = all v u e w j

module _ (S : Sig) where
  -- the loop ends in time if a fuel of one round less is enough
  module _ (panic : T S) (bs : List (Option (T S))) (all : (v : ℕ) (u : T S) → get_or bs v none ≡ some u → (w : ℕ) → In w u → w < length bs) where
    abbrev next : T S → T S
    next t = substitute_once (binding panic bs) t

    rounds_right : (f : ℕ) (t a : T S) → ((v : ℕ) → In v t → v < length bs) → ((g : ℕ) → f ≤ g → resolve g (λ v. get_or bs v none) t ≡ a) → rounds S panic bs (suc f) t ≡ some a
    unfolding rounds unless_same
    rounds_right zero t a l h = go (same? S.head? (next t) t)
      where
        go : (d : Dec (next t ≡ t)) → unless_same S panic d t none ≡ some a
        go (yes e) = ap some (sym (resolve_zero (λ v. get_or bs v none) t) ∙ h 0 (omega arith))
        go (no e) = absurd (e (
            sym (resolve_zero (λ v. get_or bs v none) (next t)) ∙ sym (resolve_round panic bs 0 t l) ∙ h 1 (omega arith) ∙ sym (h 0 (omega arith)) ∙ resolve_zero (λ v. get_or bs v none) t
            ))
    rounds_right (suc f) t a l h =
        go (same? S.head? (next t) t) (rounds_right f (next t) a (round_inside panic bs all t l) (λ g m. sym (resolve_round panic bs g t l) ∙ h (suc g) (omega arith)))
      where
        go : (d : Dec (next t ≡ t)) → rounds S panic bs (suc f) (next t) ≡ some a → unless_same S panic d t (rounds S panic bs (suc f) (next t)) ≡ some a
        go (yes e) i = ap some (sym (resolve_still panic bs (suc f) t l e) ∙ h (suc f) (omega arith))
        go (no e) i = i

  -- The Rust's bindings, number map and revision, read as a table, stand for a session over N variables.
  abbrev pub reading : List (Option (T S)) → ℕ → Option (T S)
  reading bs v = get_or bs v none

  abbrev pub as_table : List (Option (T S)) → List (ℕ × S.Fam) → ℕ → Table S
  as_table bs ns rev = record { bound = reading bs; fam = look ns; rev = rev }

  pub record Holds (N : ℕ) (bs : List (Option (T S))) (ns : List (ℕ × S.Fam)) (rev : ℕ) (s : State S) : Type 0 where
    pub stands : Stands S (as_table bs ns rev) s
    pub counted : Counted S N (as_table bs ns rev)
    pub long : length bs ≡ N
    pub once : Once ns

  taken_le : {A : Type 0} (N : ℕ) (b : ℕ → Option A) → taken N b ≤ N
  unfolding taken tally
  taken_le zero b = omega arith
  taken_le {A} (suc N) b = go (b N) (taken_le N b)
    where
      go : (o : Option A) → taken N b ≤ N → tally o + taken N b ≤ suc N
      go none h = omega arith
      go (some a) h = omega arith

  pub holds_begin : Holds 0 [] [] 0 (begin S)
  unfolding taken
  holds_begin = record {
    stands = record { rep = rep_fresh; fams = fun_ext look_nil; revs = refl };
    counted = record { far = λ v l. refl; number = refl };
    long = refl;
    once = tt;
  }

  module _ (N : ℕ) (bs : List (Option (T S))) (ns : List (ℕ × S.Fam)) (rev : ℕ) (s : State S) (h : Holds N bs ns rev s) where
    -- a binding names issued variables
    holds_inside : Fine S N s → (v : ℕ) (u : T S) → reading bs v ≡ some u → (w : ℕ) → In w u → w < length bs
    holds_inside f v u p w i = let l = h.long in let m = go (reading bs w) refl in omega arith
      where
        bound_below : (x : ℕ) (y : T S) → reading bs x ≡ some y → Dec (x < N) → x < N
        bound_below x y e (yes d) = d
        bound_below x y e (no d) = clash (cc (h.counted.far x (omega arith), e))

        go : (o : Option (T S)) → reading bs w ≡ o → w < N
        go none e =
            let a : In w (s.res w) = subst (λ (y : T S). In w y) (sym (h.stands.rep.unbound w e)) refl in
            f.within v w (bound_below v u p (dec_lt v N)) (subst (λ (y : T S). In w y) (sym (h.stands.rep.bound v u p)) (sub_in w s.res u w i a))
        go (some y) e = bound_below w y e (dec_lt w N)

    -- RESOLVING ENDS IN TIME, with what the session says
    pub holds_rounds : Fine S N s → (panic t : T S) → Issued N t → rounds S panic bs (suc (length bs)) t ≡ some (sub s.res t)
    holds_rounds f panic t is =
        let a = taken_le N (reading bs) in
        let b = h.counted.number in
        let c = h.long in
        rounds_right panic bs (holds_inside f) (length bs) t (sub s.res t) (λ v i. let l = is v i in omega arith)
        (λ g l. resolve_enough (reading bs) rev s.res h.stands.rep g (omega arith) t)

    pub holds_push : (n : S.Head → S.Head) (respects : (f : S.Fam) (h k : S.Head) → n h ≡ n k → S.admits f h ≡ S.admits f k) → Holds (suc N) (bs ++ (none ∷ [])) ns rev s
    holds_push n respects =
        let e : reading bs ≡ reading (bs ++ (none ∷ [])) = fun_ext (λ v. sym (nth_push bs v)) in
        record {
          stands = subst (λ (b : ℕ → Option (T S)). Stands S (record { bound = b; fam = look ns; rev = rev }) s) e h.stands;
          counted = subst (λ (b : ℕ → Option (T S)). Counted S (suc N) (record { bound = b; fam = look ns; rev = rev })) e (counted_more S n respects N (as_table bs ns rev) h.counted);
          long = length_push bs ∙ ap suc h.long;
          once = h.once;
        }

    pub holds_asks : (v : ℕ) (f : S.Fam) → Holds N bs (insert ns v f) rev (asks S s v f)
    holds_asks v f = record {
      stands = record {
        rep = h.stands.rep;
        fams = look_insert ns v f ∙ ap (λ (g : ℕ → Option S.Fam). put g v (some f)) h.stands.fams;
        revs = h.stands.revs;
      };
      counted = record { far = h.counted.far; number = h.counted.number };
      long = h.long;
      once = once_insert ns v f h.once;
    }

    -- a variable that resolves to itself is unbound
    pub holds_free : (v : ℕ) → ((t : T S) → sub s.res (sub s.res t) ≡ sub s.res t) → s.res v ≡ var v → get_or bs v none ≡ none
    unfolding sub
    holds_free v idem e = go (top S z (var v)) (tops S z s h.stands idem [] [] tt (var v)) (topped S z s h.stands idem [] [] tt (var v))
      where
        z : Table S
        z = as_table bs ns rev

        go : (t : T S) → sub s.res t ≡ s.res v → ((w : ℕ) → t ≡ var w → z.bound w ≡ none) → get_or bs v none ≡ none
        go (var w) p q =
            let r : var w ≡ var v = sym (h.stands.rep.unbound w (q w refl)) ∙ p ∙ e in
            let i : w ≡ v = cc in
            ap (λ (x : ℕ). get_or bs x none) (sym i) ∙ q w refl
        go (node k ts) p q = clash (cc)

    -- one binding more, to a resolved term
    holds_set : (v : ℕ) (t : T S) → v < N → get_or bs v none ≡ none → sub s.res t ≡ t → ¬ In v t → Holds N (set bs v (some t)) ns (suc rev) (bind S s v t s.fam)
    holds_set v t l e r i =
        let lm = h.long in
        let p : put (reading bs) v (some t) ≡ reading (set bs v (some t)) = fun_ext (λ w. sym (nth_set bs v (some t) (omega arith) w)) in
        record {
          stands = subst (λ (b : ℕ → Option (T S)). Stands S (record { bound = b; fam = look ns; rev = suc rev }) (bind S s v t s.fam)) p (record {
            rep = subst (λ (u : T S). Rep (put (reading bs) v (some t)) (suc rev) (λ w. sub (put var v u) (s.res w))) r
                (rep_bind (reading bs) rev s.res h.stands.rep v t e (λ j. i (rw r at j)));
            fams = h.stands.fams;
            revs = ap suc h.stands.revs;
          });
          counted = subst (λ (b : ℕ → Option (T S)). Counted S N (record { bound = b; fam = look ns; rev = suc rev })) p (record {
            far = λ w m. put_other (reading bs) v (some t) w (λ q. omega arith) ∙ h.counted.far w m;
            number = taken_put N (reading bs) v t l e ∙ ap suc h.counted.number;
          });
          long = length-set bs v (some t) ∙ h.long;
          once = h.once;
        }

    pub holds_bind : (panic : T S) (v : ℕ) (t : T S) → v < N → get_or bs v none ≡ none → sub s.res t ≡ t → ¬ In v t → Holds N (store panic bs v t) ns (suc rev) (bind S s v t s.fam)
    holds_bind panic v t l e r i =
        let lm = h.long in
        subst (λ (b : List (Option (T S))). Holds N b ns (suc rev) (bind S s v t s.fam)) (store_set panic bs v t (omega arith)) (holds_set v t l e r i)

  pub within : (N : ℕ) (s : State S) → Fine S N s → (t : T S) → ((v : ℕ) → In v t → v < N) → (v : ℕ) → In v (sub s.res t) → v < N
  within N s f t b v i = let r = in_sub v s.res t i in f.within r.0 v (b r.0 r.1) r.2

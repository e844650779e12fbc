-- Bindings without a circle are enough: where a list of the bound variables exists in which each binding names only free variables and variables that
-- stand later, a table is in order, whatever led to it. And one in order has such a list.
use mathlib.Core.Path.{◌≡◌, refl, ap, sym, ◌∙◌, subst}
use mathlib.Core.Logic.{◌⊎◌, inl, inr}
use mathlib.Core.Option.{Option, none, some}
use mathlib.Core.List.{List, [], ◌∷◌}
use lib.ListN.{length}
use Prim.Native.Nat.{ℕ, zero, suc, ◌≤◌, ◌<◌}
use native.Mathlib.Decide.{dec_lt}
use native.Mathlib.Omega.{arith}
use Rattle.unify.specs.Term.{Sort, Tree, var, Term, sub, In, clash, sub_ext, sub_fix, in_sub, sub_in}
use Rattle.unify.specs.Solver.{Sig, T, State}
use Rattle.unify.specs.Meaning.{Fine}
use Rattle.unify.specs.Expansion.{expand, resolve}
use Rattle.unify.specs.Table.{Table, answer, taken}
use Rattle.unify.proofs.Lazy.{Mem, resolve_none, resolve_some, Deep, Sorted, sorted_mem, Rep}
use Rattle.unify.proofs.InOrder.{InOrder}

-- ---- resolving by a sorted list

module _ {H : Type 0} (b : ℕ → Option (Term H)) where
  free_still : (f : ℕ) {k : Sort} (t : Tree H k) → ((w : ℕ) → In w t → b w ≡ none) → resolve f b t ≡ t
  unfolding resolve expand
  free_still zero t h = refl
  free_still (suc f) t h = sub_fix (λ v. expand v (b v) (λ u. resolve f b u)) t (λ w i. rw (h w i) refl)

  -- one round more than the list is long changes nothing
  stable : (L : List ℕ) → Sorted b L → (f : ℕ) → length L ≤ f → {k : Sort} (t : Tree H k) → Deep b L t → resolve (suc f) b t ≡ resolve f b t
  unfolding resolve expand
  stable [] s f l t d = let h : (w : ℕ) → In w t → b w ≡ none = λ w i. elim (d w i) [ inl e ↦ e | inr m ↦ absurd m ] in free_still (suc f) t h ∙ sym (free_still f t h)
  stable (x ∷ L) s zero l t d = absurd (omega arith)
  stable (x ∷ L) s (suc f) l t d = sub_ext t (λ w i. go w (λ u h. stable L s.1 f (omega arith) u h) (b w) refl (d w i))
    where
      deep : (w : ℕ) (u : Term H) → b w ≡ some u → (b w ≡ none) ⊎ Mem w (x ∷ L) → Deep b L u
      deep w u p (inl e) = clash (cc)
      deep w u p (inr (inl e)) = s.0 u (ap b (sym e) ∙ p)
      deep w u p (inr (inr m)) = sorted_mem b L s.1 w u m p

      go : (w : ℕ) → ((u : Term H) → Deep b L u → resolve (suc f) b u ≡ resolve f b u) → (o : Option (Term H)) → b w ≡ o → (b w ≡ none) ⊎ Mem w (x ∷ L)
          → expand w o (λ u. resolve (suc f) b u) ≡ expand w o (λ u. resolve f b u)
      go w h none p m = refl
      go w h (some u) p m = h u (deep w u p m)

  resolve_each : (f : ℕ) {k : Sort} (t : Tree H k) → sub (λ w. resolve f b (var w)) t ≡ resolve f b t
  unfolding resolve sub
  resolve_each zero t = sub_fix (λ w. var w) t (λ v i. refl)
  resolve_each (suc f) t = refl

  -- what is left is free
  left_free : (L : List ℕ) → Sorted b L → (f : ℕ) → length L ≤ f → {k : Sort} (t : Tree H k) → Deep b L t → (w : ℕ) → In w (resolve f b t) → b w ≡ none
  unfolding resolve expand
  left_free [] s f l t d w i =
      let h : (w : ℕ) → In w t → b w ≡ none = λ w i. elim (d w i) [ inl e ↦ e | inr m ↦ absurd m ] in
      h w (rw (free_still f t h) at i)
  left_free (x ∷ L) s zero l t d w i = absurd (omega arith)
  left_free (x ∷ L) s (suc f) l t d w i =
      let r = in_sub w (λ v. expand v (b v) (λ u. resolve f b u)) t i in
      go r.0 (λ u h j. left_free L s.1 f (omega arith) u h w j) (b r.0) refl (d r.0 r.1) r.2
    where
      deep : (v : ℕ) (u : Term H) → b v ≡ some u → (b v ≡ none) ⊎ Mem v (x ∷ L) → Deep b L u
      deep v u p (inl e) = clash (cc)
      deep v u p (inr (inl e)) = s.0 u (ap b (sym e) ∙ p)
      deep v u p (inr (inr m)) = sorted_mem b L s.1 v u m p

      go : (v : ℕ) → ((u : Term H) → Deep b L u → In w (resolve f b u) → b w ≡ none) → (o : Option (Term H)) → b v ≡ o → (b v ≡ none) ⊎ Mem v (x ∷ L)
          → In w (expand v o (λ u. resolve f b u)) → b w ≡ none
      go v h none p m i = rw (← (sym i)) p
      go v h (some u) p m i = h u (deep v u p m) i

  -- variables stay below N
  left_below : (N : ℕ) → ((v : ℕ) (u : Term H) → b v ≡ some u → (w : ℕ) → In w u → w < N) → (f : ℕ) {k : Sort} (t : Tree H k) → ((w : ℕ) → In w t → w < N)
      → (w : ℕ) → In w (resolve f b t) → w < N
  unfolding resolve expand
  left_below N c zero t h w i = h w i
  left_below N c (suc f) t h w i =
      let r = in_sub w (λ v. expand v (b v) (λ u. resolve f b u)) t i in
      go r.0 (h r.0 r.1) (λ u k j. left_below N c f u k w j) (b r.0) refl r.2
    where
      go : (v : ℕ) → v < N → ((u : Term H) → ((w : ℕ) → In w u → w < N) → In w (resolve f b u) → w < N) → (o : Option (Term H)) → b v ≡ o
          → In w (expand v o (λ u. resolve f b u)) → w < N
      go v l k none p i = let e : w ≡ v = i in omega arith
      go v l k (some u) p i = k u (c v u p) i

  -- A SORTED LIST OF THE BOUND VARIABLES IS ENOUGH: the bindings stand for what they resolve to.
  pub rep_sorted : (L : List ℕ) → Sorted b L → ((v : ℕ) (u : Term H) → b v ≡ some u → Mem v L) → Rep b (length L) (λ v. resolve (length L) b (var v))
  rep_sorted L s c = record {
    order = L;
    sorted = s;
    many = refl;
    covers = c;
    unbound = λ v p. resolve_none (length L) b v p;
    bound = λ v u p. bound L s v u p (c v u p);
  }
    where
      deep : (x : ℕ) (L : List ℕ) → Sorted b (x ∷ L) → (v : ℕ) (u : Term H) → b v ≡ some u → (v ≡ x) ⊎ Mem v L → Deep b L u
      deep x L s v u p (inl e) = s.0 u (ap b (sym e) ∙ p)
      deep x L s v u p (inr m) = sorted_mem b L s.1 v u m p

      bound : (L : List ℕ) → Sorted b L → (v : ℕ) (u : Term H) → b v ≡ some u → Mem v L → resolve (length L) b (var v) ≡ sub (λ w. resolve (length L) b (var w)) u
      bound [] s v u p m = absurd m
      bound (x ∷ L) s v u p m =
          resolve_some (length L) b v u p ∙ sym (stable L s.1 (length L) (omega arith) u (deep x L s v u p m)) ∙ sym (resolve_each (suc (length L)) u)

-- ---- tables

module _ (S : Sig) where
  -- no circle (as many variables in the list as the revision says), and no variable that is not issued
  pub record Acyclic (N : ℕ) (z : Table S) : Type 0 where
    pub order : List ℕ
    pub sorted : Sorted z.bound order
    pub covers : (v : ℕ) (u : T S) → z.bound v ≡ some u → Mem v order
    pub as_many : length order ≡ z.rev
    pub number : taken N z.bound ≡ z.rev
    pub far : (v : ℕ) → N ≤ v → (z.bound v ≡ none) × (z.fam v ≡ none)
    pub inside : (v : ℕ) (u : T S) → z.bound v ≡ some u → (w : ℕ) → In w u → w < N

  -- the session that it stands for
  abbrev meant : Table S → State S
  meant z = record { res = λ v. answer S z (var v); fam = z.fam; rev = z.rev }

  module _ (N : ℕ) (z : Table S) (x : Acyclic N z) where
    acyclic_rep : Rep z.bound z.rev (λ v. answer S z (var v))
    acyclic_rep = subst (λ (m : ℕ). Rep z.bound m (λ v. resolve m z.bound (var v))) x.as_many (rep_sorted z.bound x.order x.sorted x.covers)

    free_stays : (v : ℕ) → z.bound v ≡ none → answer S z (var v) ≡ var v
    free_stays v p = resolve_none z.rev z.bound v p

    all_deep : {k : Sort} (t : Tree S.Head k) → Deep z.bound x.order t
    all_deep t w i = go (z.bound w) refl
      where
        go : (o : Option (T S)) → z.bound w ≡ o → (o ≡ none) ⊎ Mem w x.order
        go none p = inl refl
        go (some u) p = inr (x.covers w u p)

    acyclic_fine : Fine S N (meant z)
    acyclic_fine = record {
      idem = λ v w i. free_stays w (left_free z.bound x.order x.sorted z.rev (let e = x.as_many in omega arith) (var v) (all_deep (var v)) w i);
      fresh = λ v l. (free_stays v (x.far v l).0, (x.far v l).1);
      within = λ v w l i. left_below z.bound N x.inside z.rev (var v) (λ u e. omega arith) w i;
    }

    -- SUCH A TABLE IS IN ORDER.
    pub acyclic_in_order : InOrder S N z
    acyclic_in_order = record {
      means = meant z;
      stands = record { rep = acyclic_rep; fams = refl; revs = refl };
      counted = record { far = λ v l. (x.far v l).0; number = x.number };
      fine = acyclic_fine;
    }

  -- and one that is in order is such a table
  module _ (N : ℕ) (z : Table S) (x : InOrder S N z) where
    abbrev ρ : ℕ → T S
    ρ = x.means.res

    bound_issued : (v : ℕ) (u : T S) → z.bound v ≡ some u → v < N
    bound_issued v u p = go (dec_lt v N)
      where
        go : Dec (v < N) → v < N
        go (yes l) = l
        go (no l) = let q = x.counted.far v (omega arith) in clash (cc)

    -- a variable in a binding is bound, so it is issued, or it is left in what the bound variable resolves to
    named_issued : (v : ℕ) (u : T S) → z.bound v ≡ some u → (w : ℕ) → In w u → w < N
    named_issued v u p w i = go (dec_lt w N)
      where
        go : Dec (w < N) → w < N
        go (yes l) = l
        go (no l) =
            let q : ρ w ≡ var w = x.stands.rep.unbound w (x.counted.far w (omega arith)) in
            let r : ρ v ≡ sub ρ u = x.stands.rep.bound v u p in
            let j : In w (sub ρ u) = sub_in w ρ u w i (subst (λ (t : T S). In w t) (sym q) refl) in
            x.fine.within v w (bound_issued v u p) (subst (λ (t : T S). In w t) (sym r) j)

    pub in_order_acyclic : Acyclic N z
    in_order_acyclic = record {
      order = x.stands.rep.order;
      sorted = x.stands.rep.sorted;
      covers = x.stands.rep.covers;
      as_many = x.stands.rep.many;
      number = x.counted.number;
      far = λ v l. (x.counted.far v l, ap (λ (f : ℕ → Option S.Fam). f v) x.stands.fams ∙ (x.fine.fresh v l).1);
      inside = named_issued;
    }

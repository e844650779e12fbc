-- Bindings as a program keeps them: a variable is bound to a term as it was posed, whose own variables may be bound, earlier or
-- later. `resolve` expands bindings with a fuel. Here: the fuel `rev`, the number of bindings made, is enough, and the result is what the
-- substitution `res` of the session gives.
-- The measure: a list of the bound variables in which each binding names only unbound variables and variables that stand later.
use mathlib.Core.Path.{◌≡◌, refl, ap, sym, ◌∙◌, subst}
use mathlib.Core.Logic.{◌⊎◌, inl, inr, ◌≢◌}
use mathlib.Core.Option.{Option, none, some}
use mathlib.Core.List.{List, [], ◌∷◌, ◌++◌}
use lib.ListN.{length, length-append}
use Prim.Native.Nat.{ℕ, zero, suc, ◌+◌, ◌≤◌}
use native.Mathlib.Decide.{ℕ_discrete}
use native.Mathlib.Omega.{arith}
use Rattle.unify.specs.Term.{Sort, many, Tree, var, node, nil, ◌▸◌, Term, sub, In, in?, clash, sub_ext, sub-sub, sub_fix, sub_in}
use Rattle.unify.specs.Solver.{put, put_same, put_other}
use Rattle.unify.proofs.Sound.{put_cases}
use Rattle.unify.specs.Expansion.{expand, resolve}

-- membership, by computation
abbrev pub Mem : ℕ → List ℕ → Type 0
Mem v [] = ⊥
Mem v (x ∷ xs) = (v ≡ x) ⊎ Mem v xs

mem_right : (v : ℕ) (xs ys : List ℕ) → Mem v ys → Mem v (xs ++ ys)
mem_right v [] ys m = m
mem_right v (x ∷ xs) ys m = inr (mem_right v xs ys m)

mem_left : (v : ℕ) (xs ys : List ℕ) → Mem v xs → Mem v (xs ++ ys)
mem_left v (x ∷ xs) ys (inl e) = inl e
mem_left v (x ∷ xs) ys (inr m) = inr (mem_left v xs ys m)
mem_left v [] ys m = absurd m

-- those of a list at which a test says yes, and those at which it says no
module _ {P : ℕ → Type 0} (test : (w : ℕ) → Dec (P w)) where
  with_yes : (w : ℕ) → Dec (P w) → List ℕ → List ℕ
  with_yes w (yes p) xs = w ∷ xs
  with_yes w (no p) xs = xs

  with_no : (w : ℕ) → Dec (P w) → List ℕ → List ℕ
  with_no w (yes p) xs = xs
  with_no w (no p) xs = w ∷ xs

  yeses : List ℕ → List ℕ
  yeses [] = []
  yeses (x ∷ xs) = with_yes x (test x) (yeses xs)

  noes : List ℕ → List ℕ
  noes [] = []
  noes (x ∷ xs) = with_no x (test x) (noes xs)

  parts_length : (xs : List ℕ) → length (yeses xs) + length (noes xs) ≡ length xs
  unfolding yeses noes with_yes with_no
  parts_length [] = refl
  parts_length (x ∷ xs) = go (test x) (parts_length xs)
    where
      go : (d : Dec (P x)) → length (yeses xs) + length (noes xs) ≡ length xs → length (with_yes x d (yeses xs)) + length (with_no x d (noes xs)) ≡ suc (length xs)
      go (yes p) e = omega arith
      go (no p) e = omega arith

  mem_yes : (w : ℕ) (xs : List ℕ) → P w → Mem w xs → Mem w (yeses xs)
  unfolding yeses with_yes
  mem_yes w (x ∷ xs) p m = go (test x) (λ i. mem_yes w xs p i) m
    where
      go : (d : Dec (P x)) → (Mem w xs → Mem w (yeses xs)) → Mem w (x ∷ xs) → Mem w (with_yes x d (yeses xs))
      go (yes q) h (inl e) = inl e
      go (yes q) h (inr i) = inr (h i)
      go (no q) h (inl e) = absurd (q (rw e at p))
      go (no q) h (inr i) = h i
  mem_yes w [] p m = absurd m

  mem_no : (w : ℕ) (xs : List ℕ) → ¬ P w → Mem w xs → Mem w (noes xs)
  unfolding noes with_no
  mem_no w (x ∷ xs) p m = go (test x) (λ i. mem_no w xs p i) m
    where
      go : (d : Dec (P x)) → (Mem w xs → Mem w (noes xs)) → Mem w (x ∷ xs) → Mem w (with_no x d (noes xs))
      go (no q) h (inl e) = inl e
      go (no q) h (inr i) = inr (h i)
      go (yes q) h (inl e) = absurd (p (rw (sym e) at q))
      go (yes q) h (inr i) = h i
  mem_no w [] p m = absurd m

module _ {H : Type 0} where
  -- what a walk over the posed terms goes by: it never builds the resolved term
  pub resolve_zero : (b : ℕ → Option (Term H)) {k : Sort} (t : Tree H k) → resolve 0 b t ≡ t
  unfolding resolve
  resolve_zero b t = refl

  pub resolve_none : (f : ℕ) (b : ℕ → Option (Term H)) (v : ℕ) → b v ≡ none → resolve f b (var v) ≡ var v
  unfolding resolve expand sub
  resolve_none zero b v e = refl
  resolve_none (suc f) b v e = rw e refl

  pub resolve_some : (f : ℕ) (b : ℕ → Option (Term H)) (v : ℕ) (u : Term H) → b v ≡ some u → resolve (suc f) b (var v) ≡ resolve f b u
  unfolding resolve expand sub
  resolve_some f b v u e = rw e refl

  pub resolve_node : (f : ℕ) (b : ℕ → Option (Term H)) (h : H) (ts : Tree H many) → resolve f b (node h ts) ≡ node h (resolve f b ts)
  unfolding resolve sub
  resolve_node zero b h ts = refl
  resolve_node (suc f) b h ts = refl

  pub resolve_nil : (f : ℕ) (b : ℕ → Option (Term H)) → resolve f b nil ≡ nil
  unfolding resolve sub
  resolve_nil zero b = refl
  resolve_nil (suc f) b = refl

  pub resolve_cons : (f : ℕ) (b : ℕ → Option (Term H)) (t : Term H) (ts : Tree H many) → resolve f b (t ▸ ts) ≡ resolve f b t ▸ resolve f b ts
  unfolding resolve sub
  resolve_cons zero b t ts = refl
  resolve_cons (suc f) b t ts = refl

  -- each variable of the tree is unbound or in the list
  abbrev pub Deep : (ℕ → Option (Term H)) → List ℕ → {k : Sort} → Tree H k → Type 0
  Deep b L t = (w : ℕ) → In w t → (b w ≡ none) ⊎ Mem w L

  abbrev pub Sorted : (ℕ → Option (Term H)) → List ℕ → Type 0
  Sorted b [] = Unit {0}
  Sorted b (v ∷ L) = ((u : Term H) → b v ≡ some u → Deep b L u) × Sorted b L

  -- The bindings b, of which m were made, stand for the substitution ρ.
  pub record Rep (b : ℕ → Option (Term H)) (m : ℕ) (ρ : ℕ → Term H) : Type 0 where
    pub order : List ℕ
    pub sorted : Sorted b order
    pub many : length order ≡ m
    pub covers : (v : ℕ) (u : Term H) → b v ≡ some u → Mem v order
    pub unbound : (v : ℕ) → b v ≡ none → ρ v ≡ var v
    pub bound : (v : ℕ) (u : Term H) → b v ≡ some u → ρ v ≡ sub ρ u

  deep_weaken : (b : ℕ → Option (Term H)) (x : ℕ) (L : List ℕ) {k : Sort} (t : Tree H k) → Deep b L t → Deep b (x ∷ L) t
  deep_weaken b x L t d w i = elim (d w i) [ inl e ↦ inl e | inr m ↦ inr (inr m) ]

  pub sorted_mem : (b : ℕ → Option (Term H)) (L : List ℕ) → Sorted b L → (w : ℕ) (u : Term H) → Mem w L → b w ≡ some u → Deep b L u
  sorted_mem b (x ∷ L) s w u (inl e) p = deep_weaken b x L u (s.0 u (ap b (sym e) ∙ p))
  sorted_mem b (x ∷ L) s w u (inr m) p = deep_weaken b x L u (sorted_mem b L s.1 w u m p)
  sorted_mem b [] s w u m p = absurd m

  module _ (b : ℕ → Option (Term H)) (ρ : ℕ → Term H) (unbound : (v : ℕ) → b v ≡ none → ρ v ≡ var v) (bound : (v : ℕ) (u : Term H) → b v ≡ some u → ρ v ≡ sub ρ u) where
    -- a fuel of the length of the list is enough
    enough : (L : List ℕ) → Sorted b L → (f : ℕ) → length L ≤ f → {k : Sort} (t : Tree H k) → Deep b L t → resolve f b t ≡ sub ρ t
    unfolding resolve expand
    enough [] s zero l t d = sym (sub_fix ρ t (λ w i. elim (d w i) [ inl e ↦ unbound w e | inr m ↦ absurd m ]))
    enough [] s (suc f) l t d = sub_ext t (λ w i. elim (d w i) [ inl e ↦ rw e (sym (unbound w e)) | inr m ↦ absurd m ])
    enough (x ∷ L) s zero l t d = absurd (omega arith)
    enough (x ∷ L) s (suc f) l t d = sub_ext t (λ w i. go w (λ u h. enough L s.1 f (omega arith) u h) (b w) refl (d w i))
      where
        deep : (w : ℕ) (u : Term H) → b w ≡ some u → (b w ≡ none) ⊎ Mem w (x ∷ L) → Deep b L u
        deep w u p (inl e) = clash (cc)
        deep w u p (inr (inl e)) = s.0 u (ap b (sym e) ∙ p)
        deep w u p (inr (inr m)) = sorted_mem b L s.1 w u m p

        go : (w : ℕ) → ((u : Term H) → Deep b L u → resolve f b u ≡ sub ρ u) → (o : Option (Term H)) → b w ≡ o → (b w ≡ none) ⊎ Mem w (x ∷ L) → expand w o (λ u. resolve f b u) ≡ ρ w
        go w h none p m = sym (unbound w p)
        go w h (some u) p m = h u (deep w u p m) ∙ sym (bound w u p)

  pub deep_all : (b : ℕ → Option (Term H)) (m : ℕ) (ρ : ℕ → Term H) (r : Rep b m ρ) {k : Sort} (t : Tree H k) → Deep b r.order t
  deep_all b m ρ r t w i = go (b w) refl
    where
      go : (o : Option (Term H)) → b w ≡ o → (o ≡ none) ⊎ Mem w r.order
      go none p = inl refl
      go (some u) p = inr (r.covers w u p)

  -- RESOLVING WITH THE REVISION FOR A FUEL, OR MORE, IS THE SUBSTITUTION.
  pub resolve_enough : (b : ℕ → Option (Term H)) (m : ℕ) (ρ : ℕ → Term H) → Rep b m ρ → (f : ℕ) → m ≤ f → {k : Sort} (t : Tree H k) → resolve f b t ≡ sub ρ t
  resolve_enough b m ρ r f l t = let e = r.many in enough b ρ r.unbound r.bound r.order r.sorted f (omega arith) t (deep_all b m ρ r t)

  pub resolve_right : (b : ℕ → Option (Term H)) (m : ℕ) (ρ : ℕ → Term H) → Rep b m ρ → {k : Sort} (t : Tree H k) → resolve m b t ≡ sub ρ t
  resolve_right b m ρ r t = resolve_enough b m ρ r m (omega arith) t

  pub rep_fresh : Rep (λ v. none) 0 var
  rep_fresh = record {
    order = [];
    sorted = tt;
    many = refl;
    covers = λ v u p. clash (cc);
    unbound = λ v p. refl;
    bound = λ v u p. clash (cc);
  }

  -- One binding more: v, unbound, to u as it stands, where v is not in what u resolves to.
  module _ (b : ℕ → Option (Term H)) (m : ℕ) (ρ : ℕ → Term H) (r : Rep b m ρ) (v : ℕ) (u : Term H) (free : b v ≡ none) (apart : ¬ In v (sub ρ u)) where
    b' : ℕ → Option (Term H)
    b' = put b v (some u)

    σ : ℕ → Term H
    σ = put var v (sub ρ u)

    ρ' : ℕ → Term H
    ρ' w = sub σ (ρ w)

    b'_none : (w : ℕ) → b w ≡ none → w ≢ v → b' w ≡ none
    unfolding b'
    b'_none w e d = put_other b v (some u) w d ∙ e

    -- reaching v
    Reach : ℕ → Type 0
    Reach w = In v (ρ w)

    reach? : (w : ℕ) → Dec (Reach w)
    unfolding Reach
    reach? w = in? v (ρ w)

    reach_v : Reach v
    unfolding Reach
    reach_v = rw (r.unbound v free) refl

    reach_up : (w x : ℕ) (y : Term H) → b x ≡ some y → In w y → Reach w → Reach x
    unfolding Reach
    reach_up w x y p i j = rw (r.bound x y p) (sub_in v ρ y w i j)

    above : List ℕ
    above = yeses reach? r.order

    below : List ℕ
    below = noes reach? r.order

    u_deep : Deep b' below u
    unfolding Reach below
    u_deep w i = go (b w) refl
      where
        far : ¬ Reach w
        far j = apart (sub_in v ρ u w i j)

        go : (o : Option (Term H)) → b w ≡ o → (b' w ≡ none) ⊎ Mem w below
        go none p = inl (b'_none w p (λ e. far (rw e reach_v)))
        go (some y) p = inr (mem_no reach? w r.order far (r.covers w y p))

    -- those that do not reach v
    below_sorted : (L : List ℕ) → Sorted b L → Sorted b' (noes reach? L)
    unfolding noes with_no b'
    below_sorted [] s = tt
    below_sorted (x ∷ L) s = go (reach? x) (below_sorted L s.1)
      where
        go : (d : Dec (Reach x)) → Sorted b' (noes reach? L) → Sorted b' (with_no reach? x d (noes reach? L))
        go (yes q) h = h
        go (no q) h = (λ y p. deep y (sym (put_other b v (some u) x (λ e. q (rw e reach_v))) ∙ p), h)
          where
            deep : (y : Term H) → b x ≡ some y → Deep b' (noes reach? L) y
            deep y p w i =
                let far : ¬ Reach w = λ j. q (reach_up w x y p i j) in
                elim (s.0 y p w i) [
                  | inl e ↦ inl (b'_none w e (λ e. far (rw e reach_v)))
                  | inr m ↦ inr (mem_no reach? w L far m)
                ]

    -- those that reach v, in front of v and the others
    above_sorted : (L : List ℕ) → Sorted b L → ((w : ℕ) → Mem w L → Mem w r.order) → Sorted b' (v ∷ below) → Sorted b' (yeses reach? L ++ (v ∷ below))
    unfolding yeses with_yes b' below
    above_sorted [] s incl t = t
    above_sorted (x ∷ L) s incl t = go (reach? x) (above_sorted L s.1 (λ w i. incl w (inr i)) t)
      where
        rest : List ℕ
        rest = yeses reach? L ++ (v ∷ below)

        deep₂ : (w : ℕ) → (b w ≡ none) ⊎ Mem w L → Dec (w ≡ v) → Dec (Reach w) → (b' w ≡ none) ⊎ Mem w rest
        deep₂ w a (yes e) d = inr (mem_right w (yeses reach? L) (v ∷ below) (inl e))
        deep₂ w (inl e) (no f) d = inl (b'_none w e f)
        deep₂ w (inr i) (no f) (yes j) = inr (mem_left w (yeses reach? L) (v ∷ below) (mem_yes reach? w L j i))
        deep₂ w (inr i) (no f) (no j) = inr (mem_right w (yeses reach? L) (v ∷ below) (inr (mem_no reach? w r.order j (incl w (inr i)))))

        deep : (y : Term H) → b' x ≡ some y → Dec (x ≡ v) → Deep b' rest y
        deep y p (yes e) w i = elim (t.0 y (ap b' (sym e) ∙ p) w i) [
          | inl q ↦ inl q
          | inr m ↦ inr (mem_right w (yeses reach? L) (v ∷ below) (inr m))
        ]
        deep y p (no e) w i = deep₂ w (s.0 y (sym (put_other b v (some u) x e) ∙ p) w i) (ℕ_discrete w v) (reach? w)

        go : (d : Dec (Reach x)) → Sorted b' rest → Sorted b' (with_yes reach? x d (yeses reach? L) ++ (v ∷ below))
        go (yes q) h = ((λ y p. deep y p (ℕ_discrete x v)), h)
        go (no q) h = h

    σ_fix : sub σ (sub ρ u) ≡ sub ρ u
    unfolding σ
    σ_fix = sub_fix σ (sub ρ u) (λ w i. put_other var v (sub ρ u) w (λ e. apart (rw e at i)))

    ρ'_sub : {k : Sort} (t : Tree H k) → sub ρ' t ≡ sub σ (sub ρ t)
    unfolding ρ'
    ρ'_sub t = sym (sub-sub σ ρ t)

    new_order : Sorted b' (above ++ (v ∷ below))
    unfolding above below b'
    new_order = above_sorted r.order r.sorted (λ w i. i) ((λ y p. subst (λ (z : Term H). Deep b' below z) (let q : u ≡ y = cc (put_same b v (some u), p) in q) u_deep), below_sorted r.order r.sorted)

    -- THE BINDING STANDS FOR THE SUBSTITUTION THAT THE SOLVER MAKES.
    pub rep_bind : Rep (put b v (some u)) (suc m) (λ w. sub (put var v (sub ρ u)) (ρ w))
    unfolding b' σ ρ' sub above below
    rep_bind = record {
      order = above ++ (v ∷ below);
      sorted = new_order;
      many = let p = length-append above (v ∷ below) in let q = parts_length reach? r.order in let e = r.many in omega arith;
      covers = λ w y p. covers w y (put_cases b v u w y p) (reach? w);
      unbound = λ w p. unbound w p (ℕ_discrete w v);
      bound = λ w y p. bound w y (put_cases b v u w y p);
    }
      where
        covers : (w : ℕ) (y : Term H) → ((w ≡ v) × (u ≡ y)) ⊎ ((w ≢ v) × (b w ≡ some y)) → Dec (Reach w) → Mem w (above ++ (v ∷ below))
        covers w y (inl e) d = mem_right w above (v ∷ below) (inl e.0)
        covers w y (inr e) (yes j) = mem_left w above (v ∷ below) (mem_yes reach? w r.order j (r.covers w y e.1))
        covers w y (inr e) (no j) = mem_right w above (v ∷ below) (inr (mem_no reach? w r.order j (r.covers w y e.1)))

        unbound : (w : ℕ) → b' w ≡ none → Dec (w ≡ v) → ρ' w ≡ var w
        unbound w p (yes e) = clash (cc (put_same b v (some u), e, p))
        unbound w p (no e) =
            let q : b w ≡ none = sym (put_other b v (some u) w e) ∙ p in
            ap (sub σ) (r.unbound w q) ∙ put_other var v (sub ρ u) w e

        bound : (w : ℕ) (y : Term H) → ((w ≡ v) × (u ≡ y)) ⊎ ((w ≢ v) × (b w ≡ some y)) → ρ' w ≡ sub ρ' y
        bound w y (inl e) =
            let p : ρ' v ≡ sub ρ u = ap (sub σ) (r.unbound v free) ∙ put_same var v (sub ρ u) in
            let q : sub ρ' u ≡ sub ρ u = ρ'_sub u ∙ σ_fix in
            ap ρ' e.0 ∙ p ∙ sym q ∙ ap (sub ρ') e.1
        bound w y (inr e) = ap (sub σ) (r.bound w y e.1) ∙ sym (ρ'_sub y)

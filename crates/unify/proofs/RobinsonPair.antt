-- Robinson 1965, pair by pair, in every session. Whatever orders came before (incompatible and cancelled pairs, recovery terms, projections, number
-- requests, defaults), a pair whose two terms, as they resolve there, are plain first-order terms is answered as the Unification Algorithm of
-- `Robinson1965` ends on the set of these two; and where it is compatible, what every term resolves to afterwards is what it resolved to before, with
-- a most general unifier applied. (`Unification1965` speaks of all pairs of a list together, which must all be plain.)
use mathlib.Core.Path.{◌≡◌, refl, ap, ap₂, sym, ◌∙◌, subst, fun_ext}
use mathlib.Core.Logic.{◌⊎◌, inl, inr, ◌↔◌, ◌≢◌, ite}
use mathlib.Core.Bool.{Bool, true, false, ◌&&◌, ◌||◌}
use mathlib.Core.Option.{Option, none, some}
use mathlib.Core.List.{List, [], ◌∷◌, ◌++◌}
use Prim.Native.Nat.{ℕ, zero, suc, ◌≤◌, ◌<◌}
use native.Mathlib.Decide.{ℕ_discrete}
use native.Mathlib.Omega.{arith}
use Rattle.unify.specs.Term.{Sort, Tree, var, node, nil, ◌▸◌, Forest, sub, In, in?, same?, clash, sub_ext, sub-sub, sub_fix, in_sub, occurs_clash, sim_of_eq}
use Rattle.unify.specs.Solver.{Sig, T, Pair, State, bind, Step, Out, cancelled, done, put, put_same, put_other}
use Rattle.unify.specs.Solver.{admit, any_soft, assign₁, assign₀, assign, zip_on, split₁, split, unequal, compare, step, constrain, poses}
use Rattle.unify.specs.Meaning.{Fine, Below, Plain, Sols}
use Rattle.unify.proofs.Sound.{Right, AllPlain, step_right}
use Rattle.unify.proofs.Lazy.{resolve_right}
use Rattle.unify.specs.Orders.{Issued, issued?, fresh, settle}
use Rattle.unify.specs.Table.{Table, answer, turn, settles, table_poses}
use Rattle.unify.proofs.Refine.{Stands, Counted, Ends, settles_follows}
use Rattle.unify.specs.Session.{Command, pair, session_begin, Reply, verdict, verdict_of, if_issued, reply, replies, R, lift, serve_pair, obey, obey_all, sheet}
use Rattle.unify.proofs.Whole.{Sane, sheet_sane}
use Rattle.unify.proofs.Enough.{Finished, Ends-by_itself, settles_enough}
use Rattle.unify.proofs.Robinson.{Normal}
use Rattle.unify.specs.Robinson1965.{Subst, unifier, without, value, Unifier, unification}
use Rattle.unify.proofs.Unification1965.{with_unifier, without_unifier, either}

module _ (S : Sig) (n : S.Head → S.Head) where
  -- ---- plain first-order terms

  -- no recovery term, no projection, no access mark: each head is its own normal form, so that the notion and equality proper are one
  abbrev pub Simple : {k : Sort} → Tree S.Head k → Type 0
  Simple (var v) = Unit {0}
  Simple (node h ts) = (S.soft h ≡ false) × (S.rigid h ≡ false) × (n h ≡ h) × Simple ts
  Simple nil = Unit {0}
  Simple (t ▸ ts) = Simple t × Simple ts

  -- and no number variable: of none of its variables anything is requested
  abbrev pub FirstOrder : (ℕ → Option S.Fam) → {k : Sort} → Tree S.Head k → Type 0
  FirstOrder fam t = Simple t × ((v : ℕ) → In v t → fam v ≡ none)

  or-false : (a b : Bool) → a ≡ false → b ≡ false → (a || b) ≡ false
  or-false a b p q = cc

  simple_soft : {k : Sort} (t : Tree S.Head k) → Simple t → any_soft S t ≡ false
  unfolding any_soft
  simple_soft (var v) p = refl
  simple_soft (node h ts) p = or-false (S.soft h) (any_soft S ts) p.0 (simple_soft ts p.3)
  simple_soft nil p = refl
  simple_soft (t ▸ ts) p = or-false (any_soft S t) (any_soft S ts) (simple_soft t p.0) (simple_soft ts p.1)

  pub simple_sub : (θ : ℕ → T S) → ((v : ℕ) → Simple (θ v)) → {k : Sort} (t : Tree S.Head k) → Simple t → Simple (sub θ t)
  unfolding sub
  simple_sub θ h (var v) p = h v
  simple_sub θ h (node k ts) p = (p.0, p.1, p.2, simple_sub θ h ts p.3)
  simple_sub θ h nil p = p
  simple_sub θ h (t ▸ ts) p = (simple_sub θ h t p.0, simple_sub θ h ts p.1)

  -- from the terms of demand 3 and of `Robinson`
  pub simple_of : {k : Sort} (t : Tree S.Head k) → Plain S t → Normal S n t → Simple t
  simple_of (var v) p q = tt
  simple_of (node h ts) p q = (p.0, p.1, q.0, simple_of ts p.3 q.1)
  simple_of nil p q = tt
  simple_of (t ▸ ts) p q = (simple_of t p.0 q.0, simple_of ts p.1 q.1)

  -- ---- pending pairs, resolved by ρ

  module _ (ρ : ℕ → T S) where
    -- θ makes the two sides of each equal
    abbrev Made : (ℕ → T S) → List (Pair S) → Type 0
    Made θ [] = Unit {0}
    Made θ (p ∷ ps) = (sub θ (sub ρ p.0) ≡ sub θ (sub ρ p.1)) × Made θ ps

    -- w is in one of them
    abbrev Occurs : ℕ → List (Pair S) → Type 0
    Occurs w [] = ⊥
    Occurs w (p ∷ ps) = In w (sub ρ p.0) ⊎ (In w (sub ρ p.1) ⊎ Occurs w ps)

    -- all are plain
    abbrev Ready : (ℕ → Option S.Fam) → List (Pair S) → Type 0
    Ready fam [] = Unit {0}
    Ready fam (p ∷ ps) = FirstOrder fam (sub ρ p.0) × FirstOrder fam (sub ρ p.1) × Ready fam ps

    -- the children in pairs
    abbrev Zipped : (ℕ → Option S.Fam) → Forest S.Head → Forest S.Head → List (Pair S) → Option (List (Pair S)) → Type 0
    Zipped fam ts us ps none = (θ : ℕ → T S) → ¬ (sub θ (sub ρ ts) ≡ sub θ (sub ρ us))
    Zipped fam ts us ps (some qs) =
        ((θ : ℕ → T S) → ((sub θ (sub ρ ts) ≡ sub θ (sub ρ us)) × Made θ ps) ↔ Made θ qs)
        × (FirstOrder fam (sub ρ ts) → FirstOrder fam (sub ρ us) → Ready fam ps → Ready fam qs)
        × ((w : ℕ) → Occurs w qs → In w (sub ρ ts) ⊎ (In w (sub ρ us) ⊎ Occurs w ps))

    zip_cons : (fam : ℕ → Option S.Fam) (t u : T S) (ts us : Forest S.Head) (ps : List (Pair S)) (o : Option (List (Pair S)))
        → Zipped fam ts us ((t, u) ∷ ps) o → Zipped fam (t ▸ ts) (u ▸ us) ps o
    unfolding sub
    zip_cons fam t u ts us ps none z = λ θ e. z θ (cc)
    zip_cons fam t u ts us ps (some qs) z = (
      λ θ. (
        λ p. let e = p.0 in (z.0 θ).0 (cc, (cc, p.1)),
        λ q. let r = (z.0 θ).1 q in (ap₂ ◌▸◌ r.1.0 r.0, r.1.1),
      ),
      λ a b c. z.1 (a.0.1, λ v i. a.1 v (inr i)) (b.0.1, λ v i. b.1 v (inr i)) ((a.0.0, λ v i. a.1 v (inl i)), (b.0.0, λ v i. b.1 v (inl i)), c),
      λ w i. elim (z.2 w i) [
        | inl a ↦ inl (inr a)
        | inr (inl b) ↦ inr (inl (inr b))
        | inr (inr (inl a)) ↦ inl (inl a)
        | inr (inr (inr (inl b))) ↦ inr (inl (inl b))
        | inr (inr (inr (inr c))) ↦ inr (inr c)
      ],
    )

    zipped : (fam : ℕ → Option S.Fam) (ts us : Forest S.Head) (ps : List (Pair S)) → Zipped fam ts us ps (zip_on S ts us ps)
    unfolding zip_on sub
    zipped fam nil nil ps = (λ θ. (λ p. p.1, λ q. (refl, q)), (λ a b c. c), λ w i. inr (inr i))
    zipped fam nil (u ▸ us) ps = λ θ e. clash (cc)
    zipped fam (t ▸ ts) nil ps = λ θ e. clash (cc)
    zipped fam (t ▸ ts) (u ▸ us) ps = zip_cons fam t u ts us ps (zip_on S ts us ((t, u) ∷ ps)) (zipped fam ts us ((t, u) ∷ ps))

  -- resolved by ρ, then by σ
  module _ (ρ σ : ℕ → T S) where
    abbrev after : ℕ → T S
    after u = sub σ (ρ u)

    through : {k : Sort} (t : Tree S.Head k) → sub after t ≡ sub σ (sub ρ t)
    through t = sym (sub-sub σ ρ t)

    made_forth : (θ : ℕ → T S) → ((v : ℕ) → θ v ≡ sub θ (σ v)) → (ps : List (Pair S)) → Made ρ θ ps → Made after θ ps
    made_forth θ e [] m = tt
    made_forth θ e (p ∷ ps) m = (absorb p.0 ∙ m.0 ∙ sym (absorb p.1), made_forth θ e ps m.1)
      where
        absorb : (t : T S) → sub θ (sub after t) ≡ sub θ (sub ρ t)
        absorb t = ap (sub θ) (through t) ∙ sub-sub θ σ (sub ρ t) ∙ sym (sub_ext (sub ρ t) (λ v i. e v))

    made_back : (δ : ℕ → T S) (ps : List (Pair S)) → Made after δ ps → Made ρ (λ v. sub δ (σ v)) ps
    made_back δ [] m = tt
    made_back δ (p ∷ ps) m = (unwind p.0 ∙ m.0 ∙ sym (unwind p.1), made_back δ ps m.1)
      where
        unwind : (t : T S) → sub (λ v. sub δ (σ v)) (sub ρ t) ≡ sub δ (sub after t)
        unwind t = sym (sub-sub δ σ (sub ρ t)) ∙ ap (sub δ) (sym (through t))

    ready_after : (fam : ℕ → Option S.Fam) → ((v : ℕ) → Simple (σ v)) → ((v w : ℕ) → fam v ≡ none → In w (σ v) → fam w ≡ none)
        → (ps : List (Pair S)) → Ready ρ fam ps → Ready after fam ps
    ready_after fam a b [] r = tt
    ready_after fam a b (p ∷ ps) r = (first p.0 r.0, first p.1 r.1, ready_after fam a b ps r.2)
      where
        first : (t : T S) → FirstOrder fam (sub ρ t) → FirstOrder fam (sub after t)
        first t f = subst (λ (u : T S). FirstOrder fam u) (sym (through t))
            (simple_sub σ a (sub ρ t) f.0, λ w i. let y = in_sub w σ (sub ρ t) i in b y.0 w (f.1 y.0 y.1) y.2)

    occurs_after : (w : ℕ) (ps : List (Pair S)) → Occurs after w ps → (y : ℕ) × Occurs ρ y ps × In w (σ y)
    occurs_after w [] i = absurd i
    occurs_after w (p ∷ ps) (inl i) = let y = in_sub w σ (sub ρ p.0) (rw (through p.0) at i) in (y.0, inl y.1, y.2)
    occurs_after w (p ∷ ps) (inr (inl i)) = let y = in_sub w σ (sub ρ p.1) (rw (through p.1) at i) in (y.0, inr (inl y.1), y.2)
    occurs_after w (p ∷ ps) (inr (inr i)) = let y = occurs_after w ps i in (y.0, inr (inr y.1), y.2)

  -- ---- one step, on the resolved terms l and r, with ps pending

  module _ (s : State S) (ps : List (Pair S)) where
    abbrev Held : T S → T S → ℕ → Type 0
    Held l r w = In w l ⊎ (In w r ⊎ Occurs s.res w ps)

    -- good: σ is applied to all that the session holds; who makes all equal goes through σ, and makes equal what is pending then; and back
    record Goes (l r : T S) (x : Step S) : Type 0 where
      σ : ℕ → T S
      later : (v : ℕ) → x.state.res v ≡ sub σ (s.res v)
      fams : x.state.fam ≡ s.fam
      ready : Ready x.state.res s.fam x.todo
      forth : (θ : ℕ → T S) → sub θ l ≡ sub θ r → Made s.res θ ps → ((v : ℕ) → θ v ≡ sub θ (σ v)) × Made x.state.res θ x.todo
      back : (δ : ℕ → T S) → Made x.state.res δ x.todo → (sub (λ v. sub δ (σ v)) l ≡ sub (λ v. sub δ (σ v)) r) × Made s.res (λ v. sub δ (σ v)) ps
      -- only variables of the pairs are moved, and none but theirs come in
      moves : (v : ℕ) → (σ v ≡ var v) ⊎ Held l r v
      brings : (v w : ℕ) → In w (σ v) → (w ≡ v) ⊎ Held l r w
      within : (w : ℕ) → Occurs x.state.res w x.todo → Held l r w

    Turned : T S → T S → Step S → Type 0
    Turned l r x = ((x.good ≡ true) × Goes l r x) ⊎ ((x.good ≡ false) × ((θ : ℕ → T S) → ¬ (sub θ l ≡ sub θ r)))

    -- nothing is bound, and qs is pending
    stays : (l r : T S) (qs : List (Pair S)) → Ready s.res s.fam qs → ((θ : ℕ → T S) → sub θ l ≡ sub θ r → Made s.res θ ps → Made s.res θ qs)
        → ((θ : ℕ → T S) → Made s.res θ qs → (sub θ l ≡ sub θ r) × Made s.res θ ps) → ((w : ℕ) → Occurs s.res w qs → Held l r w)
        → Turned l r (record { state = s; good = true; todo = qs })
    unfolding Turned sub
    stays l r qs y f b o = inl (
      refl,
      record {
        σ = var;
        later = λ v. sym (sub_fix var (s.res v) (λ w i. refl));
        fams = refl;
        ready = y;
        forth = λ θ e m. ((λ v. refl), f θ e m);
        back = λ δ m. b δ m;
        moves = λ v. inl refl;
        brings = λ v w i. inl i;
        within = o;
      },
    )

    module _ (ready : Ready s.res s.fam ps) where
      -- v is bound to t
      module _ (l r : T S) (v : ℕ) (t : T S) (turn : (θ : ℕ → T S) → (sub θ l ≡ sub θ r) ↔ (θ v ≡ sub θ t)) (free : s.res v ≡ var v)
          (at : Held l r v) (all : (w : ℕ) → In w t → Held l r w) (asked : s.fam v ≡ none) (first : FirstOrder s.fam t) (apart : ¬ (var v ≡ t)) where
        τ : ℕ → T S
        τ = put var v t

        τ_case : (y : ℕ) → ((y ≡ v) × (τ y ≡ t)) ⊎ ((y ≢ v) × (τ y ≡ var y))
        unfolding τ
        τ_case y = go (ℕ_discrete y v)
          where
            go : Dec (y ≡ v) → ((y ≡ v) × (put var v t y ≡ t)) ⊎ ((y ≢ v) × (put var v t y ≡ var y))
            go (yes e) = inl (e, ap (put var v t) e ∙ put_same var v t)
            go (no e) = inr (e, put_other var v t y e)

        bound : ¬ In v t → Turned l r (record { state = bind S s v t s.fam; good = true; todo = ps })
        unfolding Turned sub τ
        bound o = inl (
          refl,
          record {
            σ = put var v t;
            later = λ u. refl;
            fams = refl;
            ready = ready_after s.res (put var v t) s.fam (λ y. simple y (τ_case y)) (λ y w a i. unasked y w a i (τ_case y)) ps ready;
            forth = λ θ e m. let f : (y : ℕ) → θ y ≡ sub θ (put var v t y) = λ y. goes θ ((turn θ).0 e) y (τ_case y) in (f, made_forth s.res (put var v t) θ f ps m);
            back = λ δ m. ((turn (λ y. sub δ (put var v t y))).1 (comes δ), made_back s.res (put var v t) δ ps m);
            moves = λ y. elim (τ_case y) [ inl c ↦ inr (held y c.0) | inr c ↦ inl c.1 ];
            brings = λ y w i. bring y w i (τ_case y);
            within = λ w i. let y = occurs_after s.res (put var v t) w ps i in elim (bring y.0 w y.2 (τ_case y.0)) [ inl e ↦ inr (inr (subst (λ (x : ℕ). Occurs s.res x ps) (sym e) y.1)) | inr h ↦ h ];
          },
        )
          where
            held : (y : ℕ) → y ≡ v → Held l r y
            held y e = subst (λ (x : ℕ). Held l r x) (sym e) at

            simple : (y : ℕ) → ((y ≡ v) × (put var v t y ≡ t)) ⊎ ((y ≢ v) × (put var v t y ≡ var y)) → Simple (put var v t y)
            simple y (inl c) = rw c.1 first.0
            simple y (inr c) = rw c.1 tt

            unasked : (y w : ℕ) → s.fam y ≡ none → In w (put var v t y) → ((y ≡ v) × (put var v t y ≡ t)) ⊎ ((y ≢ v) × (put var v t y ≡ var y)) → s.fam w ≡ none
            unasked y w a i (inl c) = first.1 w (rw c.1 at i)
            unasked y w a i (inr c) = let e : w ≡ y = rw c.1 at i in ap s.fam e ∙ a

            bring : (y w : ℕ) → In w (put var v t y) → ((y ≡ v) × (put var v t y ≡ t)) ⊎ ((y ≢ v) × (put var v t y ≡ var y)) → (w ≡ y) ⊎ Held l r w
            bring y w i (inl c) = inr (all w (rw c.1 at i))
            bring y w i (inr c) = inl (rw c.1 at i)

            goes : (θ : ℕ → T S) → θ v ≡ sub θ t → (y : ℕ) → ((y ≡ v) × (put var v t y ≡ t)) ⊎ ((y ≢ v) × (put var v t y ≡ var y)) → θ y ≡ sub θ (put var v t y)
            goes θ e y (inl c) = ap θ c.0 ∙ e ∙ ap (sub θ) (sym c.1)
            goes θ e y (inr c) = ap (sub θ) (sym c.1)

            comes : (δ : ℕ → T S) → sub δ (put var v t v) ≡ sub (λ y. sub δ (put var v t y)) t
            comes δ = ap (sub δ) (put_same var v t) ∙ sub_ext t (λ y i. ap (sub δ) (sym (put_other var v t y (λ e. o (rw e at i)))))

        occurs : In v t → (θ : ℕ → T S) → ¬ (θ v ≡ sub θ t)
        occurs i θ e = go t i apart e
          where
            go : (t : T S) → In v t → ¬ (var v ≡ t) → θ v ≡ sub θ t → ⊥
            go (var w) i d e = d (ap var i)
            go (node k ts) i d e = occurs_clash {n = λ h. h} θ v k ts i (sim_of_eq e)

        assigned : Turned l r (assign S s v t ps)
        unfolding assign assign₀ assign₁ Turned admit
        assigned = soft (any_soft S t) (simple_soft t first.0)
          where
            check : (d : Dec (In v t)) → Turned l r (assign₁ S s v t ps (some s.fam) d)
            check (yes i) = inr (refl, λ θ e. occurs i θ ((turn θ).0 e))
            check (no i) = bound i

            soft : (b : Bool) → b ≡ false → Turned l r (assign₀ S s v t ps b)
            soft true e = clash (cc)
            soft false e = subst (λ (o : Option S.Fam). Turned l r (assign₁ S s v t ps (admit S s.fam o t) (in? v t))) (sym asked) (check (in? v t))

      module _ (h k : S.Head) (ts us : Forest S.Head) (ft : FirstOrder s.fam (node h ts)) (fu : FirstOrder s.fam (node k us))
          (et : sub s.res ts ≡ ts) (eu : sub s.res us ≡ us) where
        splits : Turned (node h ts) (node k us) (split S n s h k ts us ps (S.soft h || S.soft k) (S.rigid h) (S.head? (n h) (n k)))
        unfolding split split₁ Turned sub
        splits = go (S.soft h || S.soft k) (S.rigid h) (or-false (S.soft h) (S.soft k) ft.0.0 fu.0.0) ft.0.1 (S.head? (n h) (n k))
          where
            zips : h ≡ k → (o : Option (List (Pair S))) → Zipped s.res s.fam ts us ps o → Turned (node h ts) (node k us) (split₁ S s ps o)
            zips d none z = inr (refl, λ θ e. z θ (let x : sub θ ts ≡ sub θ us = cc in ap (sub θ) et ∙ x ∙ ap (sub θ) (sym eu)))
            zips d (some qs) z = stays (node h ts) (node k us) qs
                (z.1 (subst (λ (f : Forest S.Head). FirstOrder s.fam f) (sym et) (ft.0.3, ft.1)) (subst (λ (f : Forest S.Head). FirstOrder s.fam f) (sym eu) (fu.0.3, fu.1)) ready)
                (λ θ e m. (z.0 θ).0 (let x : sub θ ts ≡ sub θ us = cc in ap (sub θ) et ∙ x ∙ ap (sub θ) (sym eu), m))
                (λ θ m. let x = (z.0 θ).1 m in (ap₂ node d (ap (sub θ) (sym et) ∙ x.0 ∙ ap (sub θ) eu), x.1))
                (λ w i. elim (z.2 w i) [ inl a ↦ inl (rw et at a) | inr (inl b) ↦ inr (inl (rw eu at b)) | inr (inr c) ↦ inr (inr c) ])

            go : (a b : Bool) → a ≡ false → b ≡ false → (d : Dec (n h ≡ n k)) → Turned (node h ts) (node k us) (split S n s h k ts us ps a b d)
            go true b p q d = clash (cc)
            go false true p q d = clash (cc)
            go false false p q (yes d) = zips (sym ft.0.2 ∙ d ∙ fu.0.2) (zip_on S ts us ps) (zipped s.res s.fam ts us ps)
            go false false p q (no d) = inr (refl, λ θ e. d (ap n (let x : h ≡ k = cc in x)))

      unequals : (l r : T S) → FirstOrder s.fam l → FirstOrder s.fam r → ((v : ℕ) → In v l → s.res v ≡ var v) → ((v : ℕ) → In v r → s.res v ≡ var v)
          → sub s.res l ≡ l → sub s.res r ≡ r → ¬ (l ≡ r) → Turned l r (unequal S n s l r ps)
      unfolding unequal sub
      unequals (var v) r fl fr a b el er d =
          assigned (var v) r v r (λ θ. (λ e. e, λ e. e)) (a v refl) (inl refl) (λ w i. inr (inl i)) (fl.1 v refl) fr d
      unequals (node h ts) (var v) fl fr a b el er d =
          assigned (node h ts) (var v) v (node h ts) (λ θ. (λ e. sym e, λ e. sym e)) (b v refl) (inr (inl refl)) (λ w i. inl i) (fr.1 v refl) fl (λ e. d (sym e))
      unequals (node h ts) (node k us) fl fr a b el er d = splits h k ts us fl fr (cc (el)) (cc (er))

      compares : (l r : T S) → FirstOrder s.fam l → FirstOrder s.fam r → ((v : ℕ) → In v l → s.res v ≡ var v) → ((v : ℕ) → In v r → s.res v ≡ var v)
          → sub s.res l ≡ l → sub s.res r ≡ r → (d : Dec (l ≡ r)) → Turned l r (compare S n s l r ps d)
      unfolding compare
      compares l r fl fr a b el er (yes d) = stays l r ps ready (λ θ e m. m) (λ θ m. (ap (sub θ) d, m)) (λ w i. inr (inr i))
      compares l r fl fr a b el er (no d) = unequals l r fl fr a b el er d

  turned : (N : ℕ) (s : State S) → Fine S N s → (p : Pair S) (ps : List (Pair S)) → Ready s.res s.fam (p ∷ ps)
      → Turned s ps (sub s.res p.0) (sub s.res p.1) (step S n s p.0 p.1 ps)
  unfolding step
  turned N s f p ps r =
      let free : (t : T S) (v : ℕ) → In v (sub s.res t) → s.res v ≡ var v = λ t v i. let q = in_sub v s.res t i in f.idem q.0 v q.2 in
      let fixed : (t : T S) → sub s.res (sub s.res t) ≡ sub s.res t = λ t. sub_fix s.res (sub s.res t) (free t) in
      compares s ps r.2 (sub s.res p.0) (sub s.res p.1) r.0 r.1 (free p.0) (free p.1) (fixed p.0) (fixed p.1)
      (same? S.head? (sub s.res p.0) (sub s.res p.1))

  -- ---- the loop

  -- s' is s with σ applied to all that it holds, and σ is a most general substitution that makes the pairs ps equal
  record Settled (s : State S) (ps : List (Pair S)) (s' : State S) : Type 0 where
    σ : ℕ → T S
    later : (v : ℕ) → s'.res v ≡ sub σ (s.res v)
    fams : s'.fam ≡ s.fam
    made : Made s.res σ ps
    general : (θ : ℕ → T S) → Made s.res θ ps → (v : ℕ) → θ v ≡ sub θ (σ v)
    moves : (v : ℕ) → (σ v ≡ var v) ⊎ Occurs s.res v ps
    brings : (v w : ℕ) → In w (σ v) → (w ≡ v) ⊎ Occurs s.res w ps

  settled_nothing : (s : State S) → Settled s [] s
  unfolding sub
  settled_nothing s = record {
    σ = var;
    later = λ v. sym (sub_fix var (s.res v) (λ w i. refl));
    fams = refl;
    made = tt;
    general = λ θ m v. refl;
    moves = λ v. inl refl;
    brings = λ v w i. inl i;
  }

  settled_more : (s : State S) (p : Pair S) (ps : List (Pair S)) (x : Step S) (s' : State S) → Goes s ps (sub s.res p.0) (sub s.res p.1) x
      → Settled x.state x.todo s' → Settled s (p ∷ ps) s'
  unfolding sub
  settled_more s p ps x s' g t = record {
    σ = λ v. sub t.σ (g.σ v);
    later = λ v. t.later v ∙ ap (sub t.σ) (g.later v) ∙ sub-sub t.σ g.σ (s.res v);
    fams = t.fams ∙ g.fams;
    made = g.back t.σ t.made;
    general = λ θ m v.
        let f = g.forth θ m.0 m.1 in
        f.0 v ∙ sub_ext (g.σ v) (λ w i. t.general θ f.1 w) ∙ sym (sub-sub θ t.σ (g.σ v));
    moves = λ v. elim (g.moves v) [ inl e ↦ again v e (t.moves v) | inr h ↦ inr h ];
    brings = λ v w i. let y = in_sub w t.σ (g.σ v) i in from v w y.0 (g.brings v y.0 y.1) (t.brings y.0 w y.2);
  }
    where
      again : (v : ℕ) → g.σ v ≡ var v → (t.σ v ≡ var v) ⊎ Occurs x.state.res v x.todo → (sub t.σ (g.σ v) ≡ var v) ⊎ Occurs s.res v (p ∷ ps)
      again v e (inl q) = inl (ap (sub t.σ) e ∙ q)
      again v e (inr h) = inr (g.within v h)

      from : (v w y : ℕ) → (y ≡ v) ⊎ Occurs s.res y (p ∷ ps) → (w ≡ y) ⊎ Occurs x.state.res w x.todo → (w ≡ v) ⊎ Occurs s.res w (p ∷ ps)
      from v w y a (inr h) = inr (g.within w h)
      from v w y (inl a) (inl b) = inl (b ∙ a)
      from v w y (inr a) (inl b) = inr (subst (λ (z : ℕ). Occurs s.res z (p ∷ ps)) (sym b) a)

  abbrev Loops : State S → Bool → List (Pair S) → Out (State S) → Type 0
  Loops s ok ps (cancelled s') = Unit {0}
  Loops s ok ps (done s' b) = ((b ≡ ok) × Settled s ps s') ⊎ ((b ≡ false) × ((θ : ℕ → T S) → ¬ Made s.res θ ps))

  -- once incompatible, incompatible in the end
  abbrev Wrong : Out (State S) → Type 0
  Wrong (cancelled s) = Unit {0}
  Wrong (done s b) = b ≡ false

  and-false : (a b : Bool) → b ≡ false → (a && b) ≡ false
  and-false true b e = e
  and-false false b e = refl

  and-true : (a b : Bool) → b ≡ true → (a && b) ≡ a
  and-true true b e = e
  and-true false b e = refl

  wrong_stays : (k : ℕ) (s : State S) (ok : Bool) (ps : List (Pair S)) → ok ≡ false → Wrong (constrain S n k s ok ps)
  unfolding constrain
  wrong_stays zero s ok [] e = e
  wrong_stays zero s ok (p ∷ ps) e = tt
  wrong_stays (suc k) s ok [] e = e
  wrong_stays (suc k) s ok (p ∷ ps) e =
      let x = step S n s p.0 p.1 ps in
      wrong_stays k x.state (ok && x.good) x.todo (let f : (ok && x.good) ≡ (false && x.good) = ap (λ (b : Bool). b && x.good) e in f)

  module _ (respects : (f : S.Fam) (h k : S.Head) → n h ≡ n k → S.admits f h ≡ S.admits f k) where
    loops : (k N : ℕ) (s : State S) (ok : Bool) (ps : List (Pair S)) → Fine S N s → Below S N ps → Ready s.res s.fam ps → Loops s ok ps (constrain S n k s ok ps)
    unfolding constrain Turned
    loops zero N s ok [] f b r = inl (refl, settled_nothing s)
    loops zero N s ok (p ∷ ps) f b r = tt
    loops (suc k) N s ok [] f b r = inl (refl, settled_nothing s)
    loops (suc k) N s ok (p ∷ ps) f b r = go (λ y. loops k N x.state (ok && x.good) x.todo right.fine right.below y) (turned N s f p ps r)
      where
        x : Step S
        x = step S n s p.0 p.1 ps

        right : Right S n respects N s (AllPlain S n respects s (p ∷ ps)) (Sols S n s (p ∷ ps)) (step S n s p.0 p.1 ps)
        right = step_right S n respects N s f ps b.2 p.0 p.1 b.0 b.1

        good : x.good ≡ true → Goes s ps (sub s.res p.0) (sub s.res p.1) x → (o : Out (State S)) → Loops x.state (ok && x.good) x.todo o → Loops s ok (p ∷ ps) o
        good e g (cancelled s') l = tt
        good e g (done s' b) (inl l) = inl (l.0 ∙ and-true ok x.good e, settled_more s p ps x s' g l.1)
        good e g (done s' b) (inr l) = inr (l.0, λ θ m. l.1 θ (g.forth θ m.0 m.1).1)

        bad : ((θ : ℕ → T S) → ¬ (sub θ (sub s.res p.0) ≡ sub θ (sub s.res p.1))) → (o : Out (State S)) → Wrong o → Loops s ok (p ∷ ps) o
        bad e (cancelled s') w = tt
        bad e (done s' b) w = inr (w, λ θ m. e θ m.0)

        go : (Ready x.state.res x.state.fam x.todo → Loops x.state (ok && x.good) x.todo (constrain S n k x.state (ok && x.good) x.todo))
            → ((x.good ≡ true) × Goes s ps (sub s.res p.0) (sub s.res p.1) x) ⊎ ((x.good ≡ false) × ((θ : ℕ → T S) → ¬ (sub θ (sub s.res p.0) ≡ sub θ (sub s.res p.1))))
            → Loops s ok (p ∷ ps) (constrain S n k x.state (ok && x.good) x.todo)
        go more (inl g) = good g.0 g.1 (constrain S n k x.state (ok && x.good) x.todo)
            (more (subst (λ (fam : ℕ → Option S.Fam). Ready x.state.res fam x.todo) (sym g.1.fams) g.1.ready))
        go more (inr w) = bad w.1 (constrain S n k x.state (ok && x.good) x.todo) (wrong_stays k x.state (ok && x.good) x.todo (and-false ok x.good w.0))

    -- ---- a pair posed to a session over a table

    -- {t, u} is unified by σ, most generally, and what every term resolves to afterwards is what it resolved to before, with σ applied
    pub record UnifiedBy (σ : ℕ → T S) (t u : T S) (before after : T S → T S) : Type 0 where
      pub unifies : Unifier σ t u
      -- every unifier θ is σ followed by θ
      pub general : (θ : ℕ → T S) → Unifier θ t u → (v : ℕ) → θ v ≡ sub θ (σ v)
      pub so : (w : T S) → after w ≡ sub σ (before w)
      -- a variable that is in neither stays itself, and none but theirs come in
      pub moves : (v : ℕ) → (σ v ≡ var v) ⊎ (In v t ⊎ In v u)
      pub brings : (v w : ℕ) → In w (σ v) → (w ≡ v) ⊎ (In w t ⊎ In w u)

    -- What a pair does: each variable that was free just before it, to what that one resolves to after it. (Bound ones stand in no resolved term.)
    unfoldable pub newly : (before after : T S → T S) → ℕ → T S
    newly before after v = ite (same? S.head? (before (var v)) (var v)) (after (var v)) (var v)

    -- no other does so
    newly_only : (σ : ℕ → T S) (t u : T S) (before after : T S → T S) → UnifiedBy σ t u before after → ((v : ℕ) → In v t ⊎ In v u → before (var v) ≡ var v)
        → (v : ℕ) → σ v ≡ newly before after v
    unfolding newly sub
    newly_only σ t u before after x free v = go (same? S.head? (before (var v)) (var v)) (x.moves v)
      where
        go : (d : Dec (before (var v) ≡ var v)) → (σ v ≡ var v) ⊎ (In v t ⊎ In v u) → σ v ≡ ite d (after (var v)) (var v)
        go (yes e) m = sym (x.so (var v) ∙ ap (sub σ) e)
        go (no e) (inl m) = m
        go (no e) (inr i) = absurd (e (free v i))

    -- an order 4 over a table: compatible, it unified the two resolved terms; incompatible, they have no unifier at all
    abbrev pub Poses : Table S → T S → T S → Out (Table S) → Type 0
    Poses z t u (cancelled z') = Unit {0}
    Poses z t u (done z' true) = UnifiedBy (newly (λ w. answer S z w) (λ w. answer S z' w)) (answer S z t) (answer S z u) (λ w. answer S z w) (λ w. answer S z' w)
    Poses z t u (done z' false) = (θ : ℕ → T S) → ¬ Unifier θ (answer S z t) (answer S z u)

    pub table_pair : (k N : ℕ) (z : Table S) (s : State S) → Stands S z s → Counted S N z → Fine S N s → (t u : T S) → ((v : ℕ) → In v t → v < N) → ((v : ℕ) → In v u → v < N)
        → FirstOrder z.fam (answer S z t) → FirstOrder z.fam (answer S z u) → Poses z t u (table_poses S n k z t u)
    unfolding sub
    table_pair k N z s st ct f t u bt bu ft fu =
        go (table_poses S n k z t u) (poses S n k s t u)
        (settles_follows S n respects k N z s true true ((t, u) ∷ []) ((t, u) ∷ []) st ct refl f (bt, bu, tt) (refl, refl, tt))
        (loops k N s true ((t, u) ∷ []) f (bt, bu, tt) (here t ft, here u fu, tt))
      where
        resolves : (w : T S) → answer S z w ≡ sub s.res w
        resolves w = resolve_right z.bound z.rev s.res st.rep w

        here : (w : T S) → FirstOrder z.fam (answer S z w) → FirstOrder s.fam (sub s.res w)
        here w g = subst (λ (fam : ℕ → Option S.Fam). FirstOrder fam (sub s.res w)) st.fams (subst (λ (x : T S). FirstOrder z.fam x) (resolves w) g)

        there : (θ : ℕ → T S) → Unifier θ (answer S z t) (answer S z u) → sub θ (sub s.res t) ≡ sub θ (sub s.res u)
        there θ e = ap (sub θ) (sym (resolves t)) ∙ e ∙ ap (sub θ) (resolves u)

        theirs : (v : ℕ) → Occurs s.res v ((t, u) ∷ []) → In v (answer S z t) ⊎ In v (answer S z u)
        theirs v (inl i) = inl (rw (resolves t) i)
        theirs v (inr (inl i)) = inr (rw (resolves u) i)
        theirs v (inr (inr i)) = absurd i

        free : (v : ℕ) → In v (answer S z t) ⊎ In v (answer S z u) → answer S z (var v) ≡ var v
        free v (inl i) = let q = in_sub v s.res t (rw (resolves t) at i) in resolves (var v) ∙ f.idem q.0 v q.2
        free v (inr i) = let q = in_sub v s.res u (rw (resolves u) at i) in resolves (var v) ∙ f.idem q.0 v q.2

        unified : (z' : Table S) (s' : State S) → Stands S z' s' → (x : Settled s ((t, u) ∷ []) s') → UnifiedBy x.σ (answer S z t) (answer S z u) (λ w. answer S z w) (λ w. answer S z' w)
        unified z' s' st' x = record {
          unifies = ap (sub x.σ) (resolves t) ∙ x.made.0 ∙ ap (sub x.σ) (sym (resolves u));
          general = λ θ e v. x.general θ (there θ e, tt) v;
          so = λ w.
              resolve_right z'.bound z'.rev s'.res st'.rep w ∙ sub_ext w (λ v i. x.later v)
              ∙ sym (sub-sub x.σ s.res w) ∙ ap (sub x.σ) (sym (resolves w));
          moves = λ v. elim (x.moves v) [ inl e ↦ inl e | inr i ↦ inr (theirs v i) ];
          brings = λ v w i. elim (x.brings v w i) [ inl e ↦ inl e | inr j ↦ inr (theirs w j) ];
        }

        newly_unified : (z' : Table S) (σ : ℕ → T S) → UnifiedBy σ (answer S z t) (answer S z u) (λ w. answer S z w) (λ w. answer S z' w)
            → UnifiedBy (newly (λ w. answer S z w) (λ w. answer S z' w)) (answer S z t) (answer S z u) (λ w. answer S z w) (λ w. answer S z' w)
        newly_unified z' σ x = subst (λ (τ : ℕ → T S). UnifiedBy τ (answer S z t) (answer S z u) (λ w. answer S z w) (λ w. answer S z' w))
            (fun_ext (newly_only σ (answer S z t) (answer S z u) (λ w. answer S z w) (λ w. answer S z' w) x free)) x

        go : (o : Out (Table S)) (o' : Out (State S)) → Ends S n respects N o o' → Loops s true ((t, u) ∷ []) o' → Poses z t u o
        go (cancelled z') (cancelled s') e l = tt
        go (cancelled z') (done s' c) e l = absurd e
        go (done z' b) (cancelled s') e l = absurd e
        go (done z' true) (done s' c) e (inl l) = newly_unified z' l.1.σ (unified z' s' e.0 l.1)
        go (done z' true) (done s' c) e (inr l) = clash (cc (e.3, l.0))
        go (done z' false) (done s' c) e (inl l) = clash (cc (e.3, l.0))
        go (done z' false) (done s' c) e (inr l) = λ θ q. l.1 θ (there θ q, tt)

    -- with more checks it ends as it ended
    pub more_checks : (k m : ℕ) (z : Table S) (ok : Bool) (ps : List (Pair S)) → k ≤ m → (z' : Table S) (b : Bool) → settles S n k z ok ps ≡ done z' b → settles S n m z ok ps ≡ done z' b
    unfolding settles
    more_checks zero zero z ok ps l z' b e = e
    more_checks zero (suc m) z ok [] l z' b e = e
    more_checks zero (suc m) z ok (p ∷ ps) l z' b e = clash (cc)
    more_checks (suc k) zero z ok ps l z' b e = absurd (omega arith)
    more_checks (suc k) (suc m) z ok [] l z' b e = e
    more_checks (suc k) (suc m) z ok (p ∷ ps) l z' b e =
        let x = turn S n z p.0 p.1 ps in
        more_checks k m x.state (ok && x.good) x.todo (omega arith) z' b e

    -- ---- THE STATEMENT

    -- θ is σ followed by some δ
    abbrev pub Instance : (ℕ → T S) → (ℕ → T S) → Type 0
    Instance θ σ = (δ : ℕ → T S) × ((v : ℕ) → θ v ≡ sub δ (σ v))

    -- The pair of t and u was answered r; what a term resolves to just before it, and after it. `before t` and `before u` are the two terms resolved.
    pub record Decided (before after : T S → T S) (t u : T S) (r : Reply S) : Type 0 where
      -- answered compatible: exactly where the Unification Algorithm, run on the set of the two resolved terms, ends with a unifier; exactly if there is one
      pub compatible : (r ≡ verdict 1) ↔ ((σ : Subst S.Head) × (unification S.head? (before t) (before u) ≡ unifier σ))
      pub unifiable : (r ≡ verdict 1) ↔ ((θ : ℕ → T S) × Unifier θ (before t) (before u))
      -- answered incompatible: exactly where it ends without one; exactly if there is none at all
      pub incompatible : (r ≡ verdict 0) ↔ (unification S.head? (before t) (before u) ≡ without)
      pub clashing : (r ≡ verdict 0) ↔ ((θ : ℕ → T S) → ¬ Unifier θ (before t) (before u))
      -- where it ends with σ: what every term resolves to afterwards is its former resolution with a most general unifier σ' of the two resolved terms
      -- applied (`newly`), and σ' and σ are instances of each other
      pub resolved_so : (σ : Subst S.Head) → unification S.head? (before t) (before u) ≡ unifier σ
          → UnifiedBy (newly before after) (before t) (before u) before after × Instance (newly before after) (value σ) × Instance (value σ) (newly before after)

    module _ (before after : T S → T S) (t u : T S) (r : Reply S) where
      decided_yes : UnifiedBy (newly before after) (before t) (before u) before after → r ≡ verdict 1 → Decided before after t u r
      decided_yes x e = go (either S.head? (before t) (before u))
        where
          go : ((σ : Subst S.Head) × (unification S.head? (before t) (before u) ≡ unifier σ)) ⊎ (unification S.head? (before t) (before u) ≡ without) → Decided before after t u r
          go (inl f) = record {
            compatible = (λ q. f, λ q. e);
            unifiable = (λ q. (newly before after, x.unifies), λ q. e);
            incompatible = ((λ q. clash (cc (q, e))), λ q. clash (cc (f.1, q)));
            clashing = ((λ q. clash (cc (q, e))), λ q. absurd (q (newly before after) x.unifies));
            resolved_so = λ σ q.
                let w = with_unifier S.head? (before t) (before u) σ q in
                (x, (newly before after, w.1 (newly before after) x.unifies), (value σ, x.general (value σ) w.0.unifies));
          }
          go (inr f) = absurd (without_unifier S.head? (before t) (before u) f (newly before after) x.unifies)

      decided_no : ((θ : ℕ → T S) → ¬ Unifier θ (before t) (before u)) → r ≡ verdict 0 → Decided before after t u r
      decided_no x e = go (either S.head? (before t) (before u))
        where
          go : ((σ : Subst S.Head) × (unification S.head? (before t) (before u) ≡ unifier σ)) ⊎ (unification S.head? (before t) (before u) ≡ without) → Decided before after t u r
          go (inl f) = absurd (x (value f.0) (with_unifier S.head? (before t) (before u) f.0 f.1).0.unifies)
          go (inr f) = record {
            compatible = ((λ q. clash (cc (q, e))), λ q. clash (cc (q.1, f)));
            unifiable = ((λ q. clash (cc (q, e))), λ q. absurd (x q.0 q.1));
            incompatible = (λ q. f, λ q. e);
            clashing = (λ q. x, λ q. e);
            resolved_so = λ σ q. clash (cc (q, f));
          }

    module _ (default : S.Fam → Option S.Fam → S.Head) (never : S.Head) where
      abbrev resolved : R S default never → T S → T S
      resolved x w = answer S x.state.table w

      -- the pair of t and u is one of plain first-order terms, as they resolve in the session: no recovery term, no projection, no access mark (`Simple`)
      -- and no variable with a request; and no variable in it that was not issued (order 4 refuses such)
      pub record PlainPair (x : R S default never) (t u : T S) : Type 0 where
        pub issued_left : Issued x.count t
        pub issued_right : Issued x.count u
        pub left : FirstOrder x.state.table.fam (resolved x t)
        pub right : FirstOrder x.state.table.fam (resolved x u)

      -- order 4, with k checks
      abbrev pub DecidesPair : R S default never → ℕ → T S → T S → Type 0
      DecidesPair x k t u = Decided (λ w. answer S x.state.table w) (λ w. answer S (obey S default never n x (pair k t u)).state.table w) t u (reply S default never n x (pair k t u))

      -- ROBINSON DECIDES the pair: with enough checks; and with fewer it is so, or cancelled (2)
      pub record RobinsonDecides (x : R S default never) (t u : T S) : Type 0 where
        pub checks : ℕ
        pub enough : (k : ℕ) → checks ≤ k → DecidesPair x k t u
        pub fewer : (k : ℕ) → (reply S default never n x (pair k t u) ≡ verdict 2) ⊎ DecidesPair x k t u

      -- a pair that was not cancelled
      pub decides_at : (x : R S default never) (t u : T S) → RobinsonDecides x t u → (k : ℕ) → ¬ (reply S default never n x (pair k t u) ≡ verdict 2) → DecidesPair x k t u
      decides_at x t u d k uncut = elim (d.fewer k) [ inl e ↦ absurd (uncut e) | inr y ↦ y ]

      -- in every session that is in order
      pub decides_in : (x : R S default never) → Sane S default never n respects x.count x.state.table → (t u : T S) → PlainPair x t u → RobinsonDecides x t u
      unfolding obey serve_pair reply if_issued settle lift verdict_of
      decides_in x y t u p = record {
        checks = K.0;
        enough = λ k l. shown k (issued? x.count t) (issued? x.count u) (K.1 k l);
        fewer = λ k. elim (ends_or_cut (table_poses S n k x.state.table t u)) [
          | inl f ↦ inr (shown k (issued? x.count t) (issued? x.count u) f)
          | inr e ↦ inl (says k (issued? x.count t) (issued? x.count u) e)
        ];
      }
        where
          K : Ends-by_itself S n respects x.state.table true ((t, u) ∷ [])
          K = settles_enough S n respects x.count x.state.table y.means y.stands y.counted y.fine t u p.issued_left p.issued_right

          final : (o : Out (Table S)) → Poses x.state.table t u o → Finished S n respects o
              → Decided (λ w. answer S x.state.table w) (λ w. answer S (settle S x t u (lift S default never x.state o)).state.table w) t u (verdict (verdict_of S default never n o))
          final (cancelled z') q f = absurd f
          final (done z' true) q f = decided_yes (λ w. answer S x.state.table w) (λ w. answer S z' w) t u (verdict 1) q refl
          final (done z' false) q f = decided_no (λ w. answer S x.state.table w) (λ w. answer S z' w) t u (verdict 0) q refl

          shown : (k : ℕ) (a : Dec (Issued x.count t)) (b : Dec (Issued x.count u)) → Finished S n respects (table_poses S n k x.state.table t u)
              → Decided (λ w. answer S x.state.table w) (λ w. answer S (serve_pair S default never n x k t u a b).state.table w) t u
              (if_issued S default never n a (if_issued S default never n b (verdict (verdict_of S default never n (table_poses S n k x.state.table t u)))))
          shown k (yes a) (yes b) f =
              final (table_poses S n k x.state.table t u)
              (table_pair k x.count x.state.table y.means y.stands y.counted y.fine t u p.issued_left p.issued_right p.left p.right) f
          shown k (yes a) (no b) f = absurd (b p.issued_right)
          shown k (no a) b f = absurd (a p.issued_left)

          ends_or_cut : (o : Out (Table S)) → Finished S n respects o ⊎ (verdict_of S default never n o ≡ 2)
          ends_or_cut (cancelled z') = inr refl
          ends_or_cut (done z' b) = inl tt

          says : (k : ℕ) (a : Dec (Issued x.count t)) (b : Dec (Issued x.count u)) → verdict_of S default never n (table_poses S n k x.state.table t u) ≡ 2
              → if_issued S default never n a (if_issued S default never n b (verdict (verdict_of S default never n (table_poses S n k x.state.table t u)))) ≡ verdict 2
          says k (yes a) (yes b) e = ap verdict e
          says k (yes a) (no b) e = absurd (b p.issued_right)
          says k (no a) b e = absurd (a p.issued_left)

      -- ROBINSON 1965, PER PAIR: after EVERY list of orders 0 to 8, with whatever answers. Nothing is asked of what came before but what is seen in the two
      -- terms as they resolve now.
      pub robinson_each : (cs : List (Command S)) (t u : T S) → PlainPair (sheet S default never n cs) t u → RobinsonDecides (sheet S default never n cs) t u
      robinson_each cs t u = decides_in (sheet S default never n cs) (sheet_sane S default never n respects cs).sane t u

      -- "FOR PLAIN FIRST-ORDER PAIRS (NO RECOVERY TERMS, PROJECTIONS, NUMBER VARIABLES OR ACCESS MARKS) ROBINSON 1965 DECIDES": in every list of orders, the answer at
      -- the place of such a pair, whatever stands before and after it.
      replies_append : (x : R S default never) (cs ds : List (Command S)) → replies S default never n x (cs ++ ds) ≡ replies S default never n x cs ++ replies S default never n (obey_all S default never n x cs) ds
      unfolding replies obey_all
      replies_append x [] ds = refl
      replies_append x (c ∷ cs) ds = ap (λ (rs : List (Reply S)). reply S default never n x c ∷ rs) (replies_append (obey S default never n x c) cs ds)

      pub robinson_1965_decides : (cs ds : List (Command S)) (t u : T S) → PlainPair (sheet S default never n cs) t u
          → (K : ℕ) × ((k : ℕ) → K ≤ k → (r : Reply S)
          × (replies S default never n (fresh S (session_begin S default never)) (cs ++ (pair k t u ∷ ds))
          ≡ replies S default never n (fresh S (session_begin S default never)) cs ++ (r ∷ replies S default never n (obey S default never n (sheet S default never n cs) (pair k t u)) ds))
          × Decided (λ w. answer S (sheet S default never n cs).state.table w) (λ w. answer S (obey S default never n (sheet S default never n cs) (pair k t u)).state.table w) t u r)
      unfolding replies
      robinson_1965_decides cs ds t u p =
          let d = robinson_each cs t u p in
          (d.checks, λ k l. (reply S default never n (sheet S default never n cs) (pair k t u), replies_append (fresh S (session_begin S default never)) cs (pair k t u ∷ ds), d.enough k l))

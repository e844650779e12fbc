-- Robinson 1965: unifiers and most general unifiers, by equality proper, of substitutions whose terms may hold variables. On pairs with no access
-- marks (each head is its own normal form), no number variable, no recovery term and no projection the solver decides unifiability, and
-- what it resolves variables to is a most general unifier.
use mathlib.Core.Path.{◌≡◌, refl, ap, ap₂, sym, ◌∙◌, subst}
use mathlib.Core.Bool.{Bool, true, false, ◌&&◌, ◌||◌}
use mathlib.Core.Option.{Option, none, some}
use mathlib.Core.List.{List, [], ◌∷◌}
use Prim.Native.Nat.{ℕ, zero, suc}
use native.Mathlib.Decide.{ℕ_discrete}
use Rattle.unify.specs.Term.{Sort, Tree, var, node, nil, ◌▸◌, Forest, map, sub, In, in?, same?, clash, Sim, sim_of_eq, sub_fix}
use Rattle.unify.specs.Solver.{Sig, T, Pair, State, Step, Out, cancelled, done, put, put_same, put_other}
use Rattle.unify.specs.Solver.{admit, any_soft, assign₁, assign₀, assign, zip_on, split₁, split, unequal, compare, step, constrain, poses, asks, begin}
use Rattle.unify.specs.Meaning.{True, All}
use Rattle.unify.specs.Orders.{Issued, issued?, Order, issue, ask, pose, other, Run, fresh, settle, posing, serve, run}
use Rattle.unify.proofs.Demand.{Inv, Premises, end, fresh_inv, run_inv}

pub map-id : {H : Type 0} {k : Sort} (t : Tree H k) → map (λ h. h) t ≡ t
unfolding map
map-id (var v) = refl
map-id (node h ts) = ap (node h) (map-id ts)
map-id nil = refl
map-id (t ▸ ts) = ap₂ ◌▸◌ (map-id t) (map-id ts)

pub eq_of_sim : {H : Type 0} {k : Sort} {t u : Tree H k} → Sim (λ h. h) t u → t ≡ u
eq_of_sim {t = t} {u = u} p = sym (map-id t) ∙ p.eq ∙ map-id u

module _ (S : Sig) where
  -- a substitution unifies the pairs
  abbrev pub Unifies : (ℕ → T S) → List (Pair S) → Type 0
  Unifies θ [] = Unit {0}
  Unifies θ (p ∷ ps) = (sub θ p.0 ≡ sub θ p.1) × Unifies θ ps

  -- it is a most general one: every unifier is it, followed by some substitution
  pub record MostGeneral (σ : ℕ → T S) (ps : List (Pair S)) : Type 0 where
    pub unifies : Unifies σ ps
    pub general : (θ : ℕ → T S) → Unifies θ ps → (δ : ℕ → T S) × ((v : ℕ) → θ v ≡ sub δ (σ v))

  unifies_all : (θ : ℕ → T S) (ps : List (Pair S)) → Unifies θ ps → All S (λ h. h) θ ps
  unifies_all θ [] u = tt
  unifies_all θ (p ∷ ps) u = (sim_of_eq u.0, unifies_all θ ps u.1)

  all_unifies : (θ : ℕ → T S) (ps : List (Pair S)) → All S (λ h. h) θ ps → Unifies θ ps
  all_unifies θ [] u = tt
  all_unifies θ (p ∷ ps) u = (eq_of_sim u.0, all_unifies θ ps u.1)

  -- no variable was asked to be a number
  abbrev pub NoNumbers : {X : Type 0} → Run S X → Type 0
  NoNumbers x = (v : ℕ) → x.asked v ≡ none

  pub record Robinson (wrong : Bool) (res : ℕ → T S) (ps : List (Pair S)) : Type 0 where
    -- answered incompatible: there is no unifier at all
    pub none_left : wrong ≡ true → (θ : ℕ → T S) → ¬ Unifies θ ps
    -- if no pair was, what the variables resolve to is a most general unifier, and it is idempotent
    pub most_general : wrong ≡ false → MostGeneral res ps
    pub idempotent : (v w : ℕ) → In w (res v) → res w ≡ var w

  abbrev same_head : (f : S.Fam) (h k : S.Head) → h ≡ k → S.admits f h ≡ S.admits f k
  same_head f h k p = ap (S.admits f) p

  robinson_of : (x : Run S (State S)) → Inv S (λ h. h) same_head x → Premises S (λ h. h) same_head x → NoNumbers x → Robinson x.wrong x.state.res x.posed
  robinson_of x i c e = record {
    none_left = λ w θ u. i.bad c w θ (true_of θ) (unifies_all θ x.posed u);
    most_general = λ w. record {
      unifies = all_unifies ρ x.posed ((i.right c w ρ).1 (record { agree = λ v. sim_of_eq (sym (idem v)); kind = i.kinds (λ h. h) (λ t u p. p) ρ (true_of ρ) (λ v. sim_of_eq (sym (idem v))); all = tt })).1;
      general = λ θ u. (θ, λ v. eq_of_sim (((i.right c w θ).0 (true_of θ, unifies_all θ x.posed u)).agree v));
    };
    idempotent = i.fine.idem;
  }
    where
      ρ : ℕ → T S
      ρ = x.state.res

      idem : (v : ℕ) → sub ρ (ρ v) ≡ ρ v
      idem v = sub_fix ρ (ρ v) (λ w j. i.fine.idem v w j)

      true_of : (θ : ℕ → T S) → True S θ x.asked
      true_of θ v f p = clash (cc (e v, p))

  -- ROBINSON, by the strict notion of equal shape.
  pub robinson_strict : (os : List (Order S)) → Premises S (λ h. h) same_head (end S (λ h. h) same_head os) → NoNumbers (end S (λ h. h) same_head os)
      → Robinson (end S (λ h. h) same_head os).wrong (end S (λ h. h) same_head os).state.res (end S (λ h. h) same_head os).posed
  robinson_strict os = robinson_of (end S (λ h. h) same_head os) (run_inv S (λ h. h) same_head (fresh S (begin S)) (fresh_inv S (λ h. h) same_head) os)

  -- Pairs with no access marks, by the equality n that ignores them: the run is the one by equality proper.
  module _ (n : S.Head → S.Head) where
    -- each head is its own normal form
    abbrev pub Normal : {k : Sort} → Tree S.Head k → Type 0
    Normal (var v) = Unit {0}
    Normal (node h ts) = (n h ≡ h) × Normal ts
    Normal nil = Unit {0}
    Normal (t ▸ ts) = Normal t × Normal ts

    abbrev pub NormalPairs : List (Pair S) → Type 0
    NormalPairs [] = Unit {0}
    NormalPairs (p ∷ ps) = Normal p.0 × Normal p.1 × NormalPairs ps

    abbrev NormalState : State S → Type 0
    NormalState s = (v : ℕ) → Normal (s.res v)

    abbrev NormalStep : Step S → Type 0
    NormalStep x = NormalState x.state × NormalPairs x.todo

    abbrev NormalOut : Out (State S) → Type 0
    NormalOut (cancelled s) = NormalState s
    NormalOut (done s b) = NormalState s

    normal_sub : (θ : ℕ → T S) → ((v : ℕ) → Normal (θ v)) → {k : Sort} (t : Tree S.Head k) → Normal t → Normal (sub θ t)
    unfolding sub
    normal_sub θ h (var v) p = h v
    normal_sub θ h (node k ts) p = (p.0, normal_sub θ h ts p.1)
    normal_sub θ h nil p = p
    normal_sub θ h (t ▸ ts) p = (normal_sub θ h t p.0, normal_sub θ h ts p.1)

    module _ (s : State S) (ns : NormalState s) (ps : List (Pair S)) (nps : NormalPairs ps) where
      split_same : (h k : S.Head) (ts us : Forest S.Head) → n h ≡ h → n k ≡ k → (a b : Bool) (d : Dec (n h ≡ n k)) (d' : Dec (h ≡ k))
          → split S n s h k ts us ps a b d ≡ split S (λ h. h) s h k ts us ps a b d'
      unfolding split
      split_same h k ts us p q true b d d' = refl
      split_same h k ts us p q false true d d' = refl
      split_same h k ts us p q false false (yes d) (yes d') = refl
      split_same h k ts us p q false false (yes d) (no d') = absurd (d' (sym p ∙ d ∙ q))
      split_same h k ts us p q false false (no d) (yes d') = absurd (d (p ∙ d' ∙ sym q))
      split_same h k ts us p q false false (no d) (no d') = refl

      unequal_same : (l r : T S) → Normal l → Normal r → unequal S n s l r ps ≡ unequal S (λ h. h) s l r ps
      unfolding unequal
      unequal_same (var v) r p q = refl
      unequal_same (node h ts) (var v) p q = refl
      unequal_same (node h ts) (node k us) p q = split_same h k ts us p.0 q.0 (S.soft h || S.soft k) (S.rigid h) (S.head? (n h) (n k)) (S.head? h k)

      compare_same : (l r : T S) → Normal l → Normal r → (d : Dec (l ≡ r)) → compare S n s l r ps d ≡ compare S (λ h. h) s l r ps d
      unfolding compare
      compare_same l r p q (yes d) = refl
      compare_same l r p q (no d) = unequal_same l r p q

      zip_normal : (ts us : Forest S.Head) (qs rs : List (Pair S)) → Normal ts → Normal us → NormalPairs qs → zip_on S ts us qs ≡ some rs → NormalPairs rs
      unfolding zip_on
      zip_normal nil nil qs rs p q a e = let f : qs ≡ rs = cc in rw f at a
      zip_normal nil (u ▸ us) qs rs p q a e = clash (cc)
      zip_normal (t ▸ ts) nil qs rs p q a e = clash (cc)
      zip_normal (t ▸ ts) (u ▸ us) qs rs p q a e = zip_normal ts us ((t, u) ∷ qs) rs p.1 q.1 (p.0, q.0, a) e

      split_normal : (h k : S.Head) (ts us : Forest S.Head) → Normal ts → Normal us → (a b : Bool) (d : Dec (h ≡ k)) → NormalStep (split S (λ h. h) s h k ts us ps a b d)
      unfolding split split₁
      split_normal h k ts us p q true b d = (ns, nps)
      split_normal h k ts us p q false true d = (ns, nps)
      split_normal h k ts us p q false false (yes d) = go (zip_on S ts us ps) refl
        where
          go : (o : Option (List (Pair S))) → zip_on S ts us ps ≡ o → NormalStep (split₁ S s ps o)
          go none e = (ns, nps)
          go (some rs) e = (ns, zip_normal ts us ps rs p q nps e)
      split_normal h k ts us p q false false (no d) = (ns, nps)

      assign_normal : (v : ℕ) (t : T S) → Normal t → NormalStep (assign S s v t ps)
      unfolding assign assign₀ assign₁
      assign_normal v t p = soft (any_soft S t)
        where
          at : (x : ℕ) → Dec (x ≡ v) → Normal (put var v t x)
          at x (yes e) = rw (ap (put var v t) e ∙ put_same var v t) p
          at x (no e) = rw (put_other var v t x e) tt

          go : (o : Option (ℕ → Option S.Fam)) (d : Dec (In v t)) → NormalStep (assign₁ S s v t ps o d)
          go none d = (ns, nps)
          go (some f) (yes i) = (ns, nps)
          go (some f) (no i) = ((λ u. normal_sub (put var v t) (λ x. at x (ℕ_discrete x v)) (s.res u) (ns u)), nps)

          soft : (b : Bool) → NormalStep (assign₀ S s v t ps b)
          soft true = (ns, nps)
          soft false = go (admit S s.fam (s.fam v) t) (in? v t)

      unequal_normal : (l r : T S) → Normal l → Normal r → NormalStep (unequal S (λ h. h) s l r ps)
      unfolding unequal
      unequal_normal (var v) r p q = assign_normal v r q
      unequal_normal (node h ts) (var v) p q = assign_normal v (node h ts) p
      unequal_normal (node h ts) (node k us) p q = split_normal h k ts us p.1 q.1 (S.soft h || S.soft k) (S.rigid h) (S.head? h k)

      compare_normal : (l r : T S) → Normal l → Normal r → (d : Dec (l ≡ r)) → NormalStep (compare S (λ h. h) s l r ps d)
      unfolding compare
      compare_normal l r p q (yes d) = (ns, nps)
      compare_normal l r p q (no d) = unequal_normal l r p q

      step_same : (l r : T S) → Normal l → Normal r → step S n s l r ps ≡ step S (λ h. h) s l r ps
      unfolding step
      step_same l r p q = compare_same (sub s.res l) (sub s.res r) (normal_sub s.res ns l p) (normal_sub s.res ns r q) (same? S.head? (sub s.res l) (sub s.res r))

      step_normal : (l r : T S) → Normal l → Normal r → NormalStep (step S (λ h. h) s l r ps)
      unfolding step
      step_normal l r p q = compare_normal (sub s.res l) (sub s.res r) (normal_sub s.res ns l p) (normal_sub s.res ns r q) (same? S.head? (sub s.res l) (sub s.res r))

    constrain_same : (k : ℕ) (s : State S) (ok : Bool) (ps : List (Pair S)) → NormalState s → NormalPairs ps
        → (constrain S n k s ok ps ≡ constrain S (λ h. h) k s ok ps) × NormalOut (constrain S (λ h. h) k s ok ps)
    unfolding constrain
    constrain_same zero s ok [] ns nps = (refl, ns)
    constrain_same zero s ok (p ∷ ps) ns nps = (refl, ns)
    constrain_same (suc k) s ok [] ns nps = (refl, ns)
    constrain_same (suc k) s ok (p ∷ ps) ns nps =
        let x = step S (λ h. h) s p.0 p.1 ps in
        let e = step_same s ns ps nps.2 p.0 p.1 nps.0 nps.1 in
        let a = step_normal s ns ps nps.2 p.0 p.1 nps.0 nps.1 in
        let r = constrain_same k x.state (ok && x.good) x.todo a.0 a.1 in
        (ap (λ (y : Step S). constrain S n k y.state (ok && y.good) y.todo) e ∙ r.0, r.1)

    settle_normal : (x : Run S (State S)) (l r : T S) (o : Out (State S)) → NormalOut o → NormalState (settle S x l r o).state
    unfolding settle
    settle_normal x l r (cancelled s) p = p
    settle_normal x l r (done s b) p = p

    -- the pairs posed so far are among those posed in the end
    settle_posed : (x : Run S (State S)) (l r : T S) (o : Out (State S)) → NormalPairs (settle S x l r o).posed → NormalPairs ((l, r) ∷ x.posed)
    unfolding settle
    settle_posed x l r (cancelled s) p = p
    settle_posed x l r (done s b) p = p

    pose_posed : (x : Run S (State S)) (k : ℕ) (l r : T S) (a : Dec (Issued x.count l)) (b : Dec (Issued x.count r))
        → NormalPairs (posing S (asks S) (poses S n) x k l r a b).posed → NormalPairs x.posed
    unfolding posing
    pose_posed x k l r (yes a) (yes b) p = (settle_posed x l r (poses S n k x.state l r) p).2
    pose_posed x k l r (yes a) (no b) p = p
    pose_posed x k l r (no a) d p = p

    run_posed : (os : List (Order S)) (x : Run S (State S)) → NormalPairs (run S (asks S) (poses S n) x os).posed → NormalPairs x.posed
    unfolding run serve
    run_posed [] x p = p
    run_posed (issue ∷ os) x p = run_posed os (serve S (asks S) (poses S n) x issue) p
    run_posed (ask f ∷ os) x p = run_posed os (serve S (asks S) (poses S n) x (ask f)) p
    run_posed (pose k l r ∷ os) x p =
        pose_posed x k l r (issued? x.count l) (issued? x.count r) (run_posed os (serve S (asks S) (poses S n) x (pose k l r)) p)
    run_posed (other ∷ os) x p = run_posed os x p

    pose_same : (x : Run S (State S)) → NormalState x.state → (k : ℕ) (l r : T S) (a : Dec (Issued x.count l)) (b : Dec (Issued x.count r))
        → NormalPairs (posing S (asks S) (poses S n) x k l r a b).posed
        → (posing S (asks S) (poses S n) x k l r a b ≡ posing S (asks S) (poses S (λ h. h)) x k l r a b) × NormalState (posing S (asks S) (poses S (λ h. h)) x k l r a b).state
    unfolding posing
    pose_same x ns k l r (yes a) (yes b) p =
        let q = settle_posed x l r (poses S n k x.state l r) p in
        let e = constrain_same k x.state true ((l, r) ∷ []) ns (q.0, q.1, tt) in
        (ap (settle S x l r) e.0, settle_normal x l r (constrain S (λ h. h) k x.state true ((l, r) ∷ [])) e.1)
    pose_same x ns k l r (yes a) (no b) p = (refl, ns)
    pose_same x ns k l r (no a) d p = (refl, ns)

    run_same : (os : List (Order S)) (x : Run S (State S)) → NormalState x.state → NormalPairs (run S (asks S) (poses S n) x os).posed
        → run S (asks S) (poses S n) x os ≡ run S (asks S) (poses S (λ h. h)) x os
    unfolding run serve
    run_same [] x ns p = refl
    run_same (issue ∷ os) x ns p = run_same os (serve S (asks S) (poses S (λ h. h)) x issue) ns p
    run_same (ask f ∷ os) x ns p = run_same os (serve S (asks S) (poses S (λ h. h)) x (ask f)) ns p
    run_same (pose k l r ∷ os) x ns p =
        let y = serve S (asks S) (poses S n) x (pose k l r) in
        let e = pose_same x ns k l r (issued? x.count l) (issued? x.count r) (run_posed os y p) in
        ap (λ (y : Run S (State S)). run S (asks S) (poses S n) y os) e.0
        ∙ run_same os (serve S (asks S) (poses S (λ h. h)) x (pose k l r)) e.1 (subst (λ (y : Run S (State S)). NormalPairs (run S (asks S) (poses S n) y os).posed) e.0 p)
    run_same (other ∷ os) x ns p = run_same os x ns p

    -- ROBINSON, by the notion of equal shape that ignores access, on pairs with no access marks.
    pub robinson_loose : (respects : (f : S.Fam) (h k : S.Head) → n h ≡ n k → S.admits f h ≡ S.admits f k) (os : List (Order S))
        → NormalPairs (end S n respects os).posed → Premises S n respects (end S n respects os) → NoNumbers (end S n respects os)
        → Robinson (end S n respects os).wrong (end S n respects os).state.res (end S n respects os).posed
    robinson_loose respects os p =
        let e : end S n respects os ≡ end S (λ h. h) same_head os = run_same os (fresh S (begin S)) (λ v. tt) p in
        rw e (robinson_strict os)

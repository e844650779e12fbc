-- Demand 3, proved: by an invariant of the session, its families and the pairs posed so far.
use mathlib.Core.Path.{◌≡◌, refl, ap, sym, ◌∙◌}
use mathlib.Core.Logic.{◌⊎◌, inl, inr, ◌↔◌, ◌≢◌}
use mathlib.Core.Bool.{Bool, true, false, not, ◌||◌}
use mathlib.Core.Option.{Option, none, some}
use mathlib.Core.List.{List, [], ◌∷◌}
use Prim.Native.Nat.{ℕ, suc, ◌≤◌, ◌<◌}
use native.Mathlib.Decide.{ℕ_discrete, dec_lt}
use native.Mathlib.Omega.{arith}
use Rattle.unify.specs.Term.{var, node, nil, sub, width, In, Closed, clash, sub-sub, sub_fix, sub_closed}
use Rattle.unify.specs.Term.{Sim, sim_of_eq, sim_refl}
use Rattle.unify.specs.Solver.{Sig, T, State, Out, cancelled, done, put, put_same, put_other, constrain, poses, asks, begin}
use Rattle.unify.specs.Meaning.{Member, True, Kept, Fine, Plain, PlainPairs, PlainState, plain_sub, plain_formed, KeptState, Tidy, Agree, All, Sols}
use Rattle.unify.proofs.Sound.{put_cases, After, AllPlain, Finer, constrain_right}
use Rattle.unify.specs.Orders.{Issued, issued?, Order, issue, ask, pose, other, Run, fresh, settle, posing, serve, run, Assigns, Demand3}

module _ (S : Sig) where
  -- A session in order has a solution: each unbound variable gets a term with no child, of its family if it has one.
  fill : Option S.Fam → S.Head
  fill none = S.some_head
  fill (some f) = S.pick f

  ground : State S → ℕ → T S
  ground s w = node (fill (s.fam w)) nil

  pub solution : State S → ℕ → T S
  solution s v = sub (ground s) (s.res v)

  pub solution_closed : (s : State S) (v : ℕ) → Closed (solution s v)
  unfolding solution ground
  solution_closed s v = sub_closed (ground s) (λ u w i. i) (s.res v)

  fill_plain : (o : Option S.Fam) → Plain S (node (fill o) nil)
  unfolding fill width
  fill_plain none = let p = S.some_plain in (p.0, p.1, p.2, tt)
  fill_plain (some f) = let p = S.pick_plain f in (p.0, p.1, p.2, tt)

  pub solution_plain : (s : State S) → PlainState S s → (v : ℕ) → Plain S (solution s v)
  unfolding solution ground
  solution_plain s p v = plain_sub S (ground s) (λ w. fill_plain (s.fam w)) (s.res v) (p v)

  module _ (N : ℕ) (s : State S) (fine : Fine S N s) where
    pub solution_agrees : (n : S.Head → S.Head) → Agree S n (solution s) s.res
    unfolding solution
    solution_agrees n v =
        let p : sub (solution s) (s.res v) ≡ sub (ground s) (sub s.res (s.res v)) = sym (sub-sub (ground s) s.res (s.res v)) in
        let q : sub s.res (s.res v) ≡ s.res v = sub_fix s.res (s.res v) (λ w i. fine.idem v w i) in
        sim_of_eq (sym (p ∙ ap (sub (ground s)) q))

    pub solution_true : KeptState S s → True S (solution s) s.fam
    unfolding solution ground fill sub
    solution_true kept v f p = go (kept v f p)
      where
        go : Kept S f s.fam (s.res v) → Member S f (sub (ground s) (s.res v))
        go (inl m) = (m.0, ap (sub (ground s)) m.1, m.2)
        go (inr m) =
            let w = m.0 in
            let g = m.1 in
            (S.pick g, ap (sub (ground s)) m.2 ∙ ap (λ o. node (fill o) nil) m.3, m.4 (S.pick g) (S.pick_ok g))

  -- one family more
  pub true_put : (θ : ℕ → T S) (fam : ℕ → Option S.Fam) (v : ℕ) (f : S.Fam) → fam v ≡ none
      → True S θ (put fam v (some f)) ↔ (True S θ fam × Member S f (θ v))
  true_put θ fam v f e = (
    λ k. (λ u g p. k u g (put_other fam v (some f) u (λ q. clash (cc (ap fam q, e, p))) ∙ p), k v f (put_same fam v (some f))),
    λ k u g p. go k u g (put_cases fam v f u g p),
  )
    where
      go : True S θ fam × Member S f (θ v) → (u : ℕ) (g : S.Fam) → ((u ≡ v) × (f ≡ g)) ⊎ ((u ≢ v) × (fam u ≡ some g)) → Member S g (θ u)
      go k u g (inl p) = let m = k.1 in (m.0, ap θ p.0 ∙ m.1, rw p.1 at m.2)
      go k u g (inr p) = k.0 u g p.1

  module _ (n : S.Head → S.Head) (respects : (f : S.Fam) (h k : S.Head) → n h ≡ n k → S.admits f h ≡ S.admits f k) where
    -- the premises on the list so far: no pair was cancelled, and the pairs are free of recovery terms and of projections
    abbrev pub Premises : {X : Type 0} → Run S X → Type 0
    Premises x = (x.cut ≡ false) × PlainPairs S x.posed

    pub record Inv (x : Run S (State S)) : Type 0 where
      pub fine : Fine S x.count x.state
      pub new : (v : ℕ) → x.count ≤ v → x.asked v ≡ none
      pub kinds : (m : S.Head → S.Head) → Finer S n respects m → (θ : ℕ → T S) → True S θ x.asked → Agree S m θ x.state.res → True S θ x.state.fam
      pub plain : Premises x → Tidy S x.state
      pub right : Premises x → x.wrong ≡ false → (θ : ℕ → T S) → (True S θ x.asked × All S n θ x.posed) ↔ Sols S n x.state [] θ
      pub bad : Premises x → x.wrong ≡ true → (θ : ℕ → T S) → True S θ x.asked → ¬ All S n θ x.posed

    pub fresh_inv : Inv (fresh S (begin S))
    unfolding sub
    fresh_inv = record {
      fine = record {
        idem = λ v w i. refl;
        fresh = λ v l. (refl, refl);
        within = λ v w l i. omega arith;
      };
      new = λ v l. refl;
      kinds = λ m f θ k a v g p. clash (cc);
      plain = λ c. ((λ v. tt), (λ v f p. clash (cc)));
      right = λ c w θ. (λ k. record { agree = λ v. sim_refl; kind = k.0; all = tt }, λ k. ((λ v f p. clash (cc)), tt));
      bad = λ c w. clash (cc);
    }

    pub fine_issue : (N : ℕ) (s : State S) → Fine S N s → Fine S (suc N) s
    fine_issue N s f = record {
      idem = f.idem;
      fresh = λ v l. f.fresh v (omega arith);
      within = λ v w l i. within v w l i (ℕ_discrete v N);
    }
      where
        within : (v w : ℕ) → v < suc N → In w (s.res v) → Dec (v ≡ N) → w < suc N
        within v w l i (yes e) =
            let q : s.res v ≡ var v = (f.fresh v (omega arith)).0 in
            let j : w ≡ v = rw q at i in
            omega arith
        within v w l i (no e) = let a = f.within v w (omega arith) i in omega arith

    pub fine_ask : (N : ℕ) (s : State S) (f : S.Fam) → Fine S N s → Fine S (suc N) (asks S s N f)
    fine_ask N s f k = record {
      idem = k.idem;
      fresh = λ v l. ((k.fresh v (omega arith)).0, put_other s.fam N (some f) v (λ e. omega arith) ∙ (k.fresh v (omega arith)).1);
      within = (fine_issue N s k).within;
    }

    pub tidy_ask : (N : ℕ) (s : State S) (f : S.Fam) → Fine S N s → Tidy S s → Tidy S (asks S s N f)
    tidy_ask N s f k d = (d.0, λ u g p. kept u g p (put_cases s.fam N f u g p))
      where
        kept : (u : ℕ) (g : S.Fam) → put s.fam N (some f) u ≡ some g → ((u ≡ N) × (f ≡ g)) ⊎ ((u ≢ N) × (s.fam u ≡ some g)) → Kept S g (put s.fam N (some f)) (s.res u)
        kept u g p (inl q) = inr (u, g, (k.fresh u (let e = q.0 in omega arith)).0, p, λ h a. a)
        kept u g p (inr q) = elim (d.1 u g q.1) [
          | inl m ↦ inl m
          | inr m ↦ inr (m.0, m.1, m.2, put_other s.fam N (some f) m.0 (λ e. clash (cc (ap s.fam e, (k.fresh N (omega arith)).1, m.3))) ∙ m.3, m.4)
        ]

    or_left : (a b : Bool) → (a || not b) ≡ false → (a ≡ false) × (b ≡ true)
    or_left true b p = clash (cc)
    or_left false true p = (refl, refl)
    or_left false false p = clash (cc)

    or_right : (a b : Bool) → (a || not b) ≡ true → (a ≡ true) ⊎ ((a ≡ false) × (b ≡ false))
    or_right true b p = inl refl
    or_right false true p = clash (cc)
    or_right false false p = inr (refl, refl)

    settle_inv : (x : Run S (State S)) (l r : T S) → Inv x → (o : Out (State S)) → After S n respects x.count x.state true ((l, r) ∷ []) o → Inv (settle S x l r o)
    unfolding settle
    settle_inv x l r i (cancelled s) a = record {
      fine = a.0;
      new = i.new;
      kinds = λ m f θ k. a.1.kinds m f θ (i.kinds m f θ k);
      plain = λ c. clash (cc c.0);
      right = λ c. clash (cc c.0);
      bad = λ c. clash (cc c.0);
    }
    settle_inv x l r i (done s b) a = record {
      fine = a.0;
      new = i.new;
      kinds = λ m f θ k. a.1.kinds m f θ (i.kinds m f θ k);
      plain = λ c. a.2 (all_plain c);
      right = λ c w θ.
          let e = or_left x.wrong b w in
          let y = i.right (earlier c) e.0 θ in
          let z = (a.3 (all_plain c) e.1).1 θ in (
            λ k. z.0 (before (y.0 (k.0, k.1.1)) k.1.0),
            λ k. let q = z.1 k in let j = y.1 (without q) in (j.0, (q.all.0, j.1)),
          );
      bad = λ c w θ k p. bad c θ k p (or_right x.wrong b w);
    }
      where
        earlier : Premises (settle S x l r (done s b)) → Premises x
        earlier c = (c.0, c.1.2)

        all_plain : Premises (settle S x l r (done s b)) → AllPlain S n respects x.state ((l, r) ∷ [])
        all_plain c = (i.plain (earlier c), (c.1.0, c.1.1, tt))

        before : {θ : ℕ → T S} → Sols S n x.state [] θ → Sim n (sub θ l) (sub θ r) → Sols S n x.state ((l, r) ∷ []) θ
        before k p = record { agree = k.agree; kind = k.kind; all = (p, tt) }

        without : {θ : ℕ → T S} → Sols S n x.state ((l, r) ∷ []) θ → Sols S n x.state [] θ
        without k = record { agree = k.agree; kind = k.kind; all = tt }

        bad : Premises (settle S x l r (done s b)) → (θ : ℕ → T S) → True S θ x.asked → All S n θ ((l, r) ∷ x.posed) → (x.wrong ≡ true) ⊎ ((x.wrong ≡ false) × (b ≡ false)) → ⊥
        bad c θ k p (inl w) = i.bad (earlier c) w θ k p.1
        bad c θ k p (inr w) = a.4 (all_plain c) w.1 refl θ (before ((i.right (earlier c) w.0 θ).0 (k, p.1)) p.0)

    pub serve_inv : (x : Run S (State S)) → Inv x → (o : Order S) → Inv (serve S (asks S) (poses S n) x o)
    unfolding serve posing
    serve_inv x i issue = record {
      fine = fine_issue x.count x.state i.fine;
      new = λ v l. i.new v (omega arith);
      kinds = i.kinds;
      plain = i.plain;
      right = i.right;
      bad = i.bad;
    }
    serve_inv x i (ask f) = record {
      fine = fine_ask N s f i.fine;
      new = λ v l. put_other x.asked N (some f) v (λ e. omega arith) ∙ i.new v (omega arith);
      kinds = λ m g θ k a. let j = (more θ).0 k in (true_put θ s.fam N f none₂).1 (i.kinds m g θ j.0 a, j.1);
      plain = λ c. tidy_ask N s f i.fine (i.plain c);
      right = λ c w θ. (
        λ k. let j = (more θ).0 k.0 in let q = (i.right c w θ).0 (j.0, k.1) in
            record { agree = q.agree; kind = (true_put θ s.fam N f none₂).1 (q.kind, j.1); all = tt },
        λ k. let j = (true_put θ s.fam N f none₂).0 k.kind in
            let q = (i.right c w θ).1 (record { agree = k.agree; kind = j.0; all = tt }) in
            ((more θ).1 (q.0, j.1), q.1),
      );
      bad = λ c w θ k. i.bad c w θ ((more θ).0 k).0;
    }
      where
        N : ℕ
        N = x.count

        s : State S
        s = x.state

        none₁ : x.asked N ≡ none
        none₁ = i.new x.count (omega arith)

        none₂ : s.fam N ≡ none
        none₂ = (i.fine.fresh x.count (omega arith)).1

        more : (θ : ℕ → T S) → True S θ (put x.asked N (some f)) ↔ (True S θ x.asked × Member S f (θ N))
        more θ = true_put θ x.asked N f none₁
    serve_inv x i (pose k l r) = go (issued? x.count l) (issued? x.count r)
      where
        go : (a : Dec (Issued x.count l)) (b : Dec (Issued x.count r)) → Inv (posing S (asks S) (poses S n) x k l r a b)
        go (yes a) (yes b) = settle_inv x l r i (constrain S n k x.state true ((l, r) ∷ []))
            (constrain_right S n respects k x.count x.state true ((l, r) ∷ []) i.fine (a, b, tt))
        go (yes a) (no b) = i
        go (no a) d = i
    serve_inv x i other = i

    pub run_inv : (x : Run S (State S)) → Inv x → (os : List (Order S)) → Inv (run S (asks S) (poses S n) x os)
    unfolding run
    run_inv x i [] = i
    run_inv x i (o ∷ os) = run_inv (serve S (asks S) (poses S n) x o) (serve_inv x i o) os

    same_norm : Finer S n respects n
    same_norm t u p = p

    -- a variable that is not issued resolves to itself, so that every assignment agrees there
    agree_all : (x : Run S (State S)) → Inv x → (θ : ℕ → T S) → ((v : ℕ) → v < x.count → Sim n (θ v) (sub θ (x.state.res v))) → Agree S n θ x.state.res
    unfolding sub
    agree_all x i θ h v = go (dec_lt v x.count)
      where
        go : Dec (v < x.count) → Sim n (θ v) (sub θ (x.state.res v))
        go (yes l) = h v l
        go (no l) = rw (i.fine.fresh v (omega arith)).0 sim_refl

    pub demand_of : (x : Run S (State S)) → Inv x → Premises x → Demand3 S n x x.state.res
    demand_of x i c = record {
      incompatible = (
        λ w θ closed k. i.bad c w θ k,
        λ none. wrong none x.wrong refl,
      );
      assignments = λ w θ closed. (
        λ k. (k.0, λ v l. ((i.right c w θ).0 k).agree v),
        λ k. let a = agree_all x i θ k.1 in (i.right c w θ).1 (record { agree = a; kind = i.kinds n same_norm θ k.0 a; all = tt }),
      );
      themselves = λ v w l j. (i.fine.within v w l j, i.fine.idem v w j);
    }
      where
        wrong : ((θ : ℕ → T S) → Assigns S x.count θ → True S θ x.asked → ¬ All S n θ x.posed) → (b : Bool) → x.wrong ≡ b → x.wrong ≡ true
        wrong h true e = e
        wrong h false e =
            let θ = solution x.state in
            let k = (i.right c e θ).1 (record {
              agree = solution_agrees x.count x.state i.fine n;
              kind = solution_true x.count x.state i.fine (i.plain c).1;
              all = tt;
            }) in
            absurd (h θ (λ v l. (solution_closed x.state v, plain_formed S (θ v) (solution_plain x.state (i.plain c).0 v))) k.0 k.1)

    -- where the list leads
    abbrev pub end : List (Order S) → Run S (State S)
    end os = run S (asks S) (poses S n) (fresh S (begin S)) os

    -- DEMAND 3, for every list of orders of which no pair was cancelled and whose pairs are plain.
    pub demand_3 : (os : List (Order S)) → Premises (end os) → Demand3 S n (end os) (end os).state.res
    demand_3 os = demand_of (end os) (run_inv (fresh S (begin S)) fresh_inv os)

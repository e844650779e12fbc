-- Sessions whose pairs are posed by one of several equalities (`Mixes` of specs). A session of one equality is the session of `Session` by it; a mix
-- keeps one half of demand 3; each of its pairs is answered incompatible exactly if nothing that agrees with what was resolved before makes it
-- equal; and after every list the session is in order.
use mathlib.Core.Path.{◌≡◌, refl, ap, sym, ◌∙◌, subst}
use mathlib.Core.Logic.{◌⊎◌, inl, inr, ◌↔◌, ◌≢◌}
use mathlib.Core.Bool.{Bool, true, false, not, ◌||◌}
use mathlib.Core.Option.{Option, none, some}
use mathlib.Core.List.{List, [], ◌∷◌}
use Prim.Native.Nat.{ℕ, suc, ◌≤◌, ◌<◌}
use native.Mathlib.Decide.{dec_lt}
use native.Mathlib.Omega.{arith}
use Rattle.unify.specs.Term.{var, node, sub, clash}
use Rattle.unify.specs.Solver.{Sig, T, Pair, State, Out, cancelled, done, put, put_same, put_other, poses, asks, begin}
use Rattle.unify.specs.Meaning.{Member, Under, True, Fine, Plain, PlainPairs}
use Rattle.unify.specs.Orders.{Issued, issued?, settle, Demand3}
use Rattle.unify.specs.Table.{Table, answer, taken, table_poses, table_asks}
use Rattle.unify.specs.Session.{Command, variable, number, hole, defer, pair, resolving, numbers, nevers, revision, refused, Reply, verdict, with_table}
use Rattle.unify.specs.Session.{deferring, R, move, serve_variable, serve_hole, serve_number, serve_defer, lift, serve_pair, obey, obey_all, Allowed, AllAllowed, reply, if_issued, verdict_of}
use Rattle.unify.specs.Mixes.{AgreesExactly, By, PairBy, OnlyBy, commands, EachBy, Unequal, Exact, Mixing, also, noted, obey_by, reply_by, mix, mix_begin, AllAllowedBy, MixPremises, Half}
use Rattle.unify.proofs.Sound.{put_cases, After, Grows, constrain_right}
use Rattle.unify.proofs.Demand.{Premises, fine_issue, fine_ask, tidy_ask, true_put}
use Rattle.unify.proofs.Lazy.{rep_fresh, resolve_right}
use Rattle.unify.proofs.Refine.{Stands, Counted, Ends, settles_follows, counted_more}
use Rattle.unify.proofs.Whole.{SaneRun, numbers_mono, nevers_mono, whole_demand_3}
use Rattle.unify.proofs.InOrder.{InOrderRun, in_order_begin, obey_in_order, sane_run, run_in_order}
use Rattle.unify.proofs.RobinsonPair.{PlainPair, RobinsonDecides, decides_in}
use Rattle.unify.proofs.Mixed.{Exactly, Mixable, Posed, Answers, mixed_pose}

module _ (S : Sig) (default : S.Fam → Option S.Fam → S.Head) (never : S.Head)
    (I : Type 0) (norm : I → S.Head → S.Head)
    (respects : (i : I) (f : S.Fam) (h k : S.Head) → norm i h ≡ norm i k → S.admits f h ≡ S.admits f k) where
  abbrev M : Type 0
  M = Mixing S default never I norm

  abbrev start : M
  start = mix_begin S default never I norm

  -- where a list leads
  abbrev led : M → List (By S I) → M
  led x cs = mix S default never I norm x cs

  -- ---- the invariant, over what counts of a run

  pub record Core (N : ℕ) (z : Table S) (asked : ℕ → Option S.Fam) (posed : List (Pair S)) (by : List I) (wrong cut : Bool) : Type 0 where
    pub means : State S
    pub stands : Stands S z means
    pub counted : Counted S N z
    pub fine : Fine S N means
    pub new : (v : ℕ) → N ≤ v → asked v ≡ none
    -- what was asked of a variable is asked of it still, or less is left
    pub narrowed : (v : ℕ) (f : S.Fam) → asked v ≡ some f → (g : S.Fam) × (means.fam v ≡ some g) × Under S g f
    pub mixable : cut ≡ false → PlainPairs S posed → Mixable S N asked means
    pub each : cut ≡ false → PlainPairs S posed → wrong ≡ false → (θ : ℕ → T S) → True S θ asked → Exactly S θ means → EachBy S I norm θ by posed

  abbrev pub CoreOf : M → Type 0
  CoreOf x = Core x.run.count x.run.state.table x.run.asked x.run.posed x.by x.run.wrong x.run.cut

  same_head : (f : S.Fam) (h k : S.Head) → h ≡ k → S.admits f h ≡ S.admits f k
  same_head f h k p = ap (S.admits f) p

  pub core_begin : CoreOf start
  unfolding taken
  core_begin = record {
    means = begin S;
    stands = record { rep = rep_fresh; fams = refl; revs = refl };
    counted = record { far = λ v l. refl; number = refl };
    fine = fined;
    new = λ v l. refl;
    narrowed = λ v f p. clash (cc);
    mixable = λ c p. record { fine = fined; tidy = ((λ v. tt), (λ v f p. clash (cc))); kinds = λ θ k e v f p. clash (cc); asks = λ θ k v f p. clash (cc) };
    each = λ c p w θ k e. tt;
  }
    where
      fined : Fine S 0 (begin S)
      fined = record { idem = λ v w i. refl; fresh = λ v l. (refl, refl); within = λ v w l i. absurd (omega arith) }

  module _ (N : ℕ) (z : Table S) (asked : ℕ → Option S.Fam) (posed : List (Pair S)) (by : List I) (wrong cut : Bool) (x : Core N z asked posed by wrong cut) where
    core_issue : Core (suc N) z asked posed by wrong cut
    core_issue = record {
      means = x.means;
      stands = x.stands;
      counted = counted_more S (λ h. h) same_head N z x.counted;
      fine = fine_issue S (λ h. h) same_head N x.means x.fine;
      new = λ v l. x.new v (omega arith);
      narrowed = x.narrowed;
      mixable = λ c p. let m = x.mixable c p in record { fine = fine_issue S (λ h. h) same_head N x.means m.fine; tidy = m.tidy; kinds = m.kinds; asks = m.asks };
      each = x.each;
    }

    core_ask : (f : S.Fam) → Core (suc N) (table_asks S z N f) (put asked N (some f)) posed by wrong cut
    core_ask f = record {
      means = asks S s N f;
      stands = record { rep = x.stands.rep; fams = ap (λ (g : ℕ → Option S.Fam). put g N (some f)) x.stands.fams; revs = x.stands.revs };
      counted = record { far = λ v l. x.counted.far v (omega arith); number = (counted_more S (λ h. h) same_head N z x.counted).number };
      fine = fined;
      new = λ v l. put_other asked N (some f) v (λ e. omega arith) ∙ x.new v (omega arith);
      narrowed = λ v g p. narrowed v g (put_cases asked N f v g p);
      mixable = λ c p. let m = x.mixable c p in record {
        fine = fined;
        tidy = tidy_ask S (λ h. h) same_head N s f x.fine m.tidy;
        kinds = λ θ k e. let j = (more₁ θ).0 k in (more₂ θ).1 (m.kinds θ j.0 e, j.1);
        asks = λ θ k. let j = (more₂ θ).0 k in (more₁ θ).1 (m.asks θ j.0, j.1);
      };
      each = λ c p w θ k e. x.each c p w θ ((more₁ θ).0 k).0 e;
    }
      where
        s : State S
        s = x.means

        fined : Fine S (suc N) (asks S s N f)
        fined = fine_ask S (λ h. h) same_head N x.means f x.fine

        more₁ : (θ : ℕ → T S) → True S θ (put asked N (some f)) ↔ (True S θ asked × Member S f (θ N))
        more₁ θ = true_put S θ asked N f (x.new N (omega arith))

        more₂ : (θ : ℕ → T S) → True S θ (put s.fam N (some f)) ↔ (True S θ s.fam × Member S f (θ N))
        more₂ θ = true_put S θ s.fam N f (x.fine.fresh N (omega arith)).1

        narrowed : (v : ℕ) (g : S.Fam) → ((v ≡ N) × (f ≡ g)) ⊎ ((v ≢ N) × (asked v ≡ some g)) → (g' : S.Fam) × (put s.fam N (some f) v ≡ some g') × Under S g' g
        narrowed v g (inl q) = (f, ap (put s.fam N (some f)) q.0 ∙ put_same s.fam N (some f), subst (λ (y : S.Fam). Under S f y) q.1 (λ h a. a))
        narrowed v g (inr q) = let y = x.narrowed v g q.1 in (y.0, put_other s.fam N (some f) v q.0 ∙ y.1, y.2)

    -- a pair
    abbrev CoreOut : I → T S → T S → Out (Table S) → Type 0
    CoreOut i l r (cancelled z') = Core N z' asked ((l, r) ∷ posed) (i ∷ by) wrong true
    CoreOut i l r (done z' b) = Core N z' asked ((l, r) ∷ posed) (i ∷ by) (wrong || not b) cut

    or_both : (a b : Bool) → (a || not b) ≡ false → (a ≡ false) × (b ≡ true)
    or_both true b p = clash (cc)
    or_both false true p = (refl, refl)
    or_both false false p = clash (cc)

    core_pose : (i : I) (k : ℕ) (l r : T S) → Issued N l → Issued N r → CoreOut i l r (table_poses S (norm i) k z l r)
    core_pose i k l r a b =
        go (table_poses S (norm i) k z l r) (poses S (norm i) k x.means l r)
        (settles_follows S (norm i) (respects i) k N z x.means true true ((l, r) ∷ []) ((l, r) ∷ []) x.stands x.counted refl x.fine (a, b, tt) (refl, refl, tt))
        (constrain_right S (norm i) (respects i) k N x.means true ((l, r) ∷ []) x.fine (a, b, tt))
        (λ m pl pr. mixed_pose S (norm i) (respects i) k N asked x.means l r m a b pl pr)
      where
        kept : (s' : State S) → Grows S (norm i) (respects i) x.means s' → (v : ℕ) (f : S.Fam) → asked v ≡ some f → (g : S.Fam) × (s'.fam v ≡ some g) × Under S g f
        kept s' g v f p = let y = x.narrowed v f p in let e = g.steady v y.0 y.1 in (e.0, e.1, λ h a. y.2 h (e.2 h a))

        go : (o : Out (Table S)) (o' : Out (State S)) → Ends S (norm i) (respects i) N o o' → After S (norm i) (respects i) N x.means true ((l, r) ∷ []) o'
            → (Mixable S N asked x.means → Plain S l → Plain S r → Answers S (norm i) (respects i) N asked x.means l r o') → CoreOut i l r o
        go (cancelled z') (cancelled s') e f h = record {
          means = s';
          stands = e.0;
          counted = e.1;
          fine = e.2;
          new = x.new;
          narrowed = kept s' f.1;
          mixable = λ c p. clash (cc);
          each = λ c p. clash (cc);
        }
        go (cancelled z') (done s' c) e f h = absurd e
        go (done z' d) (cancelled s') e f h = absurd e
        go (done z' d) (done s' c) e f h = record {
          means = s';
          stands = e.0;
          counted = e.1;
          fine = e.2;
          new = x.new;
          narrowed = kept s' f.1;
          mixable = λ q p. (said q p).mixable;
          each = λ q p w θ t y. let u = or_both wrong d w in ((said q p).equal (sym e.3 ∙ u.1) θ t y, x.each q p.2 u.0 θ t ((said q p).back θ y));
        }
          where
            said : cut ≡ false → PlainPairs S ((l, r) ∷ posed) → Posed S (norm i) (respects i) N asked x.means l r s' c
            said q p = h (x.mixable q p.2) p.0 p.1

    pub exactly : (θ : ℕ → T S) → AgreesExactly S N θ z → Exactly S θ x.means
    unfolding sub
    exactly θ a v = go (dec_lt v N)
      where
        go : Dec (v < N) → θ v ≡ sub θ (x.means.res v)
        go (yes l) = a v l ∙ ap (sub θ) (resolve_right z.bound z.rev x.means.res x.stands.rep (var v))
        go (no l) = ap (sub θ) (sym (x.fine.fresh v (omega arith)).0)

    pub inexactly : (θ : ℕ → T S) → Exactly S θ x.means → AgreesExactly S N θ z
    unfolding sub
    inexactly θ e v l = e v ∙ ap (sub θ) (sym (resolve_right z.bound z.rev x.means.res x.stands.rep (var v)))

    pub pair_exact : cut ≡ false → PlainPairs S posed → (i : I) (k : ℕ) (l r : T S) → Issued N l → Issued N r → Plain S l → Plain S r
        → Exact S I norm N z asked i l r (table_poses S (norm i) k z l r)
    pair_exact q p i k l r a b pl pr =
        go (table_poses S (norm i) k z l r) (poses S (norm i) k x.means l r)
        (settles_follows S (norm i) (respects i) k N z x.means true true ((l, r) ∷ []) ((l, r) ∷ []) x.stands x.counted refl x.fine (a, b, tt) (refl, refl, tt))
        (mixed_pose S (norm i) (respects i) k N asked x.means l r (x.mixable q p) a b pl pr)
      where
        go : (o : Out (Table S)) (o' : Out (State S)) → Ends S (norm i) (respects i) N o o' → Answers S (norm i) (respects i) N asked x.means l r o' → Exact S I norm N z asked i l r o
        go (cancelled z') o' e h = tt
        go (done z' d) (cancelled s') e h = absurd e
        go (done z' d) (done s' c) e h = (
          λ w θ y t u. h.incompatible.0 (sym e.3 ∙ w) θ y t (exactly θ u),
          λ f. e.3 ∙ h.incompatible.1 (λ θ y t u. f θ y t (inexactly θ u)),
        )

  -- ---- every order keeps it

  pub serve_core : (x : M) → CoreOf x → (i : I) (c : Command S) → Allowed S default never (norm i) x.run c → CoreOf (obey_by S default never I norm x (i, c))
  unfolding obey serve_variable serve_number serve_hole serve_defer serve_pair deferring lift settle noted also
  serve_core x y i (variable s k) p = go (x.run.state.sites s k)
    where
      go : (o : Option ℕ) → CoreOf (record { run = serve_variable S default never x.run s k o; by = x.by })
      go none = core_issue x.run.count x.run.state.table x.run.asked x.run.posed x.by x.run.wrong x.run.cut y
      go (some v) = y
  serve_core x y i (number s f) p =
      subst (λ (o : Option ℕ). CoreOf (record { run = serve_number S default never x.run s f o; by = x.by })) (sym p)
      (core_ask x.run.count x.run.state.table x.run.asked x.run.posed x.by x.run.wrong x.run.cut y f)
  serve_core x y i (hole s) p = go (x.run.state.holes s)
    where
      go : (o : Option ℕ) → CoreOf (record { run = serve_hole S default never x.run s o; by = x.by })
      go none = core_issue x.run.count x.run.state.table x.run.asked x.run.posed x.by x.run.wrong x.run.cut y
      go (some v) = y
  serve_core x y i (defer t) p = go (issued? x.run.count t)
    where
      go₂ : (u : T S) → CoreOf (record { run = move S default never x.run (deferring S default never x.run.state u); by = x.by })
      go₂ (var v) = y
      go₂ (node h ts) = y

      go : (d : Dec (Issued x.run.count t)) → CoreOf (record { run = serve_defer S default never x.run t d; by = x.by })
      go (yes a) = go₂ (answer S x.run.state.table t)
      go (no a) = y
  serve_core x y i (pair k l r) p = go (issued? x.run.count l) (issued? x.run.count r)
    where
      ends : (o : Out (Table S)) → CoreOut x.run.count x.run.state.table x.run.asked x.run.posed x.by x.run.wrong x.run.cut y i l r o
          → CoreOf (record { run = settle S x.run l r (lift S default never x.run.state o); by = i ∷ x.by })
      ends (cancelled z) c = c
      ends (done z b) c = c

      go : (a : Dec (Issued x.run.count l)) (b : Dec (Issued x.run.count r))
          → CoreOf (record { run = serve_pair S default never (norm i) x.run k l r a b; by = also S default never I norm i a b x.by })
      go (yes a) (yes b) =
          ends (table_poses S (norm i) k x.run.state.table l r)
          (core_pose x.run.count x.run.state.table x.run.asked x.run.posed x.by x.run.wrong x.run.cut y i k l r a b)
      go (yes a) (no b) = y
      go (no a) d = y
  serve_core x y i (resolving t) p = y
  serve_core x y i numbers p =
      subst (λ (z : Table S). CoreOf (record { run = move S default never x.run (with_table S default never x.run.state z); by = x.by }))
      (sym ((numbers_mono S default never (norm i) (respects i) x.run.count 0 x.run.state.table).1 p)) y
  serve_core x y i nevers p =
      subst (λ (z : Table S). CoreOf (record { run = move S default never x.run (with_table S default never x.run.state z); by = x.by }))
      (sym ((nevers_mono S default never (norm i) (respects i) x.run.state.diverging x.run.count 0 x.run.state.table).1 p)) y
  serve_core x y i revision p = y
  serve_core x y i refused p = y

  pub mix_core : (x : M) → CoreOf x → (cs : List (By S I)) → AllAllowedBy S default never I norm x cs → CoreOf (led x cs)
  unfolding mix
  mix_core x y [] p = y
  mix_core x y (c ∷ cs) p = mix_core (obey_by S default never I norm x c) (serve_core x y c.0 c.1 p.0) cs p.1

  pub mixes : (cs : List (By S I)) → AllAllowedBy S default never I norm start cs → CoreOf (led start cs)
  mixes cs p = mix_core start core_begin cs p

  -- THE HALF THAT A MIX KEEPS, from any start that has the invariant
  pub core_half : (x : M) → CoreOf x → (cs : List (By S I)) → AllAllowedBy S default never I norm x cs → MixPremises S default never I norm (led x cs)
      → Half S default never I norm (led x cs)
  core_half x c cs a p w θ t e =
      let z = led x cs in
      let y = mix_core x c cs a in
      y.each p.0 p.1 w θ t (exactly z.run.count z.run.state.table z.run.asked z.run.posed z.by z.run.wrong z.run.cut y θ e)

  -- from a fresh session
  pub mixed_half : (cs : List (By S I)) → AllAllowedBy S default never I norm start cs → MixPremises S default never I norm (led start cs)
      → Half S default never I norm (led start cs)
  mixed_half cs = core_half start core_begin cs

  -- AND OF EACH PAIR, posed by i after the list cs
  pub mixed_pair : (cs : List (By S I)) → AllAllowedBy S default never I norm start cs → MixPremises S default never I norm (led start cs) → (i : I) (k : ℕ) (l r : T S)
      → Issued (led start cs).run.count l → Issued (led start cs).run.count r → Plain S l → Plain S r
      → Exact S I norm (led start cs).run.count (led start cs).run.state.table (led start cs).run.asked i l r (table_poses S (norm i) k (led start cs).run.state.table l r)
  mixed_pair cs a p i k l r il ir pl pr =
      let x = led start cs in
      pair_exact x.run.count x.run.state.table x.run.asked x.run.posed x.by x.run.wrong x.run.cut (mixes cs a) p.0 p.1 i k l r il ir pl pr

  -- the same of its answer, where it is not cancelled (2)
  pub mixed_answer : (cs : List (By S I)) → AllAllowedBy S default never I norm start cs → MixPremises S default never I norm (led start cs) → (i : I) (k : ℕ) (l r : T S)
      → Issued (led start cs).run.count l → Issued (led start cs).run.count r → Plain S l → Plain S r
      → ¬ (reply_by S default never I norm (led start cs) (i, pair k l r) ≡ verdict 2)
      → (reply_by S default never I norm (led start cs) (i, pair k l r) ≡ verdict 0)
      ↔ Unequal S I norm (led start cs).run.count (led start cs).run.state.table (led start cs).run.asked i l r
  unfolding reply if_issued verdict_of
  mixed_answer cs a p i k l r il ir pl pr =
      go (issued? x.run.count l) (issued? x.run.count r) (table_poses S (norm i) k x.run.state.table l r) (mixed_pair cs a p i k l r il ir pl pr)
    where
      x : M
      x = led start cs

      says : Dec (Issued x.run.count l) → Dec (Issued x.run.count r) → Out (Table S) → Reply S
      says d e o = if_issued S default never (norm i) d (if_issued S default never (norm i) e (verdict (verdict_of S default never (norm i) o)))

      go : (d : Dec (Issued x.run.count l)) (e : Dec (Issued x.run.count r)) (o : Out (Table S))
          → Exact S I norm x.run.count x.run.state.table x.run.asked i l r o → ¬ (says d e o ≡ verdict 2)
          → (says d e o ≡ verdict 0) ↔ Unequal S I norm x.run.count x.run.state.table x.run.asked i l r
      go (yes c) (yes d) (cancelled z) e f = absurd (f refl)
      go (yes c) (yes d) (done z true) e f = (λ q. clash (cc), λ q. clash (cc (e.1 q)))
      go (yes c) (yes d) (done z false) e f = (λ q. e.0 refl, λ q. refl)
      go (yes c) (no d) o e f = absurd (d ir)
      go (no c) d o e f = absurd (c il)

  -- ---- after every list, premises or not

  pub mix_all_in_order : (x : M) → InOrderRun S default never x.run → (cs : List (By S I)) → InOrderRun S default never (led x cs).run
  unfolding mix
  mix_all_in_order x y [] = y
  mix_all_in_order x y (c ∷ cs) =
      mix_all_in_order (obey_by S default never I norm x c) (obey_in_order S default never (norm c.0) (respects c.0) x.run y c.1) cs

  -- THE SESSION IS IN ORDER: the table stands for a substitution, resolving ends, and the revision is the number of bound variables.
  pub mix_in_order : (cs : List (By S I)) → InOrderRun S default never (led start cs).run
  mix_in_order cs = mix_all_in_order start (in_order_begin S default never) cs

  -- by any of the equalities
  pub swapped : (i j : I) (x : R S default never) → SaneRun S default never (norm i) (respects i) x → SaneRun S default never (norm j) (respects j) x
  swapped i j x y = sane_run S default never (norm j) (respects j) x (run_in_order S default never (norm i) (respects i) x y)

  pub mix_sane : (i : I) (cs : List (By S I)) → SaneRun S default never (norm i) (respects i) (led start cs).run
  mix_sane i cs = sane_run S default never (norm i) (respects i) (led start cs).run (mix_in_order cs)

  -- ROBINSON 1965 DECIDES each plain pair, by its own equality, after every list of a mix.
  pub robinson_mixed : (cs : List (By S I)) (i : I) (t u : T S) → PlainPair S (norm i) (respects i) default never (led start cs).run t u
      → RobinsonDecides S (norm i) (respects i) default never (led start cs).run t u
  robinson_mixed cs i t u = decides_in S (norm i) (respects i) default never (led start cs).run (mix_sane i cs).sane t u

  -- ---- a session of one equality

  pub pure_order : (i j : I) (x : R S default never) (c : Command S) → PairBy S I i j c → obey S default never (norm j) x c ≡ obey S default never (norm i) x c
  unfolding obey
  pure_order i j x (variable s k) p = refl
  pure_order i j x (number s f) p = refl
  pure_order i j x (hole s) p = refl
  pure_order i j x (defer t) p = refl
  pure_order i j x (pair k l r) p = ap (λ (m : I). serve_pair S default never (norm m) x k l r (issued? x.count l) (issued? x.count r)) p
  pure_order i j x (resolving t) p = refl
  pure_order i j x numbers p = refl
  pure_order i j x nevers p = refl
  pure_order i j x revision p = refl
  pure_order i j x refused p = refl

  pub pure : (i : I) (x : M) (cs : List (By S I)) → OnlyBy S I i cs → (led x cs).run ≡ obey_all S default never (norm i) x.run (commands S I cs)
  unfolding mix obey_all commands
  pure i x [] p = refl
  pure i x (c ∷ cs) p =
      pure i (obey_by S default never I norm x c) cs p.1
      ∙ ap (λ (y : R S default never). obey_all S default never (norm i) y (commands S I cs)) (pure_order i c.0 x.run c.1 p.0)

  -- what is allowed names no equality
  allowed_by : (i j : I) (x : R S default never) (c : Command S) → Allowed S default never (norm j) x c → Allowed S default never (norm i) x c
  allowed_by i j x (variable s k) p = p
  allowed_by i j x (number s f) p = p
  allowed_by i j x (hole s) p = p
  allowed_by i j x (defer t) p = p
  allowed_by i j x (pair k l r) p = p
  allowed_by i j x (resolving t) p = p
  allowed_by i j x numbers p = p
  allowed_by i j x nevers p = p
  allowed_by i j x revision p = p
  allowed_by i j x refused p = p

  pub pure_allowed : (i : I) (x : M) (cs : List (By S I)) → OnlyBy S I i cs → AllAllowedBy S default never I norm x cs
      → AllAllowed S default never (norm i) x.run (commands S I cs)
  unfolding commands
  pure_allowed i x [] o a = tt
  pure_allowed i x (c ∷ cs) o a = (
    allowed_by i c.0 x.run c.1 a.0,
    subst (λ (y : R S default never). AllAllowed S default never (norm i) y (commands S I cs)) (pure_order i c.0 x.run c.1 o.0)
        (pure_allowed i (obey_by S default never I norm x c) cs o.1 a.1),
  )

  -- BOTH SENTENCES OF DEMAND 3, by the one equality
  pub pure_demand_3 : (i : I) (cs : List (By S I)) → OnlyBy S I i cs → AllAllowedBy S default never I norm start cs → MixPremises S default never I norm (led start cs)
      → Demand3 S (norm i) (led start cs).run (λ v. answer S (led start cs).run.state.table (var v))
  pure_demand_3 i cs o a =
      subst (λ (x : R S default never). Premises S (norm i) (respects i) x → Demand3 S (norm i) x (λ v. answer S x.state.table (var v))) (sym (pure i start cs o))
      (whole_demand_3 S default never (norm i) (respects i) (commands S I cs) (pure_allowed i start cs o a))

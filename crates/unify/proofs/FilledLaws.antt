-- Numeric defaults after a list whose pairs were all compatible leave what `Filled` of specs says. What is asked of the families: some are Good, a
-- meeting of two such is one, and the default of a Good one whose chain ends at a Good one below it takes a head that the end admits.
use mathlib.Core.Path.{◌≡◌, refl, ap, sym, ◌∙◌, subst}
use mathlib.Core.Logic.{◌⊎◌, inl, inr, ◌≢◌}
use mathlib.Core.Bool.{Bool, true, false, ◌&&◌, ◌||◌}
use mathlib.Core.Option.{Option, none, some}
use mathlib.Core.List.{List, [], ◌∷◌}
use Prim.Native.Nat.{ℕ, zero, suc, ◌+◌, ◌<◌}
use native.Mathlib.Decide.{ℕ_discrete, dec_lt}
use native.Mathlib.Omega.{arith}
use Rattle.unify.specs.Term.{var, node, nil, ◌▸◌, Forest, sub, In, in?, same?, clash, Sim, sim_of_eq}
use Rattle.unify.specs.Solver.{Sig, T, Pair, State, Out, cancelled, done, put, put_same, put_other, bind, admit, join, joined, allow, any_soft, zip_on}
use Rattle.unify.specs.Meaning.{Member, Under, True, Fine, Kept, Plain, PlainPairs, Tidy, plain_formed, Agree}
use Rattle.unify.proofs.Sound.{put_cases, Grows, Adm, adm_leaf, bind_fine, bind_tidy, bind_grows}
use Rattle.unify.proofs.Lazy.{rep_bind, resolve_right}
use Rattle.unify.specs.Orders.{Issued, issued?, settle}
use Rattle.unify.proofs.Demand.{solution, solution_closed, solution_plain, solution_agrees, solution_true}
use Rattle.unify.specs.Table.{Table, answer, top, taken_put, table_poses, tie₁, tie₀, tie, part₁, part, differ, match, turn, settles}
use Rattle.unify.proofs.Refine.{Stands, Counted, idem_sub, tops, reach}
use Rattle.unify.proofs.Robinson.{eq_of_sim}
use Rattle.unify.specs.Session.{Command, variable, number, hole, defer, pair, resolving, numbers, nevers, revision, refused, with_table}
use Rattle.unify.specs.Session.{fill, number_one, fill_numbers, deferring, move, serve_variable, serve_hole, serve_number, serve_defer, lift, serve_pair, obey, Allowed}
use Rattle.unify.proofs.Whole.{numbers_mono, nevers_mono}
use Rattle.unify.proofs.Mixed.{Exactly}
use Rattle.unify.specs.Mixes.{AgreesExactly, By, Mixing, also, noted, obey_by, mix, mix_begin, AllAllowedBy, MixPremises}
use Rattle.unify.specs.Filled.{AllGood, Filled, FilledBy}
use Rattle.unify.proofs.MixLaws.{Core, CoreOf, core_begin, serve_core}

module _ (S : Sig) (default : S.Fam → Option S.Fam → S.Head) (never : S.Head)
    (I : Type 0) (norm : I → S.Head → S.Head)
    (respects : (i : I) (f : S.Fam) (h k : S.Head) → norm i h ≡ norm i k → S.admits f h ≡ S.admits f k)
    (Good : S.Fam → Type 0)
    (good_meet : (f g e : S.Fam) → Good f → Good g → S.meet f g ≡ some e → Good e)
    (good_default : (f g : S.Fam) → Good f → Good g → Under S g f → (S.admits g (default f (some g)) ≡ true) × Plain S (node (default f (some g)) nil)) where
  -- ---- only Good families

  abbrev Goods : (ℕ → Option S.Fam) → Type 0
  Goods fam = AllGood S Good fam

  put_good : (fam : ℕ → Option S.Fam) (w : ℕ) (e : S.Fam) → Goods fam → Good e → Goods (put fam w (some e))
  put_good fam w e a g v f p = go (put_cases fam w e v f p)
    where
      go : ((v ≡ w) × (e ≡ f)) ⊎ ((v ≢ w) × (fam v ≡ some f)) → Good f
      go (inl q) = subst (λ (x : S.Fam). Good x) q.1 g
      go (inr q) = a v f q.1

  abbrev GoodOr : Option (ℕ → Option S.Fam) → Type 0
  GoodOr none = Unit {0}
  GoodOr (some fam) = Goods fam

  admit_good : (fam : ℕ → Option S.Fam) (v : ℕ) → Goods fam → (o : Option S.Fam) → fam v ≡ o → (t : T S) → GoodOr (admit S fam o t)
  unfolding admit join joined allow
  admit_good fam v a none p t = a
  admit_good fam v a (some f) p (var w) = go (fam w) refl
    where
      meets : (g : S.Fam) → Good g → (o : Option S.Fam) → S.meet f g ≡ o → GoodOr (joined S fam w o)
      meets g x none e = tt
      meets g x (some h) e = put_good fam w h a (good_meet f g h (a v f p) x e)

      go : (o : Option S.Fam) → fam w ≡ o → GoodOr (join S fam f w o)
      go none q = put_good fam w f a (a v f p)
      go (some g) q = meets g (a w g q) (S.meet f g) refl
  admit_good fam v a (some f) p (node h nil) = go (S.admits f h)
    where
      go : (b : Bool) → GoodOr (allow S fam b)
      go true = a
      go false = tt
  admit_good fam v a (some f) p (node h (t ▸ ts)) = tt

  module _ (z : Table S) (a : Goods z.fam) (ps : List (Pair S)) where
    tie_good : (v : ℕ) (t : T S) → Goods (tie S z v t ps).state.fam
    unfolding tie tie₀ tie₁
    tie_good v t = soft (any_soft S (answer S z t))
      where
        go : (o : Option (ℕ → Option S.Fam)) → GoodOr o → (d : Dec (In v (answer S z t))) → Goods (tie₁ S z v t (answer S z t) ps o d).state.fam
        go none g d = a
        go (some fam') g (yes i) = a
        go (some fam') g (no i) = g

        soft : (b : Bool) → Goods (tie₀ S z v t ps b).state.fam
        soft true = a
        soft false = go (admit S z.fam (z.fam v) t) (admit_good z.fam v a (z.fam v) refl t) (in? v (answer S z t))

    module _ (n : S.Head → S.Head) where
      part_good : (h k : S.Head) (ts us : Forest S.Head) (b c : Bool) (d : Dec (n h ≡ n k)) → Goods (part S n z h k ts us ps b c d).state.fam
      unfolding part part₁
      part_good h k ts us true c d = a
      part_good h k ts us false true d = a
      part_good h k ts us false false (yes e) = go (zip_on S ts us ps)
        where
          go : (o : Option (List (Pair S))) → Goods (part₁ S z ps o).state.fam
          go none = a
          go (some qs) = a
      part_good h k ts us false false (no e) = a

      turn_good : (l r : T S) → Goods (turn S n z l r ps).state.fam
      unfolding turn match differ
      turn_good l r = go (same? S.head? (answer S z l) (answer S z r)) (top S z l) (top S z r)
        where
          go : (d : Dec (answer S z l ≡ answer S z r)) (t u : T S) → Goods (match S n z t u (answer S z l) (answer S z r) ps d).state.fam
          go (yes e) t u = a
          go (no e) (var v) u = tie_good v u
          go (no e) (node h ts) (var v) = tie_good v (node h ts)
          go (no e) (node h ts) (node k us) = part_good h k ts us (S.soft h || S.soft k) (S.rigid h) (S.head? (n h) (n k))

  abbrev GoodOut : Out (Table S) → Type 0
  GoodOut (cancelled z) = Goods z.fam
  GoodOut (done z b) = Goods z.fam

  settles_good : (n : S.Head → S.Head) (k : ℕ) (z : Table S) (ok : Bool) (ps : List (Pair S)) → Goods z.fam → GoodOut (settles S n k z ok ps)
  unfolding settles
  settles_good n zero z ok [] a = a
  settles_good n zero z ok (p ∷ ps) a = a
  settles_good n (suc k) z ok [] a = a
  settles_good n (suc k) z ok (p ∷ ps) a =
      let x = turn S n z p.0 p.1 ps in
      settles_good n k x.state (ok && x.good) x.todo (turn_good z a ps n p.0 p.1)

  -- of a run: where all that was asked is Good, all that is left is
  abbrev M : Type 0
  M = Mixing S default never I norm

  abbrev pub GoodRun : M → Type 0
  GoodRun x = Goods x.run.asked → Goods x.run.state.table.fam

  serve_good : (x : M) → CoreOf S default never I norm respects x → GoodRun x → (i : I) (c : Command S) → Allowed S default never (norm i) x.run c
      → GoodRun (obey_by S default never I norm x (i, c))
  unfolding obey serve_variable serve_number serve_hole serve_defer serve_pair deferring lift settle noted
  serve_good x y g i (variable s k) p = go (x.run.state.sites s k)
    where
      go : (o : Option ℕ) → GoodRun (record { run = serve_variable S default never x.run s k o; by = x.by })
      go none = g
      go (some v) = g
  serve_good x y g i (number s f) p =
      subst (λ (o : Option ℕ). GoodRun (record { run = serve_number S default never x.run s f o; by = x.by })) (sym p) asking
    where
      N : ℕ
      N = x.run.count

      asking : Goods (put x.run.asked x.run.count (some f)) → Goods (put x.run.state.table.fam x.run.count (some f))
      asking a = put_good x.run.state.table.fam x.run.count f
          (g (λ v e q. a v e (put_other x.run.asked x.run.count (some f) v (λ d. clash (cc (ap x.run.asked d, y.new x.run.count (omega arith), q))) ∙ q)))
          (a x.run.count f (put_same x.run.asked x.run.count (some f)))
  serve_good x y g i (hole s) p = go (x.run.state.holes s)
    where
      go : (o : Option ℕ) → GoodRun (record { run = serve_hole S default never x.run s o; by = x.by })
      go none = g
      go (some v) = g
  serve_good x y g i (defer t) p = go (issued? x.run.count t)
    where
      go₂ : (u : T S) → GoodRun (record { run = move S default never x.run (deferring S default never x.run.state u); by = x.by })
      go₂ (var v) = g
      go₂ (node h ts) = g

      go : (d : Dec (Issued x.run.count t)) → GoodRun (record { run = serve_defer S default never x.run t d; by = x.by })
      go (yes a) = go₂ (answer S x.run.state.table t)
      go (no a) = g
  serve_good x y g i (pair k l r) p = go (issued? x.run.count l) (issued? x.run.count r)
    where
      ends : (is : List I) (o : Out (Table S)) → (Goods x.run.asked → GoodOut o) → GoodRun (record { run = settle S x.run l r (lift S default never x.run.state o); by = is })
      ends is (cancelled z) c = c
      ends is (done z b) c = c

      go : (a : Dec (Issued x.run.count l)) (b : Dec (Issued x.run.count r))
          → GoodRun (record { run = serve_pair S default never (norm i) x.run k l r a b; by = also S default never I norm i (issued? x.run.count l) (issued? x.run.count r) x.by })
      go (yes a) (yes b) = ends (also S default never I norm i (issued? x.run.count l) (issued? x.run.count r) x.by) (table_poses S (norm i) k x.run.state.table l r) (λ q. settles_good (norm i) k x.run.state.table true ((l, r) ∷ []) (g q))
      go (yes a) (no b) = g
      go (no a) d = g
  serve_good x y g i (resolving t) p = g
  serve_good x y g i numbers p =
      subst (λ (z : Table S). GoodRun (record { run = move S default never x.run (with_table S default never x.run.state z); by = x.by }))
      (sym ((numbers_mono S default never (norm i) (respects i) x.run.count 0 x.run.state.table).1 p)) g
  serve_good x y g i nevers p =
      subst (λ (z : Table S). GoodRun (record { run = move S default never x.run (with_table S default never x.run.state z); by = x.by }))
      (sym ((nevers_mono S default never (norm i) (respects i) x.run.state.diverging x.run.count 0 x.run.state.table).1 p)) g
  serve_good x y g i revision p = g
  serve_good x y g i refused p = g

  -- ---- the loop of the defaults

  abbrev Typed : State S → ℕ → Type 0
  Typed s v = (f : S.Fam) → s.fam v ≡ some f → Member S f (s.res v)

  same : (f : S.Fam) (h k : S.Head) → h ≡ k → S.admits f h ≡ S.admits f k
  same f h k p = ap (S.admits f) p

  -- the table z after the defaults of the variables below v, from a session s₀
  record Filling (N v : ℕ) (s₀ : State S) (z : Table S) : Type 0 where
    means : State S
    stands : Stands S z means
    counted : Counted S N z
    fine : Fine S N means
    tidy : Tidy S means
    fams : means.fam ≡ s₀.fam
    back : (m : S.Head → S.Head) (θ : ℕ → T S) → Agree S m θ means.res → Agree S m θ s₀.res
    typed : (u : ℕ) → u < v → Typed means u

  module _ (N v : ℕ) (s₀ : State S) (z : Table S) (good : Goods s₀.fam) (l : v < N) (x : Filling N v s₀ z) where
    abbrev s : State S
    s = x.means

    idem : (t : T S) → sub s.res (sub s.res t) ≡ sub s.res t
    idem = idem_sub S (λ h. h) same N x.means x.fine

    -- nothing happens to v
    rests : Typed s v → Filling N (suc v) s₀ z
    rests t = record {
      means = s;
      stands = x.stands;
      counted = x.counted;
      fine = x.fine;
      tidy = x.tidy;
      fams = x.fams;
      back = x.back;
      typed = λ u m. go u m (ℕ_discrete u v);
    }
      where
        go : (u : ℕ) → u < suc v → Dec (u ≡ v) → Typed s u
        go u m (yes e) = subst (λ (w : ℕ). Typed s w) (sym e) t
        go u m (no e) = x.typed u (omega arith)

    -- the end w of its chain takes the head h
    binds : (w : ℕ) (g : S.Fam) (h : S.Head) → w < N → z.bound w ≡ none → s.res v ≡ var w → s.fam w ≡ some g → S.admits g h ≡ true → Plain S (node h nil)
        → Filling N (suc v) s₀ (record { bound = put z.bound w (some (node h nil)); fam = z.fam; rev = suc z.rev })
    unfolding sub
    binds w g h m e q p a pl = record {
      means = s';
      stands = record {
        rep = rep_bind z.bound z.rev s.res x.stands.rep w (node h nil) e (λ i. i);
        fams = x.stands.fams;
        revs = ap suc x.stands.revs;
      };
      counted = record {
        far = λ u k. put_other z.bound w (some (node h nil)) u (λ q. omega arith) ∙ x.counted.far u k;
        number = taken_put N z.bound w (node h nil) m e ∙ ap suc x.counted.number;
      };
      fine = bind_fine S (λ h. h) same N s x.fine w (node h nil) s.fam free m (λ u i. absurd i) (λ u i. absurd i) (λ i. i) (λ u f p. inl p);
      tidy = tidy';
      fams = x.fams;
      back = λ m θ k. x.back m θ (grows.back m θ k);
      typed = λ u k. go u k (ℕ_discrete u v);
    }
      where
        free : s.res w ≡ var w
        free = x.stands.rep.unbound w e

        s' : State S
        s' = bind S x.means w (node h nil) x.means.fam

        adm : Adm S (λ h. h) same s.fam w (node h nil) s.fam
        adm = adm_leaf S (λ h. h) same s.fam w g h p a

        tidy' : Tidy S s'
        tidy' = bind_tidy S (λ h. h) same N s x.fine w (node h nil) s.fam free m (λ u i. absurd i) (λ u i. absurd i) (λ i. i) adm x.tidy pl

        grows : Grows S (λ h. h) same s s'
        grows = bind_grows S (λ h. h) same N s x.fine w (node h nil) s.fam free m (λ u i. absurd i) (λ u i. absurd i) (λ i. i) adm

        now : s'.res v ≡ node h nil
        now = ap (sub (put var w (node h nil))) q ∙ put_same var w (node h nil)

        here : (f : S.Fam) → Kept S f s.fam (s'.res v) → Member S f (s'.res v)
        here f (inl k) = k
        here f (inr k) = clash (cc (now, k.2))

        go : (u : ℕ) → u < suc v → Dec (u ≡ v) → Typed s' u
        go u k (yes d) = subst (λ (y : ℕ). Typed s' y) (sym d) (λ f b. here f (tidy'.1 v f b))
        go u k (no d) = λ f b. let y = x.typed u (omega arith) f b in (y.0, ap (sub (put var w (node h nil))) y.1, y.2)

    node_typed : (k : S.Head) (ts : Forest S.Head) → s.res v ≡ node k ts → Typed s v
    node_typed k ts e f p = go (x.tidy.1 v f p)
      where
        go : Kept S f s.fam (s.res v) → Member S f (s.res v)
        go (inl m) = m
        go (inr m) = clash (cc (e, m.2))

    one_more : Filling N (suc v) s₀ (number_one S default never z v (z.fam v))
    unfolding number_one fill sub
    one_more = go (z.fam v) refl
      where
        fam_at : (u : ℕ) → z.fam u ≡ s.fam u
        fam_at u = ap (λ (g : ℕ → Option S.Fam). g u) x.stands.fams

        good_at : (u : ℕ) (f : S.Fam) → s.fam u ≡ some f → Good f
        good_at u f p = good u f (sym (ap (λ (g : ℕ → Option S.Fam). g u) x.fams) ∙ p)

        ends : (f : S.Fam) → s.fam v ≡ some f → (t : T S) → sub s.res t ≡ s.res v → ((w : ℕ) → t ≡ var w → (w < N) × (z.bound w ≡ none))
            → Filling N (suc v) s₀ (fill S default never z (λ w. default f (z.fam w)) t)
        ends f p (node k ts) e r = rests (node_typed k (sub s.res ts) (sym e))
        ends f p (var w) e r = kept (x.tidy.1 v f p)
          where
            at : s.res v ≡ var w
            at = sym e ∙ x.stands.rep.unbound w (r w refl).1

            kept : Kept S f s.fam (s.res v) → Filling N (suc v) s₀ (fill S default never z (λ w. default f (z.fam w)) (var w))
            kept (inl m) = clash (cc (at, m.1))
            kept (inr m) =
                let same_end : m.0 ≡ w = cc (at, m.2) in
                let q : s.fam w ≡ some m.1 = ap s.fam (sym same_end) ∙ m.3 in
                let d = good_default f m.1 (good_at v f p) (good_at w m.1 q) m.4 in
                let o : default f (z.fam w) ≡ default f (some m.1) = ap (default f) (fam_at w ∙ q) in
                subst (λ (h : S.Head). Filling N (suc v) s₀ (record { bound = put z.bound w (some (node h nil)); fam = z.fam; rev = suc z.rev })) (sym o)
                (binds w m.1 (default f (some m.1)) (r w refl).0 (r w refl).1 at q d.0 d.1)

        go : (o : Option S.Fam) → z.fam v ≡ o → Filling N (suc v) s₀ (number_one S default never z v o)
        go none p = rests (λ f q. clash (cc (fam_at v, p, q)))
        go (some f) p =
            ends f (sym (fam_at v) ∙ p) (top S z (var v)) (tops S z s x.stands idem [] [] tt (var v))
            (reach S (λ h. h) same N z s x.stands x.fine (var v) (var v) refl (λ w e. omega arith))

  all_filled : (N m v : ℕ) (s₀ : State S) (z : Table S) → Goods s₀.fam → v + m ≡ N → Filling N v s₀ z → Filling N N s₀ (fill_numbers S default never m v z)
  unfolding fill_numbers
  all_filled N zero v s₀ z g l x = subst (λ (w : ℕ). Filling N w s₀ z) (omega arith) x
  all_filled N (suc m) v s₀ z g l x = all_filled N m (suc v) s₀ (number_one S default never z v (z.fam v)) g (omega arith) (one_more N v s₀ z g (omega arith) x)

  -- ---- the theorem

  filled_of : (N : ℕ) (z : Table S) (asked : ℕ → Option S.Fam) (posed : List (Pair S)) (by : List I) (wrong cut : Bool)
      → Core S default never I norm respects N z asked posed by wrong cut → cut ≡ false → PlainPairs S posed → wrong ≡ false → Goods z.fam
      → Filled S I norm N asked posed by z (fill_numbers S default never N 0 z)
  unfolding sub
  filled_of N z asked posed by wrong cut c nocut plain right good = record {
    left = (
      θ₁,
      (λ v l. (solution_closed S s v, plain_formed S (θ₁ v) (solution_plain S s x.tidy.0 v))),
      (c.mixable nocut plain).asks θ₁ (subst (λ (fam : ℕ → Option S.Fam). True S θ₁ fam) x.fams (solution_true S N s x.fine x.tidy.1)),
      (λ v l. eq_of_sim (solution_agrees S N s x.fine (λ h. h) v) ∙ ap (sub θ₁) (sym (resolved v))),
    );
    satisfies = λ θ t a. c.each nocut plain right θ t (λ v. eq_of_sim (x.back (λ h. h) θ (λ u. sim_of_eq (exactly θ a u)) v));
    agrees = λ m θ a v l. subst (λ (t : T S). Sim m (θ v) (sub θ t)) (sym (before v)) (x.back m θ (nearly m θ a) v);
    typed = λ v f p. typed v f p (dec_lt v N);
  }
    where
      goods : Goods c.means.fam
      goods v f p = good v f (ap (λ (g : ℕ → Option S.Fam). g v) c.stands.fams ∙ p)

      x : Filling N N c.means (fill_numbers S default never N 0 z)
      x = all_filled N N 0 c.means z goods (omega arith) (record {
        means = c.means;
        stands = c.stands;
        counted = c.counted;
        fine = c.fine;
        tidy = (c.mixable nocut plain).tidy;
        fams = refl;
        back = λ m θ e. e;
        typed = λ u m. absurd (omega arith);
      })

      s : State S
      s = x.means

      θ₁ : ℕ → T S
      θ₁ = solution S x.means

      resolved : (v : ℕ) → answer S (fill_numbers S default never N 0 z) (var v) ≡ x.means.res v
      resolved v = resolve_right (fill_numbers S default never N 0 z).bound (fill_numbers S default never N 0 z).rev x.means.res x.stands.rep (var v)

      before : (v : ℕ) → answer S z (var v) ≡ c.means.res v
      before v = resolve_right z.bound z.rev c.means.res c.stands.rep (var v)

      nearly : (m : S.Head → S.Head) (θ : ℕ → T S) → ((v : ℕ) → v < N → Sim m (θ v) (sub θ (answer S (fill_numbers S default never N 0 z) (var v)))) → Agree S m θ x.means.res
      nearly m θ a v = go (dec_lt v N)
        where
          go : Dec (v < N) → Sim m (θ v) (sub θ (x.means.res v))
          go (yes l) = subst (λ (t : T S). Sim m (θ v) (sub θ t)) (resolved v) (a v l)
          go (no l) = sim_of_eq (ap (sub θ) (sym (x.fine.fresh v (omega arith)).0))

      exactly : (θ : ℕ → T S) → AgreesExactly S N θ (fill_numbers S default never N 0 z) → Exactly S θ x.means
      exactly θ a v = go (dec_lt v N)
        where
          go : Dec (v < N) → θ v ≡ sub θ (x.means.res v)
          go (yes l) = a v l ∙ ap (sub θ) (resolved v)
          go (no l) = ap (sub θ) (sym (x.fine.fresh v (omega arith)).0)

      typed : (v : ℕ) (f : S.Fam) → asked v ≡ some f → Dec (v < N) → Member S f (answer S (fill_numbers S default never N 0 z) (var v))
      typed v f p (no l) = clash (cc (c.new v (omega arith), p))
      typed v f p (yes l) =
          let y = c.narrowed v f p in
          let m = x.typed v l y.0 (ap (λ (g : ℕ → Option S.Fam). g v) x.fams ∙ y.1) in
          (m.0, resolved v ∙ m.1, y.2 m.0 m.2)

  mix_good : (x : M) → CoreOf S default never I norm respects x → GoodRun x → (cs : List (By S I)) → AllAllowedBy S default never I norm x cs
      → CoreOf S default never I norm respects (mix S default never I norm x cs) × GoodRun (mix S default never I norm x cs)
  unfolding mix
  mix_good x y g [] a = (y, g)
  mix_good x y g (c ∷ cs) a =
      mix_good (obey_by S default never I norm x c) (serve_core S default never I norm respects x y c.0 c.1 a.0) (serve_good x y g c.0 c.1 a.0) cs a.1

  -- DEFAULTS AFTER COMPATIBLE PAIRS: for every list of orders under demand 3's premises, all of whose requests are Good, and whose pairs were all
  -- compatible. From any start that has the invariant; from a fresh session.
  pub core_defaults : (y : M) → CoreOf S default never I norm respects y → GoodRun y → (cs : List (By S I)) → AllAllowedBy S default never I norm y cs
      → (let x = mix S default never I norm y cs in
      MixPremises S default never I norm x → Goods x.run.asked → x.run.wrong ≡ false
      → FilledBy S default never I norm x)
  core_defaults y c h cs a p g w =
      let x = mix S default never I norm y cs in
      let r = mix_good y c h cs a in
      filled_of x.run.count x.run.state.table x.run.asked x.run.posed x.by x.run.wrong x.run.cut r.0 p.0 p.1 w (r.1 g)

  pub defaults_leave : (cs : List (By S I)) → AllAllowedBy S default never I norm (mix_begin S default never I norm) cs
      → (let x = mix S default never I norm (mix_begin S default never I norm) cs in
      MixPremises S default never I norm x → Goods x.run.asked → x.run.wrong ≡ false
      → FilledBy S default never I norm x)
  defaults_leave = core_defaults (mix_begin S default never I norm) (core_begin S default never I norm respects) (λ q v f e. clash (cc))

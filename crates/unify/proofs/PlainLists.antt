-- Lists of orders all of whose pairs are posed plain (no recovery term, no projection, no access mark), whatever their answers, and with whatever
-- number requests and defaults between: a term without those resolves to one without them. And where no number was requested no variable has a
-- request. So `RobinsonPair` applies to a plain pair after such a list by looking at the posed terms alone.
use mathlib.Core.Path.{◌≡◌, refl, ap, sym, ◌∙◌, subst}
use mathlib.Core.Logic.{◌⊎◌, inl, inr, ◌≢◌}
use mathlib.Core.Bool.{Bool, true, false, ◌&&◌, ◌||◌}
use mathlib.Core.Option.{Option, none, some}
use mathlib.Core.List.{List, [], ◌∷◌}
use Prim.Native.Nat.{ℕ, zero, suc}
use Rattle.unify.specs.Term.{Sort, Tree, var, node, nil, ◌▸◌, Forest, In, in?, same?, clash}
use Rattle.unify.specs.Solver.{Sig, T, Pair, Out, cancelled, done, put, put_same, admit, any_soft, zip_on}
use Rattle.unify.proofs.Sound.{put_cases}
use Rattle.unify.specs.Expansion.{expand, resolve}
use Rattle.unify.specs.Orders.{Issued, issued?, fresh, settle}
use Rattle.unify.specs.Table.{Table, answer, top, walk, Turn, tie₁, tie₀, tie, part₁, part, differ, match, turn, settles, table_poses}
use Rattle.unify.specs.Session.{Command, variable, number, hole, defer, pair, resolving, numbers, nevers, revision, refused, session_begin}
use Rattle.unify.specs.Session.{fill, number_one, never_one, fill_numbers, fill_nevers, deferring, R, move, serve_variable, serve_hole, serve_number, serve_defer, lift, serve_pair, obey, obey_all, sheet}
use Rattle.unify.proofs.RobinsonPair.{Simple, simple_sub, RobinsonDecides, robinson_each}

module _ (S : Sig) (n : S.Head → S.Head) where
  abbrev pub SimplePairs : List (Pair S) → Type 0
  SimplePairs [] = Unit {0}
  SimplePairs (p ∷ ps) = Simple S n p.0 × Simple S n p.1 × SimplePairs ps

  -- ---- bindings

  abbrev SimpleBound : (ℕ → Option (T S)) → Type 0
  SimpleBound b = (v : ℕ) (t : T S) → b v ≡ some t → Simple S n t

  resolve_simple : (f : ℕ) (b : ℕ → Option (T S)) → SimpleBound b → {k : Sort} (t : Tree S.Head k) → Simple S n t → Simple S n (resolve f b t)
  unfolding resolve expand
  resolve_simple zero b h t p = p
  resolve_simple (suc f) b h t p = simple_sub S n (λ v. expand v (b v) (λ u. resolve f b u)) (λ v. go (λ u q. resolve_simple f b h u q) v (b v) refl) t p
    where
      go : ((u : T S) → Simple S n u → Simple S n (resolve f b u)) → (v : ℕ) (o : Option (T S)) → b v ≡ o → Simple S n (expand v o (λ u. resolve f b u))
      go more v none e = tt
      go more v (some u) e = more u (h v u e)

  walk_simple : (f : ℕ) (b : ℕ → Option (T S)) → SimpleBound b → (t : T S) → Simple S n t → Simple S n (walk f b t)
  unfolding walk expand
  walk_simple zero b h t p = p
  walk_simple (suc f) b h (node k ts) p = p
  walk_simple (suc f) b h (var v) p = go (λ u q. walk_simple f b h u q) (b v) refl
    where
      go : ((u : T S) → Simple S n u → Simple S n (walk f b u)) → (o : Option (T S)) → b v ≡ o → Simple S n (expand v o (λ u. walk f b u))
      go more none e = tt
      go more (some u) e = more u (h v u e)

  put_simple : (b : ℕ → Option (T S)) (v : ℕ) (t : T S) → SimpleBound b → Simple S n t → SimpleBound (put b v (some t))
  put_simple b v t h p w u e = go (put_cases b v t w u e)
    where
      go : ((w ≡ v) × (t ≡ u)) ⊎ ((w ≢ v) × (b w ≡ some u)) → Simple S n u
      go (inl q) = subst (λ (x : T S). Simple S n x) q.1 p
      go (inr q) = h w u q.1

  -- ---- one turn, and the loop

  abbrev Kept : Turn S → Type 0
  Kept x = SimpleBound x.state.bound × SimplePairs x.todo

  abbrev Asked : (ℕ → Option S.Fam) → Type 0
  Asked fam = (v : ℕ) → fam v ≡ none

  abbrev Zips : Option (List (Pair S)) → Type 0
  Zips none = Unit {0}
  Zips (some qs) = SimplePairs qs

  zips : (ts us : Forest S.Head) (ps : List (Pair S)) → Simple S n ts → Simple S n us → SimplePairs ps → Zips (zip_on S ts us ps)
  unfolding zip_on
  zips nil nil ps p q r = r
  zips nil (u ▸ us) ps p q r = tt
  zips (t ▸ ts) nil ps p q r = tt
  zips (t ▸ ts) (u ▸ us) ps p q r = zips ts us ((t, u) ∷ ps) p.1 q.1 (p.0, q.0, r)

  module _ (z : Table S) (ps : List (Pair S)) where
    tie_kept : (v : ℕ) (t : T S) → Simple S n t → SimpleBound z.bound → SimplePairs ps → Kept (tie S z v t ps)
    unfolding tie tie₀ tie₁
    tie_kept v t p h r = soft (any_soft S (answer S z t))
      where
        go : (o : Option (ℕ → Option S.Fam)) (d : Dec (In v (answer S z t))) → Kept (tie₁ S z v t (answer S z t) ps o d)
        go none d = (h, r)
        go (some g) (yes i) = (h, r)
        go (some g) (no i) = (put_simple z.bound v t h p, r)

        soft : (b : Bool) → Kept (tie₀ S z v t ps b)
        soft true = (h, r)
        soft false = go (admit S z.fam (z.fam v) t) (in? v (answer S z t))

    tie_asked : (v : ℕ) (t : T S) → Asked z.fam → Asked (tie S z v t ps).state.fam
    unfolding tie tie₀ tie₁ admit
    tie_asked v t a = soft (any_soft S (answer S z t))
      where
        go : (d : Dec (In v (answer S z t))) → Asked (tie₁ S z v t (answer S z t) ps (some z.fam) d).state.fam
        go (yes i) = a
        go (no i) = a

        soft : (b : Bool) → Asked (tie₀ S z v t ps b).state.fam
        soft true = a
        soft false =
            subst (λ (o : Option S.Fam). Asked (tie₁ S z v t (answer S z t) ps (admit S z.fam o t) (in? v (answer S z t))).state.fam) (sym (a v)) (go (in? v (answer S z t)))

    part_kept : (m : S.Head → S.Head) (h k : S.Head) (ts us : Forest S.Head) (b c : Bool) (d : Dec (m h ≡ m k)) → Simple S n ts → Simple S n us → SimpleBound z.bound → SimplePairs ps
        → Kept (part S m z h k ts us ps b c d)
    unfolding part part₁
    part_kept m h k ts us true c d p q g r = (g, r)
    part_kept m h k ts us false true d p q g r = (g, r)
    part_kept m h k ts us false false (no e) p q g r = (g, r)
    part_kept m h k ts us false false (yes e) p q g r = go (zip_on S ts us ps) (zips ts us ps p q r)
      where
        go : (o : Option (List (Pair S))) → Zips o → Kept (part₁ S z ps o)
        go none x = (g, r)
        go (some qs) x = (g, x)

    part_asked : (m : S.Head → S.Head) (h k : S.Head) (ts us : Forest S.Head) (b c : Bool) (d : Dec (m h ≡ m k)) → Asked z.fam → Asked (part S m z h k ts us ps b c d).state.fam
    unfolding part part₁
    part_asked m h k ts us true c d a = a
    part_asked m h k ts us false true d a = a
    part_asked m h k ts us false false (no e) a = a
    part_asked m h k ts us false false (yes e) a = go (zip_on S ts us ps)
      where
        go : (o : Option (List (Pair S))) → Asked (part₁ S z ps o).state.fam
        go none = a
        go (some qs) = a

    turn_kept : (m : S.Head → S.Head) (l r : T S) → Simple S n l → Simple S n r → SimpleBound z.bound → SimplePairs ps → Kept (turn S m z l r ps)
    unfolding turn match differ
    turn_kept m l r p q h w = go (same? S.head? (answer S z l) (answer S z r)) (top S z l) (top S z r) (walk_simple z.rev z.bound h l p) (walk_simple z.rev z.bound h r q)
      where
        go : (d : Dec (answer S z l ≡ answer S z r)) (t u : T S) → Simple S n t → Simple S n u → Kept (match S m z t u (answer S z l) (answer S z r) ps d)
        go (yes e) t u x y = (h, w)
        go (no e) (var v) u x y = tie_kept v u y h w
        go (no e) (node k ts) (var v) x y = tie_kept v (node k ts) x h w
        go (no e) (node k ts) (node j us) x y = part_kept m k j ts us (S.soft k || S.soft j) (S.rigid k) (S.head? (m k) (m j)) x.3 y.3 h w

    turn_asked : (m : S.Head → S.Head) (l r : T S) → Asked z.fam → Asked (turn S m z l r ps).state.fam
    unfolding turn match differ
    turn_asked m l r a = go (same? S.head? (answer S z l) (answer S z r)) (top S z l) (top S z r)
      where
        go : (d : Dec (answer S z l ≡ answer S z r)) (t u : T S) → Asked (match S m z t u (answer S z l) (answer S z r) ps d).state.fam
        go (yes e) t u = a
        go (no e) (var v) u = tie_asked v u a
        go (no e) (node k ts) (var v) = tie_asked v (node k ts) a
        go (no e) (node k ts) (node j us) = part_asked m k j ts us (S.soft k || S.soft j) (S.rigid k) (S.head? (m k) (m j)) a

  abbrev SimpleOut : Out (Table S) → Type 0
  SimpleOut (cancelled z) = SimpleBound z.bound
  SimpleOut (done z b) = SimpleBound z.bound

  abbrev AskedOut : Out (Table S) → Type 0
  AskedOut (cancelled z) = Asked z.fam
  AskedOut (done z b) = Asked z.fam

  settles_simple : (m : S.Head → S.Head) (k : ℕ) (z : Table S) (ok : Bool) (ps : List (Pair S)) → SimpleBound z.bound → SimplePairs ps → SimpleOut (settles S m k z ok ps)
  unfolding settles
  settles_simple m zero z ok [] h p = h
  settles_simple m zero z ok (q ∷ ps) h p = h
  settles_simple m (suc k) z ok [] h p = h
  settles_simple m (suc k) z ok (q ∷ ps) h p =
      let x = turn S m z q.0 q.1 ps in
      let y = turn_kept z ps m q.0 q.1 p.0 p.1 h p.2 in
      settles_simple m k x.state (ok && x.good) x.todo y.0 y.1

  settles_asked : (m : S.Head → S.Head) (k : ℕ) (z : Table S) (ok : Bool) (ps : List (Pair S)) → Asked z.fam → AskedOut (settles S m k z ok ps)
  unfolding settles
  settles_asked m zero z ok [] a = a
  settles_asked m zero z ok (q ∷ ps) a = a
  settles_asked m (suc k) z ok [] a = a
  settles_asked m (suc k) z ok (q ∷ ps) a =
      let x = turn S m z q.0 q.1 ps in
      settles_asked m k x.state (ok && x.good) x.todo (turn_asked z ps m q.0 q.1 a)

  -- ---- lists of orders

  module _ (default : S.Fam → Option S.Fam → S.Head) (never : S.Head)
      (simple-default : (f : S.Fam) (o : Option S.Fam) → Simple S n (node (default f o) nil)) (simple-never : Simple S n (node never nil)) where
    fill_simple : (z : Table S) (g : ℕ → S.Head) → ((w : ℕ) → Simple S n (node (g w) nil)) → (t : T S) → SimpleBound z.bound → SimpleBound (fill S default never z g t).bound
    unfolding fill
    fill_simple z g p (var w) h = put_simple z.bound w (node (g w) nil) h (p w)
    fill_simple z g p (node k ts) h = h

    fill_asked : (z : Table S) (g : ℕ → S.Head) (t : T S) → (fill S default never z g t).fam ≡ z.fam
    unfolding fill
    fill_asked z g (var w) = refl
    fill_asked z g (node k ts) = refl

    numbers_kept : (m v : ℕ) (z : Table S) → (SimpleBound z.bound → SimpleBound (fill_numbers S default never m v z).bound) × ((fill_numbers S default never m v z).fam ≡ z.fam)
    unfolding fill_numbers number_one
    numbers_kept zero v z = ((λ h. h), refl)
    numbers_kept (suc m) v z =
        let a = go (z.fam v) in
        let b = numbers_kept m (suc v) (number_one S default never z v (z.fam v)) in
        ((λ h. b.0 (a.0 h)), b.1 ∙ a.1)
      where
        go : (o : Option S.Fam) → (SimpleBound z.bound → SimpleBound (number_one S default never z v o).bound) × ((number_one S default never z v o).fam ≡ z.fam)
        go none = ((λ h. h), refl)
        go (some f) = (fill_simple z (λ w. default f (z.fam w)) (λ w. simple-default f (z.fam w)) (top S z (var v)), fill_asked z (λ w. default f (z.fam w)) (top S z (var v)))

    nevers_kept : (d : ℕ → Bool) (m v : ℕ) (z : Table S)
        → (SimpleBound z.bound → SimpleBound (fill_nevers S default never d m v z).bound) × ((fill_nevers S default never d m v z).fam ≡ z.fam)
    unfolding fill_nevers never_one
    nevers_kept d zero v z = ((λ h. h), refl)
    nevers_kept d (suc m) v z =
        let a = go (d v) in
        let b = nevers_kept d m (suc v) (never_one S default never z v (d v)) in
        ((λ h. b.0 (a.0 h)), b.1 ∙ a.1)
      where
        go : (b : Bool) → (SimpleBound z.bound → SimpleBound (never_one S default never z v b).bound) × ((never_one S default never z v b).fam ≡ z.fam)
        go false = ((λ h. h), refl)
        go true = (fill_simple z (λ w. never) (λ w. simple-never) (top S z (var v)), fill_asked z (λ w. never) (top S z (var v)))

    pub record PlainRun (x : R S default never) : Type 0 where
      -- all pairs posed so far are plain: so is all that is bound
      pub simple : SimplePairs x.posed → SimpleBound x.state.table.bound
      -- no number was requested so far: no variable has a request
      pub unasked : Asked x.asked → Asked x.state.table.fam

    never_put : (fam : ℕ → Option S.Fam) (v : ℕ) (f : S.Fam) → ¬ Asked (put fam v (some f))
    never_put fam v f a = clash (cc (a v, put_same fam v (some f)))

    -- every order keeps it, a pair posed by any equality
    pub obey_plain : (m : S.Head → S.Head) (x : R S default never) → PlainRun x → (c : Command S) → PlainRun (obey S default never m x c)
    unfolding obey serve_variable serve_number serve_hole serve_defer serve_pair deferring lift settle
    obey_plain m x y (variable s i) = go (x.state.sites s i)
      where
        go : (o : Option ℕ) → PlainRun (serve_variable S default never x s i o)
        go (some v) = y
        go none = record { simple = y.simple; unasked = y.unasked }
    obey_plain m x y (number s f) = go (x.state.sites s 1)
      where
        go : (o : Option ℕ) → PlainRun (serve_number S default never x s f o)
        go (some v) = record { simple = y.simple; unasked = λ a. absurd (never_put x.asked v f a) }
        go none = record { simple = y.simple; unasked = λ a. absurd (never_put x.asked x.count f a) }
    obey_plain m x y (hole s) = go (x.state.holes s)
      where
        go : (o : Option ℕ) → PlainRun (serve_hole S default never x s o)
        go (some v) = y
        go none = record { simple = y.simple; unasked = y.unasked }
    obey_plain m x y (defer t) = go (issued? x.count t)
      where
        go₂ : (u : T S) → PlainRun (move S default never x (deferring S default never x.state u))
        go₂ (var v) = record { simple = y.simple; unasked = y.unasked }
        go₂ (node h ts) = record { simple = y.simple; unasked = y.unasked }

        go : (d : Dec (Issued x.count t)) → PlainRun (serve_defer S default never x t d)
        go (yes a) = go₂ (answer S x.state.table t)
        go (no a) = y
    obey_plain m x y (pair k l r) = go (issued? x.count l) (issued? x.count r)
      where
        ends : (o : Out (Table S)) → (SimplePairs ((l, r) ∷ x.posed) → SimpleOut o) → (Asked x.asked → AskedOut o) → PlainRun (settle S x l r (lift S default never x.state o))
        ends (cancelled z) p q = record { simple = p; unasked = q }
        ends (done z b) p q = record { simple = p; unasked = q }

        go : (a : Dec (Issued x.count l)) (b : Dec (Issued x.count r)) → PlainRun (serve_pair S default never m x k l r a b)
        go (yes a) (yes b) = ends (table_poses S m k x.state.table l r)
            (λ p. settles_simple m k x.state.table true ((l, r) ∷ []) (y.simple p.2) (p.0, p.1, tt))
            (λ q. settles_asked m k x.state.table true ((l, r) ∷ []) (y.unasked q))
        go (yes a) (no b) = y
        go (no a) d = y
    obey_plain m x y (resolving t) = y
    obey_plain m x y numbers =
        let e = numbers_kept x.count 0 x.state.table in
        record { simple = λ p. e.0 (y.simple p); unasked = λ a v. ap (λ (g : ℕ → Option S.Fam). g v) e.1 ∙ y.unasked a v }
    obey_plain m x y nevers =
        let e = nevers_kept x.state.diverging x.count 0 x.state.table in
        record { simple = λ p. e.0 (y.simple p); unasked = λ a v. ap (λ (g : ℕ → Option S.Fam). g v) e.1 ∙ y.unasked a v }
    obey_plain m x y revision = y
    obey_plain m x y refused = y

    all_plain : (x : R S default never) → PlainRun x → (cs : List (Command S)) → PlainRun (obey_all S default never n x cs)
    unfolding obey_all
    all_plain x y [] = y
    all_plain x y (c ∷ cs) = all_plain (obey S default never n x c) (obey_plain n x y c) cs

    pub sheet_plain : (cs : List (Command S)) → PlainRun (sheet S default never n cs)
    sheet_plain cs = all_plain (fresh S (session_begin S default never)) (record { simple = λ p v t e. clash (cc); unasked = λ a v. refl }) cs

    pub plain_begin : PlainRun (fresh S (session_begin S default never))
    plain_begin = record { simple = λ p v t e. clash (cc); unasked = λ a v. refl }

    -- a term without them resolves to one without them, where all pairs were posed so
    pub run_simple : (x : R S default never) → PlainRun x → SimplePairs x.posed → (t : T S) → Simple S n t → Simple S n (answer S x.state.table t)
    run_simple x y p t q = resolve_simple x.state.table.rev x.state.table.bound (y.simple p) t q

    -- A TERM WITHOUT THEM RESOLVES TO ONE WITHOUT THEM, after every list of orders whose posed pairs are so, whatever they were answered.
    pub resolves_simple : (cs : List (Command S)) → SimplePairs (sheet S default never n cs).posed → (t : T S) → Simple S n t → Simple S n (answer S (sheet S default never n cs).state.table t)
    resolves_simple cs p t q = let z = (sheet S default never n cs).state.table in resolve_simple z.rev z.bound ((sheet_plain cs).simple p) t q

    module _ (respects : (f : S.Fam) (h k : S.Head) → n h ≡ n k → S.admits f h ≡ S.admits f k) where
      -- ROBINSON 1965 DECIDES EVERY PAIR of a list of plain first-order pairs, also after pairs that were incompatible or cancelled: no pair posed before, nor
      -- this one, has a recovery term, a projection or an access mark, and none of the variables left in its two terms, resolved, is a number variable.
      pub plain_lists : (cs : List (Command S)) (t u : T S)
          → (let x = sheet S default never n cs in
          SimplePairs x.posed → Simple S n t → Simple S n u → Issued x.count t → Issued x.count u
          → ((v : ℕ) → In v (answer S x.state.table t) ⊎ In v (answer S x.state.table u) → x.state.table.fam v ≡ none)
          → RobinsonDecides S n respects default never x t u)
      plain_lists cs t u p st su it iu a = robinson_each S n respects default never cs t u (record {
        issued_left = it;
        issued_right = iu;
        left = (resolves_simple cs p t st, λ v i. a v (inl i));
        right = (resolves_simple cs p u su, λ v i. a v (inr i));
      })

      -- and with no number variable at all
      pub numberless_lists : (cs : List (Command S)) (t u : T S)
          → (let x = sheet S default never n cs in
          SimplePairs x.posed → ((v : ℕ) → x.asked v ≡ none) → Simple S n t → Simple S n u → Issued x.count t → Issued x.count u → RobinsonDecides S n respects default never x t u)
      numberless_lists cs t u p a st su it iu = plain_lists cs t u p st su it iu (λ v i. (sheet_plain cs).unasked a v)

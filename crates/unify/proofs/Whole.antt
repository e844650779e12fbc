-- A session with orders 0 to 8. After EVERY list of them the table stands for a substitution, so that resolving ends and is right, and the
-- revision is the number of bound variables. Under the premises of demand 3 its two sentences hold.
use mathlib.Core.Path.{◌≡◌, refl, ap, sym, ◌∙◌, subst}
use mathlib.Core.Logic.{◌⊎◌, inl, inr, ◌≢◌}
use mathlib.Core.Bool.{Bool, true, false, ◌||◌}
use mathlib.Core.Option.{Option, none, some}
use mathlib.Core.List.{List, [], ◌∷◌}
use Prim.Native.Nat.{ℕ, zero, suc, ◌+◌, ◌≤◌, ◌<◌}
use native.Mathlib.Decide.{ℕ_discrete}
use native.Mathlib.Omega.{arith}
use Rattle.unify.specs.Term.{var, node, nil, sub, clash}
use Rattle.unify.specs.Solver.{Sig, T, State, Out, cancelled, done, put, put_same, put_other, bind, asks, poses, begin}
use Rattle.unify.specs.Meaning.{Fine}
use Rattle.unify.proofs.Sound.{put_cases, bind_fine}
use Rattle.unify.proofs.Lazy.{rep_fresh, rep_bind}
use Rattle.unify.specs.Orders.{Issued, issued?, Order, issue, ask, pose, other, Run, fresh, settle, posing, serve, run, Demand3}
use Rattle.unify.proofs.Demand.{Premises, fine_issue}
use Rattle.unify.specs.Table.{Table, answer, top, taken, taken_put, table_poses, table_asks, table_begin}
use Rattle.unify.proofs.Refine.{Stands, Counted, Ends, settles_follows, counted_more, reach, table_end, table_demand_3}
use Rattle.unify.specs.Session.{Command, variable, number, hole, defer, pair, resolving, numbers, nevers, revision, refused, session_begin, with_table}
use Rattle.unify.specs.Session.{fill, number_one, never_one, fill_numbers, fill_nevers, deferring, R, move, serve_variable, serve_hole, serve_number, serve_defer, lift, serve_pair, obey, obey_all, sheet, Allowed, AllAllowed}
use Rattle.unify.specs.Session.{Reply, term, verdict, changed, nothing, refusal, reply, replies, if_issued, verdict_of}

module _ (S : Sig) (default : S.Fam → Option S.Fam → S.Head) (never : S.Head)
    (n : S.Head → S.Head) (respects : (f : S.Fam) (h k : S.Head) → n h ≡ n k → S.admits f h ≡ S.admits f k) where
  -- a table over N variables is in order, after whatever orders
  pub record Sane (N : ℕ) (z : Table S) : Type 0 where
    pub means : State S
    pub stands : Stands S z means
    pub counted : Counted S N z
    pub fine : Fine S N means

  unfoldable pub sane_begin : Sane 0 (table_begin S)
  unfolding taken
  sane_begin = record {
    means = begin S;
    stands = record { rep = rep_fresh; fams = refl; revs = refl };
    counted = record { far = λ v l. refl; number = refl };
    fine = record { idem = λ v w i. refl; fresh = λ v l. (refl, refl); within = λ v w l i. absurd (omega arith) };
  }

  unfoldable pub sane_more : (N : ℕ) (z : Table S) → Sane N z → Sane (suc N) z
  sane_more N z x = record {
    means = x.means;
    stands = x.stands;
    counted = counted_more S n respects N z x.counted;
    fine = fine_issue S n respects N x.means x.fine;
  }

  unfoldable pub sane_asks : (N : ℕ) (z : Table S) (v : ℕ) (f : S.Fam) → v < N → Sane N z → Sane N (table_asks S z v f)
  sane_asks N z v f l x =
      let s = x.means in
      record {
        means = asks S s v f;
        stands = record {
          rep = x.stands.rep;
          fams = ap (λ (g : ℕ → Option S.Fam). put g v (some f)) x.stands.fams;
          revs = x.stands.revs;
        };
        counted = record { far = x.counted.far; number = x.counted.number };
        fine = record {
          idem = x.fine.idem;
          fresh = λ u m. ((x.fine.fresh u m).0, put_other s.fam v (some f) u (λ e. omega arith) ∙ (x.fine.fresh u m).1);
          within = x.fine.within;
        };
      }

  -- a default binds an unbound variable to a term with no variable
  unfoldable pub sane_bind : (N : ℕ) (z : Table S) (h : S.Head) (w : ℕ) → w < N → z.bound w ≡ none → Sane N z
      → Sane N (record { bound = put z.bound w (some (node h nil)); fam = z.fam; rev = suc z.rev })
  unfolding sub
  sane_bind N z h w l e x =
      let s = x.means in
      record {
        means = bind S s w (node h nil) s.fam;
        stands = record {
          rep = rep_bind z.bound z.rev s.res x.stands.rep w (node h nil) e (λ i. i);
          fams = x.stands.fams;
          revs = ap suc x.stands.revs;
        };
        counted = record {
          far = λ u m. put_other z.bound w (some (node h nil)) u (λ q. omega arith) ∙ x.counted.far u m;
          number = taken_put N z.bound w (node h nil) l e ∙ ap suc x.counted.number;
        };
        fine = bind_fine S n respects N s x.fine w (node h nil) s.fam (x.stands.rep.unbound w e) l (λ u i. absurd i) (λ u i. absurd i) (λ i. i) (λ u f p. inl p);
      }

  pub sane_fill : (N : ℕ) (z : Table S) (g : ℕ → S.Head) (v : ℕ) → v < N → Sane N z → Sane N (fill S default never z g (top S z (var v)))
  unfolding fill
  sane_fill N z g v l x = go (top S z (var v)) (reach S n respects N z x.means x.stands x.fine (var v) (var v) refl (λ w e. omega arith))
    where
      go : (t : T S) → ((w : ℕ) → t ≡ var w → (w < N) × (z.bound w ≡ none)) → Sane N (fill S default never z g t)
      go (node k ts) a = x
      go (var w) a = sane_bind N z (g w) w (a w refl).0 (a w refl).1 x

  sane_numbers : (N m v : ℕ) (z : Table S) → v + m ≤ N → Sane N z → Sane N (fill_numbers S default never m v z)
  unfolding fill_numbers number_one
  sane_numbers N zero v z l x = x
  sane_numbers N (suc m) v z l x = sane_numbers N m (suc v) (number_one S default never z v (z.fam v)) (omega arith) (go (z.fam v))
    where
      go : (o : Option S.Fam) → Sane N (number_one S default never z v o)
      go none = x
      go (some f) = sane_fill N z (λ w. default f (z.fam w)) v (omega arith) x

  sane_nevers : (d : ℕ → Bool) (N m v : ℕ) (z : Table S) → v + m ≤ N → Sane N z → Sane N (fill_nevers S default never d m v z)
  unfolding fill_nevers never_one
  sane_nevers d N zero v z l x = x
  sane_nevers d N (suc m) v z l x = sane_nevers d N m (suc v) (never_one S default never z v (d v)) (omega arith) (go (d v))
    where
      go : (b : Bool) → Sane N (never_one S default never z v b)
      go false = x
      go true = sane_fill N z (λ w. never) v (omega arith) x

  -- the whole session: the table, and places that name issued variables
  pub record SaneRun (x : R S default never) : Type 0 where
    pub sane : Sane x.count x.state.table
    pub placed : (s i v : ℕ) → x.state.sites s i ≡ some v → v < x.count

  -- one place more
  pub site_more : (sites : ℕ → ℕ → Option ℕ) (N s i : ℕ) → ((s i v : ℕ) → sites s i ≡ some v → v < N)
      → (s' i' v : ℕ) → put sites s (put (sites s) i (some N)) s' i' ≡ some v → v < suc N
  site_more sites N s i h s' i' v e = go (ℕ_discrete s' s)
    where
      inner : ((i' ≡ i) × (N ≡ v)) ⊎ ((i' ≢ i) × (sites s i' ≡ some v)) → v < suc N
      inner (inl p) = let q = p.1 in omega arith
      inner (inr p) = let q = h s i' v p.1 in omega arith

      go : Dec (s' ≡ s) → v < suc N
      go (yes p) =
          let q : put sites s (put (sites s) i (some N)) s' ≡ put (sites s) i (some N) = ap (put sites s (put (sites s) i (some N))) p ∙ put_same sites s (put (sites s) i (some N)) in
          inner (put_cases (sites s) i N i' v (ap (λ (g : ℕ → Option ℕ). g i') (sym q) ∙ e))
      go (no p) =
          let q : put sites s (put (sites s) i (some N)) s' ≡ sites s' = put_other sites s (put (sites s) i (some N)) s' p in
          let r = h s' i' v (ap (λ (g : ℕ → Option ℕ). g i') (sym q) ∙ e) in
          omega arith

  pub obey_sane : (x : R S default never) → SaneRun x → (c : Command S) → SaneRun (obey S default never n x c)
  unfolding obey serve_variable serve_number serve_hole serve_defer serve_pair deferring lift settle
  obey_sane x y (variable s i) = go (x.state.sites s i)
    where
      go : (o : Option ℕ) → SaneRun (serve_variable S default never x s i o)
      go (some v) = y
      go none = record {
        sane = sane_more x.count x.state.table y.sane;
        placed = site_more x.state.sites x.count s i y.placed;
      }
  obey_sane x y (number s f) = go (x.state.sites s 1) refl
    where
      go : (o : Option ℕ) → x.state.sites s 1 ≡ o → SaneRun (serve_number S default never x s f o)
      go (some v) p = record { sane = sane_asks x.count x.state.table v f (y.placed s 1 v p) y.sane; placed = y.placed }
      go none p = record {
        sane = sane_asks (suc x.count) x.state.table x.count f (omega arith) (sane_more x.count x.state.table y.sane);
        placed = site_more x.state.sites x.count s 1 y.placed;
      }
  obey_sane x y (hole s) = go (x.state.holes s)
    where
      go : (o : Option ℕ) → SaneRun (serve_hole S default never x s o)
      go (some v) = y
      go none = record { sane = sane_more x.count x.state.table y.sane; placed = λ s i v p. let q = y.placed s i v p in omega arith }
  obey_sane x y (defer t) = go (issued? x.count t)
    where
      go₂ : (u : T S) → SaneRun (move S default never x (deferring S default never x.state u))
      go₂ (var v) = record { sane = y.sane; placed = y.placed }
      go₂ (node h ts) = record { sane = y.sane; placed = y.placed }

      go : (d : Dec (Issued x.count t)) → SaneRun (serve_defer S default never x t d)
      go (yes a) = go₂ (answer S x.state.table t)
      go (no a) = y
  obey_sane x y (pair k l r) = go (issued? x.count l) (issued? x.count r)
    where
      s : State S
      s = y.sane.means

      ends : (o : Out (Table S)) (o' : Out (State S)) → Ends S n respects x.count o o' → SaneRun (settle S x l r (lift S default never x.state o))
      ends (cancelled z) (cancelled s') e = record { sane = record { means = s'; stands = e.0; counted = e.1; fine = e.2 }; placed = y.placed }
      ends (cancelled z) (done s' c) e = absurd e
      ends (done z b) (cancelled s') e = absurd e
      ends (done z b) (done s' c) e = record { sane = record { means = s'; stands = e.0; counted = e.1; fine = e.2 }; placed = y.placed }

      go : (a : Dec (Issued x.count l)) (b : Dec (Issued x.count r)) → SaneRun (serve_pair S default never n x k l r a b)
      go (yes a) (yes b) = ends (table_poses S n k x.state.table l r) (poses S n k s l r)
          (settles_follows S n respects k x.count x.state.table s true true ((l, r) ∷ []) ((l, r) ∷ [])
          y.sane.stands y.sane.counted refl y.sane.fine (a, b, tt) (refl, refl, tt))
      go (yes a) (no b) = y
      go (no a) d = y
  obey_sane x y (resolving t) = y
  obey_sane x y numbers = record { sane = sane_numbers x.count x.count 0 x.state.table (omega arith) y.sane; placed = y.placed }
  obey_sane x y nevers = record { sane = sane_nevers x.state.diverging x.count x.count 0 x.state.table (omega arith) y.sane; placed = y.placed }
  obey_sane x y revision = y
  obey_sane x y refused = y

  all_sane : (x : R S default never) → SaneRun x → (cs : List (Command S)) → SaneRun (obey_all S default never n x cs)
  unfolding obey_all
  all_sane x y [] = y
  all_sane x y (c ∷ cs) = all_sane (obey S default never n x c) (obey_sane x y c) cs

  -- AFTER EVERY LIST OF ORDERS, premises or not, the session is in order.
  pub sheet_sane : (cs : List (Command S)) → SaneRun (sheet S default never n cs)
  sheet_sane cs = all_sane (fresh S (session_begin S default never)) (record { sane = sane_begin; placed = λ s i v p. clash (cc) }) cs

  -- The defaults only add bindings, and each counts: where the revision is the same, nothing happened.
  abbrev Mono : Table S → Table S → Type 0
  Mono z z' = (z.rev ≤ z'.rev) × (z'.rev ≡ z.rev → z' ≡ z)

  mono_trans : (z z' z'' : Table S) → Mono z z' → Mono z' z'' → Mono z z''
  mono_trans z z' z'' a b =
      let p = a.0 in
      let q = b.0 in
      (omega arith, λ e. b.1 (omega arith) ∙ a.1 (omega arith))

  fill_mono : (z : Table S) (g : ℕ → S.Head) (t : T S) → Mono z (fill S default never z g t)
  unfolding fill
  fill_mono z g (var w) = (omega arith, λ e. absurd (omega arith))
  fill_mono z g (node k ts) = (omega arith, λ e. refl)

  pub numbers_mono : (m v : ℕ) (z : Table S) → Mono z (fill_numbers S default never m v z)
  unfolding fill_numbers number_one
  numbers_mono zero v z = (omega arith, λ e. refl)
  numbers_mono (suc m) v z = mono_trans z (number_one S default never z v (z.fam v)) (fill_numbers S default never (suc m) v z) (go (z.fam v)) (numbers_mono m (suc v) (number_one S default never z v (z.fam v)))
    where
      go : (o : Option S.Fam) → Mono z (number_one S default never z v o)
      go none = (omega arith, λ e. refl)
      go (some f) = fill_mono z (λ w. default f (z.fam w)) (top S z (var v))

  pub nevers_mono : (d : ℕ → Bool) (m v : ℕ) (z : Table S) → Mono z (fill_nevers S default never d m v z)
  unfolding fill_nevers never_one
  nevers_mono d zero v z = (omega arith, λ e. refl)
  nevers_mono d (suc m) v z = mono_trans z (never_one S default never z v (d v)) (fill_nevers S default never d (suc m) v z) (go (d v)) (nevers_mono d m (suc v) (never_one S default never z v (d v)))
    where
      go : (b : Bool) → Mono z (never_one S default never z v b)
      go false = (omega arith, λ e. refl)
      go true = fill_mono z (λ w. never) (top S z (var v))

  -- Under the premises a list of orders is, for variables, families and bindings, a list of the orders of `Orders`.
  abbrev pub project : R S default never → Run S (Table S)
  project x = record { state = x.state.table; count = x.count; asked = x.asked; posed = x.posed; wrong = x.wrong; cut = x.cut }

  if_new : Option ℕ → Order S
  if_new none = issue
  if_new (some v) = other

  plainly : R S default never → Command S → Order S
  plainly x (variable s i) = if_new (x.state.sites s i)
  plainly x (number s f) = ask f
  plainly x (hole s) = if_new (x.state.holes s)
  plainly x (defer t) = other
  plainly x (pair k l r) = pose k l r
  plainly x (resolving t) = other
  plainly x numbers = other
  plainly x nevers = other
  plainly x revision = other
  plainly x refused = other

  serve_table : Run S (Table S) → Order S → Run S (Table S)
  serve_table x o = serve S (table_asks S) (table_poses S n) x o

  obey_plainly : (x : R S default never) (c : Command S) → Allowed S default never n x c → project (obey S default never n x c) ≡ serve_table (project x) (plainly x c)
  unfolding obey serve_variable serve_number serve_hole serve_defer serve_pair deferring lift settle plainly if_new serve_table serve posing
  obey_plainly x (variable s i) p = go (x.state.sites s i)
    where
      go : (o : Option ℕ) → project (serve_variable S default never x s i o) ≡ serve_table (project x) (if_new o)
      go none = refl
      go (some v) = refl
  obey_plainly x (number s f) p = ap (λ (o : Option ℕ). project (serve_number S default never x s f o)) p
  obey_plainly x (hole s) p = go (x.state.holes s)
    where
      go : (o : Option ℕ) → project (serve_hole S default never x s o) ≡ serve_table (project x) (if_new o)
      go none = refl
      go (some v) = refl
  obey_plainly x (defer t) p = go (issued? x.count t)
    where
      go₂ : (u : T S) → project (move S default never x (deferring S default never x.state u)) ≡ project x
      go₂ (var v) = refl
      go₂ (node h ts) = refl

      go : (d : Dec (Issued x.count t)) → project (serve_defer S default never x t d) ≡ project x
      go (yes a) = go₂ (answer S x.state.table t)
      go (no a) = refl
  obey_plainly x (pair k l r) p = go (issued? x.count l) (issued? x.count r)
    where
      go₂ : (o : Out (Table S)) → project (settle S x l r (lift S default never x.state o)) ≡ settle S (project x) l r o
      go₂ (cancelled z) = refl
      go₂ (done z b) = refl

      go : (a : Dec (Issued x.count l)) (b : Dec (Issued x.count r)) → project (serve_pair S default never n x k l r a b) ≡ posing S (table_asks S) (table_poses S n) (project x) k l r a b
      go (yes a) (yes b) = go₂ (table_poses S n k x.state.table l r)
      go (yes a) (no b) = refl
      go (no a) d = refl
  obey_plainly x (resolving t) p = refl
  obey_plainly x numbers p = ap (λ (z : Table S). project (move S default never x (with_table S default never x.state z))) ((numbers_mono x.count 0 x.state.table).1 p)
  obey_plainly x nevers p = ap (λ (z : Table S). project (move S default never x (with_table S default never x.state z))) ((nevers_mono x.state.diverging x.count 0 x.state.table).1 p)
  obey_plainly x revision p = refl
  obey_plainly x refused p = refl

  trace : R S default never → List (Command S) → List (Order S)
  trace x [] = []
  trace x (c ∷ cs) = plainly x c ∷ trace (obey S default never n x c) cs

  trace_right : (x : R S default never) (cs : List (Command S)) → AllAllowed S default never n x cs
      → project (obey_all S default never n x cs) ≡ run S (table_asks S) (table_poses S n) (project x) (trace x cs)
  unfolding obey_all run trace serve_table
  trace_right x [] p = refl
  trace_right x (c ∷ cs) p =
      trace_right (obey S default never n x c) cs p.1
      ∙ ap (λ (y : Run S (Table S)). run S (table_asks S) (table_poses S n) y (trace (obey S default never n x c) cs)) (obey_plainly x c p.0)

  -- some list of the orders of `Orders` leads to where the sheet does
  pub sheet_means : (cs : List (Command S)) → AllAllowed S default never n (fresh S (session_begin S default never)) cs
      → (os : List (Order S)) × (project (sheet S default never n cs) ≡ table_end S n respects os)
  sheet_means cs a = let x = fresh S (session_begin S default never) in (trace x cs, trace_right x cs a)

  -- DEMAND 3, WHOLE: for every list of orders 0 to 8, refused ones included, given to a fresh session. The premises: a number place is
  -- not issued before it is requested, no default binds a variable (`AllAllowed`), no pair is cancelled, and the pairs are free of recovery
  -- terms and of projections (`Premises`).
  pub whole_demand_3 : (cs : List (Command S)) → AllAllowed S default never n (fresh S (session_begin S default never)) cs
      → Premises S n respects (sheet S default never n cs)
      → Demand3 S n (sheet S default never n cs) (λ v. answer S (sheet S default never n cs).state.table (var v))
  whole_demand_3 cs a p =
      let e = sheet_means cs a in
      let f : Premises S n respects (project (sheet S default never n cs)) → Demand3 S n (project (sheet S default never n cs)) (λ v. answer S (project (sheet S default never n cs)).state (var v)) =
      subst (λ (y : Run S (Table S)). Premises S n respects y → Demand3 S n y (λ v. answer S y.state (var v))) (sym e.1) (table_demand_3 S n respects e.0) in
      let d = f p in
      record { incompatible = d.incompatible; assignments = d.assignments; themselves = d.themselves }

  -- What was recorded is what was answered: a pair counts as incompatible or cancelled where its answer says so.
  unfoldable pub said_wrong : Reply S → Bool
  said_wrong (term t) = false
  said_wrong (verdict zero) = true
  said_wrong (verdict (suc d)) = false
  said_wrong (changed b) = false
  said_wrong (Reply.count c) = false
  said_wrong nothing = false
  said_wrong refusal = false

  unfoldable pub said_cut : Reply S → Bool
  said_cut (term t) = false
  said_cut (verdict zero) = false
  said_cut (verdict (suc zero)) = false
  said_cut (verdict (suc (suc d))) = true
  said_cut (changed b) = false
  said_cut (Reply.count c) = false
  said_cut nothing = false
  said_cut refusal = false

  unfoldable pub any : (Reply S → Bool) → List (Reply S) → Bool
  any f [] = false
  any f (r ∷ rs) = f r || any f rs

  or_no : (a : Bool) → a ≡ (a || false)
  or_no true = refl
  or_no false = refl

  or_yes : (a : Bool) → true ≡ (a || true)
  or_yes true = refl
  or_yes false = refl

  or_assoc : (a b c : Bool) → (a || b || c) ≡ (a || (b || c))
  or_assoc true b c = refl
  or_assoc false b c = refl

  recorded : (x : R S default never) (c : Command S)
      → ((obey S default never n x c).wrong ≡ (x.wrong || said_wrong (reply S default never n x c)))
      × ((obey S default never n x c).cut ≡ (x.cut || said_cut (reply S default never n x c)))
  unfolding obey serve_variable serve_number serve_hole serve_defer serve_pair deferring lift settle reply if_issued verdict_of said_wrong said_cut
  recorded x (variable s i) = go (x.state.sites s i)
    where
      go : (o : Option ℕ) → ((serve_variable S default never x s i o).wrong ≡ (x.wrong || false)) × ((serve_variable S default never x s i o).cut ≡ (x.cut || false))
      go none = (or_no x.wrong, or_no x.cut)
      go (some v) = (or_no x.wrong, or_no x.cut)
  recorded x (number s f) = go (x.state.sites s 1)
    where
      go : (o : Option ℕ) → ((serve_number S default never x s f o).wrong ≡ (x.wrong || false)) × ((serve_number S default never x s f o).cut ≡ (x.cut || false))
      go none = (or_no x.wrong, or_no x.cut)
      go (some v) = (or_no x.wrong, or_no x.cut)
  recorded x (hole s) = go (x.state.holes s)
    where
      go : (o : Option ℕ) → ((serve_hole S default never x s o).wrong ≡ (x.wrong || false)) × ((serve_hole S default never x s o).cut ≡ (x.cut || false))
      go none = (or_no x.wrong, or_no x.cut)
      go (some v) = (or_no x.wrong, or_no x.cut)
  recorded x (defer t) = go (issued? x.count t)
    where
      go : (d : Dec (Issued x.count t))
          → ((serve_defer S default never x t d).wrong ≡ (x.wrong || said_wrong (if_issued S default never n d nothing)))
          × ((serve_defer S default never x t d).cut ≡ (x.cut || said_cut (if_issued S default never n d nothing)))
      go (yes a) = (or_no x.wrong, or_no x.cut)
      go (no a) = (or_no x.wrong, or_no x.cut)
  recorded x (pair k l r) = go (issued? x.count l) (issued? x.count r)
    where
      out : Reply S
      out = verdict (verdict_of S default never n (table_poses S n k x.state.table l r))

      ends : (o : Out (Table S))
          → ((settle S x l r (lift S default never x.state o)).wrong ≡ (x.wrong || said_wrong (verdict (verdict_of S default never n o))))
          × ((settle S x l r (lift S default never x.state o)).cut ≡ (x.cut || said_cut (verdict (verdict_of S default never n o))))
      ends (cancelled z) = (or_no x.wrong, or_yes x.cut)
      ends (done z true) = (refl, or_no x.cut)
      ends (done z false) = (refl, or_no x.cut)

      go : (a : Dec (Issued x.count l)) (b : Dec (Issued x.count r))
          → ((serve_pair S default never n x k l r a b).wrong ≡ (x.wrong || said_wrong (if_issued S default never n a (if_issued S default never n b out))))
          × ((serve_pair S default never n x k l r a b).cut ≡ (x.cut || said_cut (if_issued S default never n a (if_issued S default never n b out))))
      go (yes a) (yes b) = ends (table_poses S n k x.state.table l r)
      go (yes a) (no b) = (or_no x.wrong, or_no x.cut)
      go (no a) d = (or_no x.wrong, or_no x.cut)
  recorded x (resolving t) = go (issued? x.count t)
    where
      go : (d : Dec (Issued x.count t))
          → (x.wrong ≡ (x.wrong || said_wrong (if_issued S default never n d (term (answer S x.state.table t)))))
          × (x.cut ≡ (x.cut || said_cut (if_issued S default never n d (term (answer S x.state.table t)))))
      go (yes a) = (or_no x.wrong, or_no x.cut)
      go (no a) = (or_no x.wrong, or_no x.cut)
  recorded x numbers = (or_no x.wrong, or_no x.cut)
  recorded x nevers = (or_no x.wrong, or_no x.cut)
  recorded x revision = (or_no x.wrong, or_no x.cut)
  recorded x refused = (or_no x.wrong, or_no x.cut)

  all_recorded : (x : R S default never) (cs : List (Command S))
      → ((obey_all S default never n x cs).wrong ≡ (x.wrong || any said_wrong (replies S default never n x cs)))
      × ((obey_all S default never n x cs).cut ≡ (x.cut || any said_cut (replies S default never n x cs)))
  unfolding obey_all replies any
  all_recorded x [] = (or_no x.wrong, or_no x.cut)
  all_recorded x (c ∷ cs) =
      let a = recorded x c in
      let b = all_recorded (obey S default never n x c) cs in
      let r = reply S default never n x c in
      let rs = replies S default never n (obey S default never n x c) cs in (
        b.0 ∙ ap (λ (w : Bool). w || any said_wrong rs) a.0 ∙ or_assoc x.wrong (said_wrong r) (any said_wrong rs),
        b.1 ∙ ap (λ (w : Bool). w || any said_cut rs) a.1 ∙ or_assoc x.cut (said_cut r) (any said_cut rs),
      )

  -- `wrong` is that some pair was answered incompatible (0), and `cut` that some was answered cancelled (2).
  pub sheet_recorded : (cs : List (Command S))
      → ((sheet S default never n cs).wrong ≡ any said_wrong (replies S default never n (fresh S (session_begin S default never)) cs))
      × ((sheet S default never n cs).cut ≡ any said_cut (replies S default never n (fresh S (session_begin S default never)) cs))
  sheet_recorded cs = all_recorded (fresh S (session_begin S default never)) cs

-- The solver over a table of bindings answers as the solver over substitutions does; so demand 3 holds of it.
use mathlib.Core.Path.{◌≡◌, refl, ap, ap₂, sym, ◌∙◌, subst, fun_ext}
use mathlib.Core.Logic.{◌⊎◌, inl, inr}
use mathlib.Core.Bool.{Bool, true, false, ◌&&◌, ◌||◌}
use mathlib.Core.Option.{Option, none, some}
use mathlib.Core.List.{List, [], ◌∷◌}
use lib.ListN.{length}
use Prim.Native.Nat.{ℕ, zero, suc, ◌≤◌, ◌<◌}
use native.Mathlib.Omega.{arith}
use Rattle.unify.specs.Term.{Sort, Tree, var, node, nil, ◌▸◌, Term, Forest, sub, In, in?, same?, clash, sub-sub, sub_fix, in_sub}
use Rattle.unify.specs.Solver.{Sig, T, Pair, State, Step, Out, cancelled, done, put, put_other}
use Rattle.unify.specs.Solver.{admit, any_soft, assign₁, assign₀, assign, zip_on, split₁, split, unequal, compare, step, constrain, poses, asks, begin}
use Rattle.unify.specs.Meaning.{Fine, Below}
use Rattle.unify.proofs.Lazy.{Mem, Deep, Sorted, sorted_mem, deep_all, Rep, resolve_right, rep_fresh, rep_bind}
use Rattle.unify.specs.Expansion.{expand}
use Rattle.unify.proofs.Sound.{step_right}
use Rattle.unify.specs.Orders.{Issued, issued?, Order, issue, ask, pose, other, Run, fresh, settle, posing, serve, run, Demand3}
use Rattle.unify.proofs.Demand.{Inv, fresh_inv, serve_inv, run_inv, Premises, demand_of, end}
use Rattle.unify.specs.Table.{walk, Table, answer, top, Turn, tie₁, tie₀, tie, part₁, part, differ, match, turn, settles, tally, taken, taken_put, table_poses, table_asks, table_begin}

-- walking changes nothing of what a term resolves to, and ends at a node or an unbound variable
module _ {H : Type 0} (b : ℕ → Option (Term H)) (ρ : ℕ → Term H) (bound : (v : ℕ) (u : Term H) → b v ≡ some u → ρ v ≡ sub ρ u) where
  walk_same : (f : ℕ) (t : Term H) → sub ρ (walk f b t) ≡ sub ρ t
  unfolding walk expand sub
  walk_same zero t = refl
  walk_same (suc f) (var v) = go (λ u. walk_same f u) (b v) refl
    where
      go : ((u : Term H) → sub ρ (walk f b u) ≡ sub ρ u) → (o : Option (Term H)) → b v ≡ o → sub ρ (expand v o (λ u. walk f b u)) ≡ ρ v
      go h none p = refl
      go h (some u) p = h u ∙ sym (bound v u p)
  walk_same (suc f) (node h ts) = refl

  abbrev Topped : Term H → Type 0
  Topped t = (v : ℕ) → t ≡ var v → b v ≡ none

  walk_enough : (L : List ℕ) → Sorted b L → (f : ℕ) → length L ≤ f → (t : Term H) → Deep b L t → Topped (walk f b t)
  unfolding walk expand
  walk_enough L s zero l (node h ts) d = λ v e. clash (cc)
  walk_enough L s (suc f) l (node h ts) d = λ v e. clash (cc)
  walk_enough [] s zero l (var w) d = λ v e. elim (d w refl) [ inl p ↦ (let q : w ≡ v = cc in ap b (sym q) ∙ p) | inr m ↦ absurd m ]
  walk_enough (x ∷ L) s zero l (var w) d = absurd (omega arith)
  walk_enough [] s (suc f) l (var w) d = go (b w) refl (d w refl)
    where
      go : (o : Option (Term H)) → b w ≡ o → (b w ≡ none) ⊎ ⊥ → Topped (expand w o (λ u. walk f b u))
      go none p m = λ v e. let q : w ≡ v = cc in ap b (sym q) ∙ p
      go (some u) p (inl e) = clash (cc)
      go (some u) p (inr m) = absurd m
  walk_enough (x ∷ L) s (suc f) l (var w) d = go (λ u h. walk_enough L s.1 f (omega arith) u h) (b w) refl (d w refl)
    where
      deep : (u : Term H) → b w ≡ some u → (b w ≡ none) ⊎ Mem w (x ∷ L) → Deep b L u
      deep u p (inl e) = clash (cc)
      deep u p (inr (inl e)) = s.0 u (ap b (sym e) ∙ p)
      deep u p (inr (inr m)) = sorted_mem b L s.1 w u m p

      go : ((u : Term H) → Deep b L u → Topped (walk f b u)) → (o : Option (Term H)) → b w ≡ o → (b w ≡ none) ⊎ Mem w (x ∷ L) → Topped (expand w o (λ u. walk f b u))
      go h none p m = λ v e. let q : w ≡ v = cc in ap b (sym q) ∙ p
      go h (some u) p m = h u (deep u p m)

module _ (S : Sig) where
  -- a table stands for a session
  pub record Stands (z : Table S) (s : State S) : Type 0 where
    pub rep : Rep z.bound z.rev s.res
    pub fams : z.fam ≡ s.fam
    pub revs : z.rev ≡ s.rev

  -- two lists of pairs that resolve alike
  abbrev pub Alike : (ℕ → T S) → List (Pair S) → List (Pair S) → Type 0
  Alike ρ [] [] = Unit {0}
  Alike ρ [] (q ∷ qs) = ⊥
  Alike ρ (p ∷ ps) [] = ⊥
  Alike ρ (p ∷ ps) (q ∷ qs) = (sub ρ p.0 ≡ sub ρ q.0) × (sub ρ p.1 ≡ sub ρ q.1) × Alike ρ ps qs

  alike_refl : (ρ : ℕ → T S) (ps : List (Pair S)) → Alike ρ ps ps
  alike_refl ρ [] = tt
  alike_refl ρ (p ∷ ps) = (refl, refl, alike_refl ρ ps)

  -- lists that resolve alike do so after a further substitution
  alike_sub : (σ ρ : ℕ → T S) (ps qs : List (Pair S)) → Alike ρ ps qs → Alike (λ v. sub σ (ρ v)) ps qs
  alike_sub σ ρ [] [] a = tt
  alike_sub σ ρ [] (q ∷ qs) a = a
  alike_sub σ ρ (p ∷ ps) [] a = a
  alike_sub σ ρ (p ∷ ps) (q ∷ qs) a = (more p.0 q.0 a.0, more p.1 q.1 a.1, alike_sub σ ρ ps qs a.2)
    where
      more : (t u : T S) → sub ρ t ≡ sub ρ u → sub (λ v. sub σ (ρ v)) t ≡ sub (λ v. sub σ (ρ v)) u
      more t u e = sym (sub-sub σ ρ t) ∙ ap (sub σ) e ∙ sub-sub σ ρ u

  pub record Follows (x : Turn S) (y : Step S) : Type 0 where
    pub stands : Stands x.state y.state
    pub good : x.good ≡ y.good
    pub todo : Alike y.state.res x.todo y.todo

  -- the families go by the top of a term alone
  admit_top : (ρ : ℕ → T S) (fam : ℕ → Option S.Fam) (o : Option S.Fam) (t : T S) → ((v : ℕ) → t ≡ var v → ρ v ≡ var v) → admit S fam o (sub ρ t) ≡ admit S fam o t
  unfolding admit sub
  admit_top ρ fam none t h = refl
  admit_top ρ fam (some f) (var w) h = rw (h w refl)
  admit_top ρ fam (some f) (node k nil) h = refl
  admit_top ρ fam (some f) (node k (t ▸ ts)) h = refl

  module _ (z : Table S) (s : State S) (st : Stands z s) (idem : (t : T S) → sub s.res (sub s.res t) ≡ sub s.res t) (ps qs : List (Pair S)) (alike : Alike s.res ps qs) where
    stop : (g : Bool) → Follows (record { state = z; good = g; todo = ps }) (record { state = s; good = g; todo = qs })
    stop g = record { stands = st; good = refl; todo = alike }

    answers : {k : Sort} (t : Tree S.Head k) → answer S z t ≡ sub s.res t
    answers t = resolve_right z.bound z.rev s.res st.rep t

    pub tops : (t : T S) → sub s.res (top S z t) ≡ sub s.res t
    tops t = walk_same z.bound s.res st.rep.bound z.rev t

    pub topped : (t : T S) (v : ℕ) → top S z t ≡ var v → z.bound v ≡ none
    topped t = let e = st.rep.many in walk_enough z.bound s.res st.rep.bound st.rep.order st.rep.sorted z.rev (omega arith) t (deep_all z.bound z.rev s.res st.rep t)

    tie_follows : (v : ℕ) (t : T S) → z.bound v ≡ none → ((w : ℕ) → t ≡ var w → z.bound w ≡ none) → Follows (tie S z v t ps) (assign S s v (sub s.res t) qs)
    unfolding tie assign tie₀ assign₀ tie₁ assign₁
    tie_follows v t e h = soft (any_soft S (answer S z t)) (any_soft S (sub s.res t)) (ap (λ (u : T S). any_soft S u) (answers t))
      where
        go : (o o' : Option (ℕ → Option S.Fam)) → o ≡ o' → (d : Dec (In v (answer S z t))) (d' : Dec (In v (sub s.res t)))
            → Follows (tie₁ S z v t (answer S z t) ps o d) (assign₁ S s v (sub s.res t) qs o' d')
        go none none q d d' = stop false
        go none (some g) q d d' = clash (cc)
        go (some g) none q d d' = clash (cc)
        go (some g) (some g') q (yes i) (yes j) = stop false
        go (some g) (some g') q (yes i) (no j) = absurd (j (rw (answers t) at i))
        go (some g) (some g') q (no i) (yes j) = absurd (i (rw (answers t) j))
        go (some g) (some g') q (no i) (no j) = record {
          stands = record {
            rep = rep_bind z.bound z.rev s.res st.rep v t e j;
            fams = cc;
            revs = ap suc st.revs;
          };
          good = refl;
          todo = alike_sub (put var v (sub s.res t)) s.res ps qs alike;
        }

        soft : (a b : Bool) → a ≡ b → Follows (tie₀ S z v t ps a) (assign₀ S s v (sub s.res t) qs b)
        soft true true q = stop true
        soft true false q = clash (cc)
        soft false true q = clash (cc)
        soft false false q =
            go (admit S z.fam (z.fam v) t) (admit S s.fam (s.fam v) (sub s.res t))
            (ap (λ (fam : ℕ → Option S.Fam). admit S fam (fam v) t) st.fams ∙ sym (admit_top s.res s.fam (s.fam v) t (λ w p. st.rep.unbound w (h w p))))
            (in? v (answer S z t)) (in? v (sub s.res t))

    -- the children in pairs: of both, or of neither
    abbrev Zipped : Option (List (Pair S)) → Option (List (Pair S)) → Type 0
    Zipped none none = Unit {0}
    Zipped none (some b) = ⊥
    Zipped (some a) none = ⊥
    Zipped (some a) (some b) = Alike s.res a b

    zip_follows : (ts us : Forest S.Head) (xs ys : List (Pair S)) → Alike s.res xs ys → Zipped (zip_on S ts us xs) (zip_on S (sub s.res ts) (sub s.res us) ys)
    unfolding zip_on sub
    zip_follows nil nil xs ys a = a
    zip_follows nil (u ▸ us) xs ys a = tt
    zip_follows (t ▸ ts) nil xs ys a = tt
    zip_follows (t ▸ ts) (u ▸ us) xs ys a = zip_follows ts us ((t, u) ∷ xs) ((sub s.res t, sub s.res u) ∷ ys) (sym (idem t), sym (idem u), a)

    module _ (n : S.Head → S.Head) where
      part_follows : (h k : S.Head) (ts us : Forest S.Head) (a b : Bool) (d : Dec (n h ≡ n k))
          → Follows (part S n z h k ts us ps a b d) (split S n s h k (sub s.res ts) (sub s.res us) qs a b d)
      unfolding part split part₁ split₁
      part_follows h k ts us true b d = stop true
      part_follows h k ts us false true d = stop false
      part_follows h k ts us false false (yes e) = go (zip_on S ts us ps) (zip_on S (sub s.res ts) (sub s.res us) qs) (zip_follows ts us ps qs alike)
        where
          go : (a b : Option (List (Pair S))) → Zipped a b → Follows (part₁ S z ps a) (split₁ S s qs b)
          go none none x = stop false
          go none (some b) x = absurd x
          go (some a) none x = absurd x
          go (some a) (some b) x = record { stands = st; good = refl; todo = x }
      part_follows h k ts us false false (no e) = stop false

      differ_follows : (l r : T S) → ((v : ℕ) → l ≡ var v → z.bound v ≡ none) → ((v : ℕ) → r ≡ var v → z.bound v ≡ none)
          → Follows (differ S n z l r ps) (unequal S n s (sub s.res l) (sub s.res r) qs)
      unfolding differ unequal sub
      differ_follows (var v) r a b = rw (st.rep.unbound v (a v refl)) (tie_follows v r (a v refl) b)
      differ_follows (node h ts) (var v) a b = rw (st.rep.unbound v (b v refl)) (tie_follows v (node h ts) (b v refl) a)
      differ_follows (node h ts) (node k us) a b = part_follows h k ts us (S.soft h || S.soft k) (S.rigid h) (S.head? (n h) (n k))

      match_follows : (l r a b c d : T S) → sub s.res l ≡ c → sub s.res r ≡ d → a ≡ c → b ≡ d
          → ((v : ℕ) → l ≡ var v → z.bound v ≡ none) → ((v : ℕ) → r ≡ var v → z.bound v ≡ none)
          → (x : Dec (a ≡ b)) (y : Dec (c ≡ d)) → Follows (match S n z l r a b ps x) (compare S n s c d qs y)
      unfolding match compare
      match_follows l r a b c d el er ea eb tl tr (yes x) (yes y) = stop true
      match_follows l r a b c d el er ea eb tl tr (yes x) (no y) = absurd (y (cc))
      match_follows l r a b c d el er ea eb tl tr (no x) (yes y) = absurd (x (cc))
      match_follows l r a b c d el er ea eb tl tr (no x) (no y) = rw (← el, ← er) (differ_follows l r tl tr)

      pub turn_follows : (l r l' r' : T S) → sub s.res l ≡ sub s.res l' → sub s.res r ≡ sub s.res r' → Follows (turn S n z l r ps) (step S n s l' r' qs)
      unfolding turn step
      turn_follows l r l' r' el er =
          match_follows (top S z l) (top S z r) (answer S z l) (answer S z r) (sub s.res l') (sub s.res r')
          (tops l ∙ el) (tops r ∙ er) (answers l ∙ el) (answers r ∙ er) (topped l) (topped r)
          (same? S.head? (answer S z l) (answer S z r)) (same? S.head? (sub s.res l') (sub s.res r'))

  -- THE REVISION IS THE NUMBER OF BOUND VARIABLES: none is bound that is not issued, and those bound are as many as the revision says.
  pub record Counted (N : ℕ) (z : Table S) : Type 0 where
    pub far : (v : ℕ) → N ≤ v → z.bound v ≡ none
    pub number : taken N z.bound ≡ z.rev

  module _ (N : ℕ) (z : Table S) (counted : Counted N z) (ps : List (Pair S)) where
    tie_counted : (v : ℕ) (t : T S) → v < N → z.bound v ≡ none → Counted N (tie S z v t ps).state
    unfolding tie tie₀ tie₁
    tie_counted v t l e = soft (any_soft S (answer S z t))
      where
        go : (o : Option (ℕ → Option S.Fam)) (d : Dec (In v (answer S z t))) → Counted N (tie₁ S z v t (answer S z t) ps o d).state
        go none d = counted
        go (some g) (yes i) = counted
        go (some g) (no i) = record {
          far = λ w m. put_other z.bound v (some t) w (λ q. omega arith) ∙ counted.far w m;
          number = taken_put N z.bound v t l e ∙ ap suc counted.number;
        }

        soft : (b : Bool) → Counted N (tie₀ S z v t ps b).state
        soft true = counted
        soft false = go (admit S z.fam (z.fam v) t) (in? v (answer S z t))

    module _ (n : S.Head → S.Head) where
      part_counted : (h k : S.Head) (ts us : Forest S.Head) (a b : Bool) (d : Dec (n h ≡ n k)) → Counted N (part S n z h k ts us ps a b d).state
      unfolding part part₁
      part_counted h k ts us true b d = counted
      part_counted h k ts us false true d = counted
      part_counted h k ts us false false (yes e) = go (zip_on S ts us ps)
        where
          go : (o : Option (List (Pair S))) → Counted N (part₁ S z ps o).state
          go none = counted
          go (some qs) = counted
      part_counted h k ts us false false (no e) = counted

      differ_counted : (l r : T S) → ((v : ℕ) → l ≡ var v → (v < N) × (z.bound v ≡ none)) → ((v : ℕ) → r ≡ var v → (v < N) × (z.bound v ≡ none)) → Counted N (differ S n z l r ps).state
      unfolding differ
      differ_counted (var v) r a b = tie_counted v r (a v refl).0 (a v refl).1
      differ_counted (node h ts) (var v) a b = tie_counted v (node h ts) (b v refl).0 (b v refl).1
      differ_counted (node h ts) (node k us) a b = part_counted h k ts us (S.soft h || S.soft k) (S.rigid h) (S.head? (n h) (n k))

      pub turn_counted : (l r : T S) → ((v : ℕ) → top S z l ≡ var v → (v < N) × (z.bound v ≡ none)) → ((v : ℕ) → top S z r ≡ var v → (v < N) × (z.bound v ≡ none)) → Counted N (turn S n z l r ps).state
      unfolding turn match
      turn_counted l r a b = go (same? S.head? (answer S z l) (answer S z r))
        where
          go : (d : Dec (answer S z l ≡ answer S z r)) → Counted N (match S n z (top S z l) (top S z r) (answer S z l) (answer S z r) ps d).state
          go (yes e) = counted
          go (no e) = differ_counted (top S z l) (top S z r) a b

  module _ (n : S.Head → S.Head) (respects : (f : S.Fam) (h k : S.Head) → n h ≡ n k → S.admits f h ≡ S.admits f k) where
    -- the two solvers end alike
    abbrev pub Ends : ℕ → Out (Table S) → Out (State S) → Type 0
    Ends N (cancelled z) (cancelled s) = Stands z s × Counted N z × Fine S N s
    Ends N (cancelled z) (done s c) = ⊥
    Ends N (done z b) (cancelled s) = ⊥
    Ends N (done z b) (done s c) = Stands z s × Counted N z × Fine S N s × (b ≡ c)

    pub idem_sub : (N : ℕ) (s : State S) → Fine S N s → (t : T S) → sub s.res (sub s.res t) ≡ sub s.res t
    idem_sub N s f t = sub_fix s.res (sub s.res t) (λ w i. let r = in_sub w s.res t i in f.idem r.0 w r.2)

    -- the top of an issued term is issued and unbound, where it is a variable
    pub reach : (N : ℕ) (z : Table S) (s : State S) → Stands z s → Fine S N s → (t u : T S) → sub s.res t ≡ sub s.res u → ((w : ℕ) → In w u → w < N)
        → (v : ℕ) → top S z t ≡ var v → (v < N) × (z.bound v ≡ none)
    unfolding sub
    reach N z s st f t u e₁ h v e₂ =
        let free : z.bound v ≡ none = topped z s st (idem_sub N s f) [] [] tt t v e₂ in
        let q₁ : var v ≡ sub s.res u = sym (st.rep.unbound v free) ∙ ap (sub s.res) (sym e₂) ∙ tops z s st (idem_sub N s f) [] [] tt t ∙ e₁ in
        let i : In v (sub s.res u) = rw (← q₁) refl in
        let r₁ = in_sub v s.res u i in
        (f.within r₁.0 v (h r₁.0 r₁.1) r₁.2, free)

    pub settles_follows : (k N : ℕ) (z : Table S) (s : State S) (ok ok' : Bool) (ps qs : List (Pair S)) → Stands z s → Counted N z → ok ≡ ok' → Fine S N s → Below S N qs → Alike s.res ps qs
        → Ends N (settles S n k z ok ps) (constrain S n k s ok' qs)
    unfolding settles constrain sub
    settles_follows zero N z s ok ok' [] [] st ct e f b a = (st, ct, f, e)
    settles_follows zero N z s ok ok' [] (q ∷ qs) st ct e f b a = absurd a
    settles_follows zero N z s ok ok' (p ∷ ps) [] st ct e f b a = absurd a
    settles_follows zero N z s ok ok' (p ∷ ps) (q ∷ qs) st ct e f b a = (st, ct, f)
    settles_follows (suc k) N z s ok ok' [] [] st ct e f b a = (st, ct, f, e)
    settles_follows (suc k) N z s ok ok' [] (q ∷ qs) st ct e f b a = absurd a
    settles_follows (suc k) N z s ok ok' (p ∷ ps) [] st ct e f b a = absurd a
    settles_follows (suc k) N z s ok ok' (p ∷ ps) (q ∷ qs) st ct e f b a =
        let x = turn S n z p.0 p.1 ps in
        let y = step S n s q.0 q.1 qs in
        let g : Follows x y = turn_follows z s st (idem_sub N s f) ps qs a.2 n p.0 p.1 q.0 q.1 a.0 a.1 in
        let r = step_right S n respects N s f qs b.2 q.0 q.1 b.0 b.1 in
        settles_follows k N x.state y.state (ok && x.good) (ok' && y.good) x.todo y.todo
        g.stands (turn_counted N z ct ps n p.0 p.1 (reach N z s st f p.0 q.0 a.0 b.0) (reach N z s st f p.1 q.1 a.1 b.1)) (ap₂ ◌&&◌ e g.good) r.fine r.below g.todo

    pub counted_more : (N : ℕ) (z : Table S) → Counted N z → Counted (suc N) z
    unfolding taken tally
    counted_more N z c = record {
      far = λ v l. c.far v (omega arith);
      number = let e : tally (z.bound N) ≡ 0 = ap tally (c.far N (omega arith)) in let h = c.number in omega arith;
    }

    -- a run with another session in it
    abbrev pub over : {X Y : Type 0} → Run S X → Y → Run S Y
    over x s = record { state = s; count = x.count; asked = x.asked; posed = x.posed; wrong = x.wrong; cut = x.cut }

    settle_follows : (x : Run S (Table S)) (s : State S) (l r : T S) (o : Out (Table S)) (o' : Out (State S)) → Ends x.count o o'
        → (s' : State S) × (settle S (over x s) l r o' ≡ over (settle S x l r o) s') × Stands (settle S x l r o).state s' × Counted x.count (settle S x l r o).state
    unfolding settle
    settle_follows x s l r (cancelled z) (cancelled s') e = (s', refl, e.0, e.1)
    settle_follows x s l r (cancelled z) (done s' c) e = absurd e
    settle_follows x s l r (done z b) (cancelled s') e = absurd e
    settle_follows x s l r (done z b) (done s' c) e = (s', rw e.3 refl, e.0, e.1)

    serve_table : Run S (Table S) → Order S → Run S (Table S)
    serve_table x o = serve S (table_asks S) (table_poses S n) x o

    serve_follows : (x : Run S (Table S)) (s : State S) → Stands x.state s → Counted x.count x.state → Inv S n respects (over x s) → (o : Order S)
        → (s' : State S) × (serve S (asks S) (poses S n) (over x s) o ≡ over (serve_table x o) s')
        × Stands (serve_table x o).state s' × Counted (serve_table x o).count (serve_table x o).state
    unfolding serve posing serve_table settle
    serve_follows x s st ct i issue = (s, refl, st, counted_more x.count x.state ct)
    serve_follows x s st ct i (ask f) = (
      asks S s x.count f,
      refl,
      record { rep = st.rep; fams = ap (λ (g : ℕ → Option S.Fam). put g x.count (some f)) st.fams; revs = st.revs },
      record { far = λ v l. ct.far v (omega arith); number = (counted_more x.count x.state ct).number },
    )
    serve_follows x s st ct i (pose k l r) = go (issued? x.count l) (issued? x.count r)
      where
        same_count : (o : Out (Table S)) → (settle S x l r o).count ≡ x.count
        same_count (cancelled z) = refl
        same_count (done z b) = refl

        go : (a : Dec (Issued x.count l)) (b : Dec (Issued x.count r))
            → (s' : State S) × (posing S (asks S) (poses S n) (over x s) k l r a b ≡ over (posing S (table_asks S) (table_poses S n) x k l r a b) s')
            × Stands (posing S (table_asks S) (table_poses S n) x k l r a b).state s'
            × Counted (posing S (table_asks S) (table_poses S n) x k l r a b).count (posing S (table_asks S) (table_poses S n) x k l r a b).state
        go (yes a) (yes b) =
            let o = table_poses S n k x.state l r in
            let h = settle_follows x s l r o (poses S n k s l r)
            (settles_follows k x.count x.state s true true ((l, r) ∷ []) ((l, r) ∷ []) st ct refl i.fine (a, b, tt) (refl, refl, tt)) in
            (h.0, h.1, h.2, subst (λ (N : ℕ). Counted N (settle S x l r o).state) (sym (same_count o)) h.3)
        go (yes a) (no b) = (s, refl, st, ct)
        go (no a) d = (s, refl, st, ct)
    serve_follows x s st ct i other = (s, refl, st, ct)

    abbrev Led : List (Order S) → Run S (Table S) → State S → Type 0
    Led os x s = (s' : State S) × (run S (asks S) (poses S n) (over x s) os ≡ over (run S (table_asks S) (table_poses S n) x os) s')
        × Stands (run S (table_asks S) (table_poses S n) x os).state s'
        × Counted (run S (table_asks S) (table_poses S n) x os).count (run S (table_asks S) (table_poses S n) x os).state

    run_follows : (os : List (Order S)) (x : Run S (Table S)) (s : State S) → Stands x.state s → Counted x.count x.state → Inv S n respects (over x s) → Led os x s
    unfolding run serve_table
    run_follows [] x s st ct i = (s, refl, st, ct)
    run_follows (o ∷ os) x s st ct i =
        let a = serve_follows x s st ct i o in
        go a.0 a.1 (run_follows os (serve_table x o) a.0 a.2 a.3 (rw a.1 at (serve_inv S n respects (over x s) i o)))
      where
        go : (s₁ : State S) → serve S (asks S) (poses S n) (over x s) o ≡ over (serve_table x o) s₁ → Led os (serve_table x o) s₁ → Led (o ∷ os) x s
        go s₁ e b = (b.0, ap (λ (y : Run S (State S)). run S (asks S) (poses S n) y os) e ∙ b.1, b.2, b.3)

    -- where the list leads, over a table
    abbrev pub table_end : List (Order S) → Run S (Table S)
    table_end os = run S (table_asks S) (table_poses S n) (fresh S (table_begin S)) os

    led : (os : List (Order S)) → Led os (fresh S (table_begin S)) (begin S)
    unfolding taken
    led os = run_follows os (fresh S (table_begin S)) (begin S)
        (record { rep = rep_fresh; fams = refl; revs = refl })
        (record { far = λ v l. refl; number = refl })
        (fresh_inv S n respects)

    -- The run over a table is one over substitutions; what a variable resolves to there is what order 5 answers.
    pub table_means : (os : List (Order S))
        → (s : State S) × (end S n respects os ≡ over (table_end os) s) × (s.res ≡ (λ v. answer S (table_end os).state (var v)))
    unfolding sub
    table_means os =
        let a = led os in
        let z = (table_end os).state in
        (a.0, a.1, fun_ext (λ v. sym (resolve_right z.bound z.rev a.0.res a.2.rep (var v))))

    -- DEMAND 3, OF THE SOLVER OVER A TABLE, for every list of orders of which no pair was cancelled and whose pairs are plain.
    -- What a variable resolves to is what order 5 answers.
    pub table_demand_3 : (os : List (Order S)) → Premises S n respects (table_end os) → Demand3 S n (table_end os) (λ v. answer S (table_end os).state (var v))
    table_demand_3 os c =
        let a = table_means os in
        let d = demand_of S n respects (over (table_end os) a.0) (rw a.1 at (run_inv S n respects (fresh S (begin S)) (fresh_inv S n respects) os)) c in
        let d' : Demand3 S n (over {Y = State S} (table_end os) a.0) (λ v. answer S (table_end os).state (var v)) =
        subst (λ (ρ : ℕ → T S). Demand3 S n (over {Y = State S} (table_end os) a.0) ρ) a.2 d in
        record { incompatible = d'.incompatible; assignments = d'.assignments; themselves = d'.themselves }

    -- The revision is the number of bound variables, after every list of orders (cancelled and unplain pairs too).
    pub table_revision : (os : List (Order S)) → Counted (table_end os).count (table_end os).state
    table_revision os = (led os).3

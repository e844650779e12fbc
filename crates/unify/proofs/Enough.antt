-- The loop ends by itself: for every session and every pending pairs some number of checks is enough, and no larger one is cancelled.
-- The measure: the unbound variables that are left, and below that the size of the pending pairs, resolved.
use mathlib.Core.Path.{◌≡◌, refl, ap}
use mathlib.Core.Logic.{◌⊎◌, inl, inr}
use mathlib.Core.Bool.{Bool, true, false, ◌&&◌, ◌||◌}
use mathlib.Core.Option.{Option, none, some}
use mathlib.Core.List.{List, [], ◌∷◌}
use Prim.Native.Nat.{ℕ, zero, suc, ◌+◌, ◌≤◌, ◌<◌}
use native.Mathlib.Omega.{arith}
use Rattle.unify.specs.Term.{var, node, nil, ◌▸◌, Term, Forest, size, sub, In, in?, same?, clash}
use Rattle.unify.specs.Solver.{Sig, T, Pair, State, Step, Out, cancelled, done}
use Rattle.unify.specs.Solver.{admit, any_soft, assign₁, assign₀, assign, zip_on, split₁, split, unequal, compare, step}
use Rattle.unify.specs.Meaning.{Fine, Below}
use Rattle.unify.proofs.Sound.{step_right}
use Rattle.unify.specs.Table.{Table, Turn, turn, settles, taken, tally}
use Rattle.unify.proofs.Refine.{Stands, Alike, Counted, turn_follows, turn_counted, reach, idem_sub}

size_pos : {H : Type 0} (t : Term H) → 1 ≤ size t
unfolding size
size_pos (var v) = omega arith
size_pos (node h ts) = omega arith

taken_le : {A : Type 0} (N : ℕ) (b : ℕ → Option A) → taken N b ≤ N
unfolding taken tally
taken_le zero b = omega arith
taken_le {A} (suc N) b = go (b N) (taken_le N b)
  where
    go : (o : Option A) → taken N b ≤ N → tally o + taken N b ≤ suc N
    go none h = omega arith
    go (some a) h = omega arith

module _ (S : Sig) where
  -- the size of pending pairs, resolved
  weight : (ℕ → T S) → List (Pair S) → ℕ
  weight ρ [] = 0
  weight ρ (p ∷ ps) = size (sub ρ p.0) + size (sub ρ p.1) + weight ρ ps

  zip_weight : (ρ : ℕ → T S) (ts us : Forest S.Head) (qs rs : List (Pair S)) → zip_on S ts us qs ≡ some rs
      → weight ρ rs ≡ size (sub ρ ts) + size (sub ρ us) + weight ρ qs
  unfolding zip_on weight sub size
  zip_weight ρ nil nil qs rs e = let f : qs ≡ rs = cc in let g : weight ρ qs ≡ weight ρ rs = ap (weight ρ) f in omega arith
  zip_weight ρ nil (u ▸ us) qs rs e = clash (cc)
  zip_weight ρ (t ▸ ts) nil qs rs e = clash (cc)
  zip_weight ρ (t ▸ ts) (u ▸ us) qs rs e = let h = zip_weight ρ ts us ((t, u) ∷ qs) rs e in omega arith

  -- a step binds a variable, or makes the pending pairs smaller
  Lighter : State S → ℕ → Step S → Type 0
  Lighter s w y = ((y.state.rev ≡ s.rev) × (weight y.state.res y.todo < w)) ⊎ (y.state.rev ≡ suc s.rev)

  module _ (s : State S) (ps : List (Pair S)) (w : ℕ) (more : weight s.res ps < w) where
    stay : (g : Bool) → Lighter s w (record { state = s; good = g; todo = ps })
    unfolding Lighter
    stay g = inl (refl, more)

    assign_lighter : (v : ℕ) (t : T S) → Lighter s w (assign S s v t ps)
    unfolding assign assign₀ assign₁ Lighter
    assign_lighter v t = soft (any_soft S t)
      where
        go : (o : Option (ℕ → Option S.Fam)) (d : Dec (In v t)) → Lighter s w (assign₁ S s v t ps o d)
        go none d = stay false
        go (some f) (yes i) = stay false
        go (some f) (no i) = inr refl

        soft : (b : Bool) → Lighter s w (assign₀ S s v t ps b)
        soft true = stay true
        soft false = go (admit S s.fam (s.fam v) t) (in? v t)

    module _ (n : S.Head → S.Head) where
      split_lighter : (h k : S.Head) (ts us : Forest S.Head) → size (sub s.res ts) + size (sub s.res us) + weight s.res ps < w
          → (a b : Bool) (d : Dec (n h ≡ n k)) → Lighter s w (split S n s h k ts us ps a b d)
      unfolding split split₁ Lighter
      split_lighter h k ts us l true b d = stay true
      split_lighter h k ts us l false true d = stay false
      split_lighter h k ts us l false false (yes d) = go (zip_on S ts us ps) refl
        where
          go : (o : Option (List (Pair S))) → zip_on S ts us ps ≡ o → Lighter s w (split₁ S s ps o)
          go none e = stay false
          go (some rs) e = let q = zip_weight s.res ts us ps rs e in inl (refl, omega arith)
      split_lighter h k ts us l false false (no d) = stay false

      unequal_lighter : (l r : T S) → sub s.res l ≡ l → sub s.res r ≡ r → size l + size r + weight s.res ps ≤ w → Lighter s w (unequal S n s l r ps)
      unfolding unequal sub size
      unequal_lighter (var v) r el er m = assign_lighter v r
      unequal_lighter (node h ts) (var v) el er m = assign_lighter v (node h ts)
      unequal_lighter (node h ts) (node k us) el er m =
          let a : sub s.res ts ≡ ts = cc in
          let b : sub s.res us ≡ us = cc in
          let a' : size (sub s.res ts) ≡ size ts = ap size a in
          let b' : size (sub s.res us) ≡ size us = ap size b in
          split_lighter h k ts us (omega arith) (S.soft h || S.soft k) (S.rigid h) (S.head? (n h) (n k))

      compare_lighter : (l r : T S) → sub s.res l ≡ l → sub s.res r ≡ r → size l + size r + weight s.res ps ≤ w → (d : Dec (l ≡ r)) → Lighter s w (compare S n s l r ps d)
      unfolding compare
      compare_lighter l r el er m (yes d) = stay true
      compare_lighter l r el er m (no d) = unequal_lighter l r el er m

  module _ (n : S.Head → S.Head) (respects : (f : S.Fam) (h k : S.Head) → n h ≡ n k → S.admits f h ≡ S.admits f k) where
    step_lighter : (N : ℕ) (s : State S) → Fine S N s → (p : Pair S) (ps : List (Pair S)) → Lighter s (weight s.res (p ∷ ps)) (step S n s p.0 p.1 ps)
    unfolding step weight
    step_lighter N s f p ps =
        let l = sub s.res p.0 in
        let r = sub s.res p.1 in
        let a = size_pos l in
        compare_lighter s ps (weight s.res (p ∷ ps)) (omega arith) n l r (idem_sub S n respects N s f p.0) (idem_sub S n respects N s f p.1) (omega arith) (same? S.head? l r)

    abbrev pub Finished : Out (Table S) → Type 0
    Finished (cancelled z) = ⊥
    Finished (done z b) = Unit {0}

    -- a session, over tables and over substitutions, with its pending pairs
    record Going (N : ℕ) (z : Table S) (s : State S) (ps qs : List (Pair S)) : Type 0 where
      stands : Stands S z s
      counted : Counted S N z
      fine : Fine S N s
      below : Below S N qs
      alike : Alike S s.res ps qs

    abbrev pub Ends-by_itself : Table S → Bool → List (Pair S) → Type 0
    Ends-by_itself z ok ps = (K : ℕ) × ((k : ℕ) → K ≤ k → Finished (settles S n k z ok ps))

    abbrev Left : ℕ → ℕ → Type 0
    Left N u = (z : Table S) (s : State S) (ok : Bool) (ps qs : List (Pair S)) → Going N z s ps qs → N < z.rev + u → Ends-by_itself z ok ps

    nothing : (z : Table S) (ok : Bool) → Ends-by_itself z ok []
    unfolding settles
    nothing z ok = (0, λ k. elim k as (λ k. 0 ≤ k → Finished (settles S n k z ok [])) [ zero ↦ λ l. tt | suc k ↦ λ l. tt ])

    one_more : (z : Table S) (ok : Bool) (p : Pair S) (ps : List (Pair S))
        → Ends-by_itself (turn S n z p.0 p.1 ps).state (ok && (turn S n z p.0 p.1 ps).good) (turn S n z p.0 p.1 ps).todo → Ends-by_itself z ok (p ∷ ps)
    unfolding settles
    one_more z ok p ps e = (suc e.0, λ k. elim k as (λ k. suc e.0 ≤ k → Finished (settles S n k z ok (p ∷ ps))) [ zero ↦ λ l. absurd (omega arith) | suc k ↦ λ l. e.1 k (omega arith) ])

    going_on : (N : ℕ) (z : Table S) (s : State S) (p q : Pair S) (ps qs : List (Pair S)) → Going N z s (p ∷ ps) (q ∷ qs)
        → Going N (turn S n z p.0 p.1 ps).state (step S n s q.0 q.1 qs).state (turn S n z p.0 p.1 ps).todo (step S n s q.0 q.1 qs).todo
    going_on N z s p q ps qs g =
        let f = g.fine in
        let st = g.stands in
        let a = g.alike in
        let b = g.below in
        let t = turn_follows S z s st (idem_sub S n respects N s f) ps qs a.2 n p.0 p.1 q.0 q.1 a.0 a.1 in
        let r = step_right S n respects N s f qs b.2 q.0 q.1 b.0 b.1 in
        record {
          stands = t.stands;
          counted = turn_counted S N z g.counted ps n p.0 p.1
              (reach S n respects N z s st f p.0 q.0 a.0 b.0) (reach S n respects N z s st f p.1 q.1 a.1 b.1);
          fine = r.fine;
          below = r.below;
          alike = t.todo;
        }

    -- with one binding less to make, and w for the size of what is pending
    inner : (N u : ℕ) → Left N u → (w : ℕ) (z : Table S) (s : State S) (ok : Bool) (ps qs : List (Pair S)) → Going N z s ps qs → N < z.rev + suc u → weight s.res qs < w → Ends-by_itself z ok ps
    unfolding Lighter
    inner N u h zero z s ok ps qs g l m = absurd (omega arith)
    inner N u h (suc w) z s ok [] qs g l m = nothing z ok
    inner N u h (suc w) z s ok (p ∷ ps) [] g l m = absurd g.alike
    inner N u h (suc w) z s ok (p ∷ ps) (q ∷ qs) g l m =
        one_more z ok p ps (go (λ k₁ k₂. inner N u h w x.state y.state (ok && x.good) x.todo y.todo g' k₁ k₂) (step_lighter N s g.fine q qs))
      where
        x : Turn S
        x = turn S n z p.0 p.1 ps

        y : Step S
        y = step S n s q.0 q.1 qs

        g' : Going N x.state y.state x.todo y.todo
        g' = going_on N z s p q ps qs g

        go : (N < x.state.rev + suc u → weight y.state.res y.todo < w → Ends-by_itself x.state (ok && x.good) x.todo)
            → Lighter s (weight s.res (q ∷ qs)) y → Ends-by_itself x.state (ok && x.good) x.todo
        go i (inl e) =
            let a = g'.stands.revs in
            let b = g.stands.revs in
            let c = e.0 in
            let d = e.1 in
            i (omega arith) (omega arith)
        go i (inr e) =
            let a = g'.stands.revs in
            let b = g.stands.revs in
            h x.state y.state (ok && x.good) x.todo y.todo g' (omega arith)

    enough : (N u : ℕ) → Left N u
    enough N zero z s ok ps qs g l = absurd (let a = taken_le N z.bound in let b = g.counted.number in omega arith)
    enough N (suc u) z s ok ps qs g l = inner N u (enough N u) (suc (weight s.res qs)) z s ok ps qs g l (omega arith)

    -- EVERY PAIR IS SETTLED with enough checks, in every session that is in order (`Whole.sheet_sane`: that is after every list of orders).
    pub settles_enough : (N : ℕ) (z : Table S) (s : State S) → Stands S z s → Counted S N z → Fine S N s
        → (l r : T S) → ((v : ℕ) → In v l → v < N) → ((v : ℕ) → In v r → v < N) → Ends-by_itself z true ((l, r) ∷ [])
    settles_enough N z s st c f l r bl br =
        enough N (suc N) z s true ((l, r) ∷ []) ((l, r) ∷ [])
        (record { stands = st; counted = c; fine = f; below = (bl, br, tt); alike = (refl, refl, tt) }) (omega arith)

-- Pairs posed again. An order 4 that makes no binding leaves the table as it was. A pair whose two terms, as they resolve where it is posed, hold no recovery
-- term, and that is compatible: posed again, at once or after other orders, with whatever checks, it binds nothing and is not incompatible; with as many checks
-- as it took, or more, it is compatible.
use mathlib.Core.Path.{◌≡◌, refl, ap, ap₂, sym, ◌∙◌, subst}
use mathlib.Core.Logic.{◌⊎◌, inl, inr}
use mathlib.Core.Bool.{Bool, true, false, ◌&&◌, ◌||◌}
use mathlib.Core.Option.{Option, none, some}
use mathlib.Core.List.{List, [], ◌∷◌}
use Prim.Native.Nat.{ℕ, zero, suc, ◌≤◌, ◌<◌}
use native.Mathlib.Decide.{ℕ_discrete}
use native.Mathlib.Omega.{arith}
use Rattle.unify.specs.Term.{Sort, Tree, var, node, nil, ◌▸◌, Forest, sub, In, in?, same?, clash, sub_ext, sub-sub, sub_fix, in_sub, sim_of_eq}
use Rattle.unify.specs.Solver.{Sig, T, Pair, State, Step, Out, cancelled, done, put, put_same, put_other}
use Rattle.unify.specs.Solver.{admit, any_soft, assign₁, assign₀, assign, zip_on, split₁, split, unequal, compare, step, constrain, poses}
use Rattle.unify.specs.Meaning.{Fine, Below}
use Rattle.unify.proofs.Sound.{step_right, Grows, After, constrain_right}
use Rattle.unify.proofs.Lazy.{resolve_right}
use Rattle.unify.proofs.Robinson.{eq_of_sim}
use Rattle.unify.specs.Expansion.{expand, resolve}
use Rattle.unify.specs.Table.{Table, answer, top, tie₁, tie₀, tie, part₁, part, differ, match, turn, settles, table_poses}
use Rattle.unify.proofs.Refine.{Stands, Counted, Ends, settles_follows}

module _ (S : Sig) where
  -- ---- no binding, nothing changed

  abbrev pub Quiet : Table S → Table S → Type 0
  Quiet z z' = (z.rev ≤ z'.rev) × (z'.rev ≡ z.rev → z' ≡ z)

  still : (z : Table S) → Quiet z z
  still z = (omega arith, λ e. refl)

  quiet_trans : (z z' z'' : Table S) → Quiet z z' → Quiet z' z'' → Quiet z z''
  quiet_trans z z' z'' a b =
      let p = a.0 in
      let q = b.0 in
      (omega arith, λ e. b.1 (omega arith) ∙ a.1 (omega arith))

  module _ (z : Table S) (ps : List (Pair S)) where
    tie_quiet : (v : ℕ) (t : T S) → Quiet z (tie S z v t ps).state
    unfolding tie tie₀ tie₁
    tie_quiet v t = soft (any_soft S (answer S z t))
      where
        go : (o : Option (ℕ → Option S.Fam)) (d : Dec (In v (answer S z t))) → Quiet z (tie₁ S z v t (answer S z t) ps o d).state
        go none d = still z
        go (some f) (yes i) = still z
        go (some f) (no i) = (omega arith, λ e. absurd (omega arith))

        soft : (b : Bool) → Quiet z (tie₀ S z v t ps b).state
        soft true = still z
        soft false = go (admit S z.fam (z.fam v) t) (in? v (answer S z t))

    module _ (n : S.Head → S.Head) where
      part_quiet : (h k : S.Head) (ts us : Forest S.Head) (b c : Bool) (d : Dec (n h ≡ n k)) → Quiet z (part S n z h k ts us ps b c d).state
      unfolding part part₁
      part_quiet h k ts us true c d = still z
      part_quiet h k ts us false true d = still z
      part_quiet h k ts us false false (yes e) = go (zip_on S ts us ps)
        where
          go : (o : Option (List (Pair S))) → Quiet z (part₁ S z ps o).state
          go none = still z
          go (some qs) = still z
      part_quiet h k ts us false false (no e) = still z

      turn_quiet : (l r : T S) → Quiet z (turn S n z l r ps).state
      unfolding turn match differ
      turn_quiet l r = go (same? S.head? (answer S z l) (answer S z r)) (top S z l) (top S z r)
        where
          go : (d : Dec (answer S z l ≡ answer S z r)) (t u : T S) → Quiet z (match S n z t u (answer S z l) (answer S z r) ps d).state
          go (yes e) t u = still z
          go (no e) (var v) u = tie_quiet v u
          go (no e) (node h ts) (var v) = tie_quiet v (node h ts)
          go (no e) (node h ts) (node k us) = part_quiet h k ts us (S.soft h || S.soft k) (S.rigid h) (S.head? (n h) (n k))

  abbrev pub outcome : Out (Table S) → Table S
  outcome (cancelled z) = z
  outcome (done z b) = z

  -- AN ORDER 4 THAT MAKES NO BINDING, however it ends, LEAVES EVERYTHING AS IT WAS.
  pub settles_quiet : (n : S.Head → S.Head) (k : ℕ) (z : Table S) (ok : Bool) (ps : List (Pair S)) → Quiet z (outcome (settles S n k z ok ps))
  unfolding settles
  settles_quiet n zero z ok [] = still z
  settles_quiet n zero z ok (p ∷ ps) = still z
  settles_quiet n (suc k) z ok [] = still z
  settles_quiet n (suc k) z ok (p ∷ ps) =
      let x = turn S n z p.0 p.1 ps in
      quiet_trans z x.state (outcome (settles S n k x.state (ok && x.good) x.todo)) (turn_quiet z ps n p.0 p.1) (settles_quiet n k x.state (ok && x.good) x.todo)

  -- ---- terms without recovery terms

  abbrev pub Hard : {k : Sort} → Tree S.Head k → Type 0
  Hard t = any_soft S t ≡ false

  or-false : (a b : Bool) → a ≡ false → b ≡ false → (a || b) ≡ false
  or-false a b p q = cc

  or_both : (a b : Bool) → (a || b) ≡ false → (a ≡ false) × (b ≡ false)
  or_both true b e = clash (cc)
  or_both false b e = (refl, e)

  hard_sub : (θ : ℕ → T S) → ((v : ℕ) → Hard (θ v)) → {k : Sort} (t : Tree S.Head k) → Hard t → Hard (sub θ t)
  unfolding sub any_soft
  hard_sub θ h (var v) p = h v
  hard_sub θ h (node k ts) p = let q = or_both (S.soft k) (any_soft S ts) p in or-false (S.soft k) (any_soft S (sub θ ts)) q.0 (hard_sub θ h ts q.1)
  hard_sub θ h nil p = p
  hard_sub θ h (t ▸ ts) p =
      let q = or_both (any_soft S t) (any_soft S ts) p in
      or-false (any_soft S (sub θ t)) (any_soft S (sub θ ts)) (hard_sub θ h t q.0) (hard_sub θ h ts q.1)

  -- of pending pairs, resolved by ρ
  abbrev HardPairs : (ℕ → T S) → List (Pair S) → Type 0
  HardPairs ρ [] = Unit {0}
  HardPairs ρ (p ∷ ps) = Hard (sub ρ p.0) × Hard (sub ρ p.1) × HardPairs ρ ps

  -- ---- pairs of one list that are pairs of another, in their order, up to what they resolve to

  abbrev Covers : (ℕ → T S) → List (Pair S) → List (Pair S) → Type 0
  Covers ρ ps [] = Unit {0}
  Covers ρ [] (q ∷ qs) = ⊥
  Covers ρ (p ∷ ps) (q ∷ qs) = ((sub ρ p.0 ≡ sub ρ q.0) × (sub ρ p.1 ≡ sub ρ q.1) × Covers ρ ps qs) ⊎ Covers ρ ps (q ∷ qs)

  covers_all : (ρ : ℕ → T S) (ps : List (Pair S)) → Covers ρ ps ps
  covers_all ρ [] = tt
  covers_all ρ (p ∷ ps) = inl (refl, refl, covers_all ρ ps)

  -- one pair more
  covers_more : (ρ : ℕ → T S) (p : Pair S) (ps qs : List (Pair S)) → Covers ρ ps qs → Covers ρ (p ∷ ps) qs
  covers_more ρ p ps [] c = tt
  covers_more ρ p ps (q ∷ qs) c = inr c

  -- the children in pairs: they cover what was covered, and the same children once more resolved
  abbrev Zipped : (ℕ → T S) → List (Pair S) → Option (List (Pair S)) → Option (List (Pair S)) → Type 0
  Zipped ρ qs none none = Unit {0}
  Zipped ρ qs none (some b) = ⊥
  Zipped ρ qs (some a) none = ⊥
  Zipped ρ qs (some a) (some b) = Covers ρ a qs × Covers ρ a b

  module _ (ρ : ℕ → T S) (idem : (t : T S) → sub ρ (sub ρ t) ≡ sub ρ t) where
    zip_covers : (ts us : Forest S.Head) (ps qs rs : List (Pair S)) → Covers ρ ps qs → Covers ρ ps rs → Zipped ρ rs (zip_on S ts us ps) (zip_on S (sub ρ ts) (sub ρ us) qs)
    unfolding zip_on sub
    zip_covers nil nil ps qs rs c d = (d, c)
    zip_covers nil (u ▸ us) ps qs rs c d = tt
    zip_covers (t ▸ ts) nil ps qs rs c d = tt
    zip_covers (t ▸ ts) (u ▸ us) ps qs rs c d =
        zip_covers ts us ((t, u) ∷ ps) ((sub ρ t, sub ρ u) ∷ qs) rs (inl (sym (idem t), sym (idem u), c)) (covers_more ρ (t, u) ps rs d)

  module _ (n : S.Head → S.Head) where
    -- ---- one check of the first time, on the resolved terms l and r, with ps pending

    module _ (s : State S) (ps : List (Pair S)) where
      -- what is pending resolves to terms without recovery terms, and so does every term that did
      Keeps : Step S → Type 0
      Keeps x = HardPairs s.res ps → HardPairs x.state.res x.todo × ((t : T S) → Hard (sub s.res t) → Hard (sub x.state.res t))

      assign_keeps : (v : ℕ) (t : T S) → Hard t → Keeps (assign S s v t ps)
      unfolding assign assign₀ assign₁ Keeps any_soft
      assign_keeps v t p = soft (any_soft S t)
        where
          σ_hard : (y : ℕ) → Hard (put var v t y)
          σ_hard y = go (ℕ_discrete y v)
            where
              go : Dec (y ≡ v) → Hard (put var v t y)
              go (yes e) = ap (λ (x : T S). any_soft S x) (ap (put var v t) e ∙ put_same var v t) ∙ p
              go (no e) = ap (λ (x : T S). any_soft S x) (put_other var v t y e)

          carries : (w : T S) → Hard (sub s.res w) → Hard (sub (λ u. sub (put var v t) (s.res u)) w)
          carries w c = ap (λ (x : T S). any_soft S x) (sym (sub-sub (put var v t) s.res w)) ∙ hard_sub (put var v t) σ_hard (sub s.res w) c

          all : (qs : List (Pair S)) → HardPairs s.res qs → HardPairs (λ u. sub (put var v t) (s.res u)) qs
          all [] c = tt
          all (q ∷ qs) c = (carries q.0 c.0, carries q.1 c.1, all qs c.2)

          go : (o : Option (ℕ → Option S.Fam)) (d : Dec (In v t)) → Keeps (assign₁ S s v t ps o d)
          go none d = λ c. (c, λ w x. x)
          go (some f) (yes i) = λ c. (c, λ w x. x)
          go (some f) (no i) = λ c. (all ps c, carries)

          soft : (b : Bool) → Keeps (assign₀ S s v t ps b)
          soft true = λ c. (c, λ w x. x)
          soft false = go (admit S s.fam (s.fam v) t) (in? v t)

      zip_hard : (ts us : Forest S.Head) (qs : List (Pair S)) → Hard (sub s.res ts) → Hard (sub s.res us) → HardPairs s.res qs
          → (o : Option (List (Pair S))) → zip_on S ts us qs ≡ o → HardPairs s.res ps → HardPairs s.res (split₁ S s ps o).todo
      unfolding zip_on sub any_soft split₁
      zip_hard nil nil qs a b c none e d = d
      zip_hard nil nil qs a b c (some rs) e d = let q : qs ≡ rs = cc in subst (λ (l : List (Pair S)). HardPairs s.res l) q c
      zip_hard nil (u ▸ us) qs a b c none e d = d
      zip_hard nil (u ▸ us) qs a b c (some rs) e d = clash (cc)
      zip_hard (t ▸ ts) nil qs a b c none e d = d
      zip_hard (t ▸ ts) nil qs a b c (some rs) e d = clash (cc)
      zip_hard (t ▸ ts) (u ▸ us) qs a b c o e d =
          let x = or_both (any_soft S (sub s.res t)) (any_soft S (sub s.res ts)) a in
          let y = or_both (any_soft S (sub s.res u)) (any_soft S (sub s.res us)) b in
          zip_hard ts us ((t, u) ∷ qs) x.1 y.1 (x.0, y.0, c) o e d

      split_keeps : (h k : S.Head) (ts us : Forest S.Head) → Hard (sub s.res ts) → Hard (sub s.res us) → (a b : Bool) (d : Dec (n h ≡ n k))
          → Keeps (split S n s h k ts us ps a b d)
      unfolding split split₁ Keeps
      split_keeps h k ts us p q true b d = λ c. (c, λ w x. x)
      split_keeps h k ts us p q false true d = λ c. (c, λ w x. x)
      split_keeps h k ts us p q false false (no d) = λ c. (c, λ w x. x)
      split_keeps h k ts us p q false false (yes d) = go (zip_on S ts us ps) (λ c. zip_hard ts us ps p q c (zip_on S ts us ps) refl c)
        where
          go : (o : Option (List (Pair S))) → (HardPairs s.res ps → HardPairs s.res (split₁ S s ps o).todo) → Keeps (split₁ S s ps o)
          go none z = λ c. (c, λ w x. x)
          go (some qs) z = λ c. (z c, λ w x. x)

      unequal_keeps : (l r : T S) → Hard l → Hard r → sub s.res l ≡ l → sub s.res r ≡ r → Keeps (unequal S n s l r ps)
      unfolding unequal sub any_soft
      unequal_keeps (var v) r p q a b = assign_keeps v r q
      unequal_keeps (node h ts) (var v) p q a b = assign_keeps v (node h ts) p
      unequal_keeps (node h ts) (node k us) p q a b =
          let et : sub s.res ts ≡ ts = cc (a) in
          let eu : sub s.res us ≡ us = cc (b) in
          split_keeps h k ts us (ap (λ (f : Forest S.Head). any_soft S f) et ∙ (or_both (S.soft h) (any_soft S ts) p).1)
          (ap (λ (f : Forest S.Head). any_soft S f) eu ∙ (or_both (S.soft k) (any_soft S us) q).1)
          (S.soft h || S.soft k) (S.rigid h) (S.head? (n h) (n k))

      compare_keeps : (l r : T S) → Hard l → Hard r → sub s.res l ≡ l → sub s.res r ≡ r → (d : Dec (l ≡ r)) → Keeps (compare S n s l r ps d)
      unfolding compare Keeps
      compare_keeps l r p q a b (yes d) = λ c. (c, λ w x. x)
      compare_keeps l r p q a b (no d) = unequal_keeps l r p q a b

      -- ---- and the check of the second time, of the same two terms resolved once more, in the session s' that the first time left, with qs pending

      module _ (s' : State S) (idem : (t : T S) → sub s'.res (sub s'.res t) ≡ sub s'.res t) (qs : List (Pair S)) (covers : Covers s'.res ps qs) where
        abbrev ρ : ℕ → T S
        ρ = s'.res

        -- where the first was good: nothing is bound, the pair is good, and what is pending then is pending the first time too
        Echo : Step S → Step S → Type 0
        Echo x y = x.good ≡ true → ((v : ℕ) → ρ v ≡ sub ρ (x.state.res v)) → (y.state ≡ s') × (y.good ≡ true) × Covers ρ x.todo y.todo

        -- what the first time binds is equal the second time
        assign_equal : (v : ℕ) (t : T S) → s.res v ≡ var v → Hard t → (assign S s v t ps).good ≡ true → ((w : ℕ) → ρ w ≡ sub ρ ((assign S s v t ps).state.res w)) → ρ v ≡ sub ρ t
        unfolding assign assign₀ assign₁ sub
        assign_equal v t free p = soft (any_soft S t) p
          where
            go : (o : Option (ℕ → Option S.Fam)) (d : Dec (In v t)) → (assign₁ S s v t ps o d).good ≡ true → ((w : ℕ) → ρ w ≡ sub ρ ((assign₁ S s v t ps o d).state.res w)) → ρ v ≡ sub ρ t
            go none d = λ g a. clash (cc)
            go (some f) (yes i) = λ g a. clash (cc)
            go (some f) (no i) = λ g a. a v ∙ ap (sub ρ) (ap (sub (put var v t)) free ∙ put_same var v t)

            soft : (b : Bool) → b ≡ false → (assign₀ S s v t ps b).good ≡ true → ((w : ℕ) → ρ w ≡ sub ρ ((assign₀ S s v t ps b).state.res w)) → ρ v ≡ sub ρ t
            soft true e = clash (cc)
            soft false e = go (admit S s.fam (s.fam v) t) (in? v t)

        split_echo : (h k : S.Head) (ts us : Forest S.Head) (a b : Bool) → a ≡ false → (d : Dec (n h ≡ n k))
            → Echo (split S n s h k ts us ps a b d) (split S n s' h k (sub ρ ts) (sub ρ us) qs a b d)
        unfolding split split₁ Echo
        split_echo h k ts us true b e d = clash (cc)
        split_echo h k ts us false true e d = λ g a. clash (cc)
        split_echo h k ts us false false e (no d) = λ g a. clash (cc)
        split_echo h k ts us false false e (yes d) = go (zip_on S ts us ps) (zip_on S (sub ρ ts) (sub ρ us) qs) (zip_covers ρ idem ts us ps qs qs covers covers)
          where
            go : (o o' : Option (List (Pair S))) → Zipped ρ qs o o' → Echo (split₁ S s ps o) (split₁ S s' qs o')
            go none o' z = λ g a. clash (cc)
            go (some x) none z = absurd z
            go (some x) (some y) z = λ g a. (refl, refl, z.1)

        unequal_echo : (l r : T S) → Hard l → Hard r → ((v : ℕ) → In v l → s.res v ≡ var v) → ((v : ℕ) → In v r → s.res v ≡ var v) → ¬ (sub ρ l ≡ sub ρ r)
            → Echo (unequal S n s l r ps) (unequal S n s' (sub ρ l) (sub ρ r) qs)
        unfolding unequal Echo sub any_soft
        unequal_echo (var v) r p q a b d = λ g e. absurd (d (assign_equal v r (a v refl) q g e))
        unequal_echo (node h ts) (var v) p q a b d = λ g e. absurd (d (sym (assign_equal v (node h ts) (b v refl) p g e)))
        unequal_echo (node h ts) (node k us) p q a b d =
            split_echo h k ts us (S.soft h || S.soft k) (S.rigid h) (or-false (S.soft h) (S.soft k) (or_both (S.soft h) (any_soft S ts) p).0 (or_both (S.soft k) (any_soft S us) q).0)
            (S.head? (n h) (n k))

        -- what is covered stays covered
        Extends : Step S → Type 0
        Extends x = Covers ρ x.todo qs

        assign_extends : (v : ℕ) (t : T S) → Extends (assign S s v t ps)
        unfolding assign assign₀ assign₁ Extends
        assign_extends v t = soft (any_soft S t)
          where
            go : (o : Option (ℕ → Option S.Fam)) (d : Dec (In v t)) → Extends (assign₁ S s v t ps o d)
            go none d = covers
            go (some f) (yes i) = covers
            go (some f) (no i) = covers

            soft : (b : Bool) → Extends (assign₀ S s v t ps b)
            soft true = covers
            soft false = go (admit S s.fam (s.fam v) t) (in? v t)

        split_extends : (h k : S.Head) (ts us : Forest S.Head) (a b : Bool) (d : Dec (n h ≡ n k)) → Extends (split S n s h k ts us ps a b d)
        unfolding split split₁ Extends
        split_extends h k ts us true b d = covers
        split_extends h k ts us false true d = covers
        split_extends h k ts us false false (no d) = covers
        split_extends h k ts us false false (yes d) = go (zip_on S ts us ps) (zip_on S (sub ρ ts) (sub ρ us) qs) (zip_covers ρ idem ts us ps qs qs covers covers)
          where
            go : (o o' : Option (List (Pair S))) → Zipped ρ qs o o' → Extends (split₁ S s ps o)
            go none o' z = covers
            go (some x) none z = absurd z
            go (some x) (some y) z = z.0

        compare_extends : (l r : T S) (d : Dec (l ≡ r)) → Extends (compare S n s l r ps d)
        unfolding compare unequal Extends
        compare_extends l r (yes d) = covers
        compare_extends (var v) r (no d) = assign_extends v r
        compare_extends (node h ts) (var v) (no d) = assign_extends v (node h ts)
        compare_extends (node h ts) (node k us) (no d) = split_extends h k ts us (S.soft h || S.soft k) (S.rigid h) (S.head? (n h) (n k))

        compare_echo : (l r : T S) → Hard l → Hard r → ((v : ℕ) → In v l → s.res v ≡ var v) → ((v : ℕ) → In v r → s.res v ≡ var v) → (d : Dec (l ≡ r)) (d' : Dec (sub ρ l ≡ sub ρ r))
            → Echo (compare S n s l r ps d) (compare S n s' (sub ρ l) (sub ρ r) qs d')
        unfolding compare Echo Extends
        compare_echo l r p q a b d (yes d') = λ g e. (refl, refl, compare_extends l r d)
        compare_echo l r p q a b (yes d) (no d') = absurd (d' (ap (sub ρ) d))
        compare_echo l r p q a b (no d) (no d') = unequal_echo l r p q a b d'

    -- ---- the loop

    -- k checks are enough for the pairs, and each of them leaves the session as it is and is good
    abbrev Calm : ℕ → State S → List (Pair S) → Type 0
    Calm zero s [] = Unit {0}
    Calm zero s (p ∷ ps) = ⊥
    Calm (suc k) s [] = Unit {0}
    Calm (suc k) s (p ∷ ps) = ((step S n s p.0 p.1 ps).state ≡ s) × ((step S n s p.0 p.1 ps).good ≡ true) × Calm k s (step S n s p.0 p.1 ps).todo

    calm_nothing : (k : ℕ) (s : State S) → Calm k s []
    calm_nothing zero s = tt
    calm_nothing (suc k) s = tt

    calm_more : (k : ℕ) (s : State S) (ps : List (Pair S)) → Calm k s ps → Calm (suc k) s ps
    calm_more zero s [] c = tt
    calm_more zero s (p ∷ ps) c = absurd c
    calm_more (suc k) s [] c = tt
    calm_more (suc k) s (p ∷ ps) c = (c.0, c.1, calm_more k s (step S n s p.0 p.1 ps).todo c.2)

    abbrev Ended : State S → ℕ → ℕ → Out (State S) → Type 0
    Ended s k m o = ((o ≡ cancelled s) × (m < k)) ⊎ (o ≡ done s true)

    calm_ends : (k m : ℕ) (s : State S) (ps : List (Pair S)) → Calm k s ps → Ended s k m (constrain S n m s true ps)
    unfolding constrain
    calm_ends zero zero s [] c = inr refl
    calm_ends zero (suc m) s [] c = inr refl
    calm_ends zero zero s (p ∷ ps) c = absurd c
    calm_ends zero (suc m) s (p ∷ ps) c = absurd c
    calm_ends (suc k) zero s [] c = inr refl
    calm_ends (suc k) zero s (p ∷ ps) c = inl (refl, omega arith)
    calm_ends (suc k) (suc m) s [] c = inr refl
    calm_ends (suc k) (suc m) s (p ∷ ps) c =
        let y = step S n s p.0 p.1 ps in
        let e : constrain S n m y.state (true && y.good) y.todo ≡ constrain S n m s true y.todo = ap₂ (λ (z : State S) (b : Bool). constrain S n m z b y.todo) c.0 c.1 in
        elim (calm_ends k m s y.todo c.2) [ inl q ↦ inl (e ∙ q.0, let l = q.1 in omega arith) | inr q ↦ inr (e ∙ q) ]

    and_both : (a b : Bool) → (a && b) ≡ true → (a ≡ true) × (b ≡ true)
    and_both true true e = (refl, refl)
    and_both true false e = clash (cc)
    and_both false b e = clash (cc)

    module _ (N : ℕ) (s : State S) (f : Fine S N s) where
      free : (t : T S) (v : ℕ) → In v (sub s.res t) → s.res v ≡ var v
      free t v i = let q = in_sub v s.res t i in f.idem q.0 v q.2

      fixed : (t : T S) → sub s.res (sub s.res t) ≡ sub s.res t
      fixed t = sub_fix s.res (sub s.res t) (free t)

      step_keeps : (ps : List (Pair S)) (l r : T S) → Hard (sub s.res l) → Hard (sub s.res r) → Keeps s ps (step S n s l r ps)
      unfolding step
      step_keeps ps l r p q = compare_keeps s ps (sub s.res l) (sub s.res r) p q (fixed l) (fixed r) (same? S.head? (sub s.res l) (sub s.res r))

      module _ (N' : ℕ) (s' : State S) (f' : Fine S N' s') (agree : (v : ℕ) → s'.res v ≡ sub s'.res (s.res v)) (ps qs : List (Pair S)) (covers : Covers s'.res ps qs) where
        absorbs : (t : T S) → sub s'.res t ≡ sub s'.res (sub s.res t)
        absorbs t = sub_ext t (λ v i. agree v) ∙ sym (sub-sub s'.res s.res t)

        idem' : (t : T S) → sub s'.res (sub s'.res t) ≡ sub s'.res t
        idem' t = sub_fix s'.res (sub s'.res t) (λ v i. let q = in_sub v s'.res t i in f'.idem q.0 v q.2)

        step_echo : (p q : Pair S) → Hard (sub s.res p.0) → Hard (sub s.res p.1) → sub s'.res p.0 ≡ sub s'.res q.0 → sub s'.res p.1 ≡ sub s'.res q.1
            → Echo s ps s' idem' qs covers (step S n s p.0 p.1 ps) (step S n s' q.0 q.1 qs)
        unfolding step
        step_echo p q hl hr el er =
            let l = sub s.res p.0 in
            let r = sub s.res p.1 in
            let x = step S n s p.0 p.1 ps in
            subst (λ (u : T S). Echo s ps s' idem' qs covers x (compare S n s' u (sub s'.res q.1) qs (same? S.head? u (sub s'.res q.1)))) (sym (absorbs p.0) ∙ el)
            (subst (λ (u : T S). Echo s ps s' idem' qs covers x (compare S n s' (sub s'.res l) u qs (same? S.head? (sub s'.res l) u))) (sym (absorbs p.1) ∙ er)
            (compare_echo s ps s' idem' qs covers l r hl hr (free p.0) (free p.1) (same? S.head? l r) (same? S.head? (sub s'.res l) (sub s'.res r))))

        step_extends : (p : Pair S) → Covers s'.res (step S n s p.0 p.1 ps).todo qs
        unfolding step Extends
        step_extends p = compare_extends s ps s' idem' qs covers (sub s.res p.0) (sub s.res p.1) (same? S.head? (sub s.res p.0) (sub s.res p.1))

    module _ (respects : (f : S.Fam) (h k : S.Head) → n h ≡ n k → S.admits f h ≡ S.admits f k) where
      agree_back : (s s' : State S) → Grows S n respects s s' → (θ : ℕ → T S) → ((v : ℕ) → θ v ≡ sub θ (s'.res v)) → (v : ℕ) → θ v ≡ sub θ (s.res v)
      agree_back s s' g θ a v = eq_of_sim (g.back (λ h. h) θ (λ u. sim_of_eq (a u)) v)

      -- what every variable resolves to by ρ is resolved further by θ, and nothing else is
      abbrev Absorbs : (ℕ → T S) → (ℕ → T S) → Type 0
      Absorbs θ ρ = (v : ℕ) → θ v ≡ sub θ (ρ v)

      -- the pairs, and any of them, posed to a session that came after the one in which they ended compatible
      abbrev Echoes : ℕ → State S → Bool → List (Pair S) → Out (State S) → Type 0
      Echoes k s ok ps (cancelled s') = Unit {0}
      Echoes k s ok ps (done s' b) = HardPairs s.res ps → b ≡ true
          → (ok ≡ true) × ((N : ℕ) (y : State S) → Fine S N y → Absorbs y.res s'.res → (qs : List (Pair S)) → Covers y.res ps qs → Calm k y qs)

      echoes_nothing : (k : ℕ) (s : State S) (ok : Bool) → Echoes k s ok [] (done s ok)
      echoes_nothing k s ok c e = (e, λ N y f a. go y)
        where
          go : (y : State S) (qs : List (Pair S)) → Covers y.res [] qs → Calm k y qs
          go y [] c = calm_nothing k y
          go y (q ∷ qs) c = absurd c

      echoes_step : (k N : ℕ) (s : State S) (ok : Bool) (p : Pair S) (ps : List (Pair S)) → Fine S N s → Grows S n respects s (step S n s p.0 p.1 ps).state
          → (o : Out (State S)) → Echoes k (step S n s p.0 p.1 ps).state (ok && (step S n s p.0 p.1 ps).good) (step S n s p.0 p.1 ps).todo o
          → After S n respects N (step S n s p.0 p.1 ps).state (ok && (step S n s p.0 p.1 ps).good) (step S n s p.0 p.1 ps).todo o
          → Echoes (suc k) s ok (p ∷ ps) o
      unfolding Keeps Echo
      echoes_step k N s ok p ps f g (cancelled s') u a = tt
      echoes_step k N s ok p ps f g (done s' b) u a = λ c e. ((goods c e).0, go c e)
        where
          later : HardPairs s.res (p ∷ ps) → b ≡ true → ((ok && (step S n s p.0 p.1 ps).good) ≡ true)
              × ((N : ℕ) (y : State S) → Fine S N y → Absorbs y.res s'.res → (qs : List (Pair S)) → Covers y.res (step S n s p.0 p.1 ps).todo qs → Calm k y qs)
          later c e = u (step_keeps N s f ps p.0 p.1 c.0 c.1 c.2).0 e

          goods : HardPairs s.res (p ∷ ps) → b ≡ true → (ok ≡ true) × ((step S n s p.0 p.1 ps).good ≡ true)
          goods c e = and_both ok (step S n s p.0 p.1 ps).good (later c e).0

          -- who absorbs the session at the end absorbs the one after the check, and the one before it
          mid : (y : State S) → Absorbs y.res s'.res → Absorbs y.res (step S n s p.0 p.1 ps).state.res
          mid y h = agree_back (step S n s p.0 p.1 ps).state s' a.1 y.res h

          early : (y : State S) → Absorbs y.res s'.res → Absorbs y.res s.res
          early y h = agree_back s (step S n s p.0 p.1 ps).state g y.res (mid y h)

          go : HardPairs s.res (p ∷ ps) → b ≡ true → (M : ℕ) (y : State S) → Fine S M y → Absorbs y.res s'.res → (qs : List (Pair S)) → Covers y.res (p ∷ ps) qs → Calm (suc k) y qs
          go c e M y fy h [] w = tt
          go c e M y fy h (q ∷ qs) (inl w) =
              let x = step_echo N s f M y fy (early y h) ps qs w.2 p q c.0 c.1 w.0 w.1 (goods c e).1 (mid y h) in
              (x.0, x.1, (later c e).1 M y fy h (step S n y q.0 q.1 qs).todo x.2)
          go c e M y fy h (q ∷ qs) (inr w) = calm_more k y (q ∷ qs) ((later c e).1 M y fy h (q ∷ qs) (step_extends N s f M y fy (early y h) ps (q ∷ qs) w p))

      echoes : (k N : ℕ) (s : State S) (ok : Bool) (ps : List (Pair S)) → Fine S N s → Below S N ps → Echoes k s ok ps (constrain S n k s ok ps)
      unfolding constrain
      echoes zero N s ok [] f b = echoes_nothing zero s ok
      echoes zero N s ok (p ∷ ps) f b = tt
      echoes (suc k) N s ok [] f b = echoes_nothing (suc k) s ok
      echoes (suc k) N s ok (p ∷ ps) f b =
          let x = step S n s p.0 p.1 ps in
          let r = step_right S n respects N s f ps b.2 p.0 p.1 b.0 b.1 in
          echoes_step k N s ok p ps f r.grows (constrain S n k x.state (ok && x.good) x.todo)
          (echoes k N x.state (ok && x.good) x.todo r.fine r.below)
          (constrain_right S n respects k N x.state (ok && x.good) x.todo r.fine r.below)

      -- ---- over a table

      -- a substitution under which each bound variable is its term absorbs what terms resolve to
      resolve_absorbed : (f : ℕ) (b : ℕ → Option (T S)) (θ : ℕ → T S) → ((v : ℕ) (w : T S) → b v ≡ some w → θ v ≡ sub θ w) → (t : T S) → sub θ (resolve f b t) ≡ sub θ t
      unfolding resolve expand sub
      resolve_absorbed zero b θ h t = refl
      resolve_absorbed (suc f) b θ h t = sub-sub θ (λ v. expand v (b v) (λ u. resolve f b u)) t ∙ sub_ext t (λ v i. go (λ u. resolve_absorbed f b θ h u) v (b v) refl)
        where
          go : ((u : T S) → sub θ (resolve f b u) ≡ sub θ u) → (v : ℕ) (o : Option (T S)) → b v ≡ o → sub θ (expand v o (λ u. resolve f b u)) ≡ θ v
          go more v none e = refl
          go more v (some u) e = more u ∙ sym (h v u e)

      absorbs_bound : (x : Table S) (s : State S) → Stands S x s → (y : State S) → ((v : ℕ) (w : T S) → x.bound v ≡ some w → y.res v ≡ sub y.res w) → Absorbs y.res s.res
      unfolding sub
      absorbs_bound x s st y h v =
          sym (ap (sub y.res) (sym (resolve_right x.bound x.rev s.res st.rep (var v))) ∙ resolve_absorbed x.rev x.bound y.res h (var v))

      -- how a pair posed to z with m checks ends that takes k at most: z stays, and it is compatible, or cancelled where there are fewer
      abbrev pub Satisfied : ℕ → ℕ → Table S → Out (Table S) → Type 0
      Satisfied k m z o = ((o ≡ cancelled z) × (m < k)) ⊎ (o ≡ done z true)

      -- POSED AGAIN to a table y, with m checks, that has all bindings of the table x that a compatible pose with k checks left: nothing is bound, and it is not
      -- incompatible.
      pub table_again : (k N : ℕ) (z : Table S) (s : State S) → Stands S z s → Counted S N z → Fine S N s → (t u : T S)
          → ((v : ℕ) → In v t → v < N) → ((v : ℕ) → In v u → v < N) → Hard (answer S z t) → Hard (answer S z u)
          → (x : Table S) → table_poses S n k z t u ≡ done x true
          → (M : ℕ) (y : Table S) (s' : State S) → Stands S y s' → Counted S M y → Fine S M s' → ((v : ℕ) → In v t → v < M) → ((v : ℕ) → In v u → v < M)
          → ((v : ℕ) (w : T S) → x.bound v ≡ some w → y.bound v ≡ some w) → (m : ℕ) → Satisfied k m y (table_poses S n m y t u)
      table_again k N z s st ct f t u bt bu ht hu x e M y s' sy cy fy dt du has m =
          first (table_poses S n k z t u) (poses S n k s t u) e
          (settles_follows S n respects k N z s true true ((t, u) ∷ []) ((t, u) ∷ []) st ct refl f (bt, bu, tt) (refl, refl, tt))
          (echoes k N s true ((t, u) ∷ []) f (bt, bu, tt))
        where
          hard : (w : T S) → Hard (answer S z w) → Hard (sub s.res w)
          hard w p = ap (λ (x : T S). any_soft S x) (sym (resolve_right z.bound z.rev s.res st.rep w)) ∙ p

          second : (o : Out (Table S)) (o' : Out (State S)) → Ends S n respects M o o' → Quiet y (outcome o) → Ended s' k m o' → Satisfied k m y o
          second (cancelled a) (cancelled b) h q (inl g) =
              let g₀ = g.0 in
              let r : b.rev ≡ s'.rev = cc in
              inl (ap cancelled (q.1 (h.0.revs ∙ r ∙ sym sy.revs)), g.1)
          second (cancelled a) (cancelled b) h q (inr g) = clash (cc)
          second (cancelled a) (done b c) h q g = absurd h
          second (done a d) (cancelled b) h q g = absurd h
          second (done a d) (done b c) h q (inl g) = clash (cc g.0)
          second (done a d) (done b c) h q (inr g) =
              let r : b.rev ≡ s'.rev = cc in
              let w : c ≡ true = cc in
              inr (ap₂ done (q.1 (h.0.revs ∙ r ∙ sym sy.revs)) (h.3 ∙ w))

          first : (o : Out (Table S)) (o' : Out (State S)) → o ≡ done x true → Ends S n respects N o o' → Echoes k s true ((t, u) ∷ []) o' → Satisfied k m y (table_poses S n m y t u)
          first (cancelled a) o' g h l = clash (cc)
          first (done a d) (cancelled b) g h l = absurd h
          first (done a d) (done b c) g h l =
              let ea : x ≡ a = cc in
              let ed : d ≡ true = cc in
              let after = (l (hard t ht, hard u hu, tt) (sym h.3 ∙ ed)).1 in
              let more : Absorbs s'.res b.res = absorbs_bound a b h.0 s' (λ v w q. sy.rep.bound v w (has v w (ap (λ (i : Table S). i.bound v) ea ∙ q))) in
              second (table_poses S n m y t u) (poses S n m s' t u)
              (settles_follows S n respects m M y s' true true ((t, u) ∷ []) ((t, u) ∷ []) sy cy refl fy (dt, du, tt) (refl, refl, tt))
              (settles_quiet n m y true ((t, u) ∷ []))
              (calm_ends k m s' ((t, u) ∷ []) (after M s' fy more ((t, u) ∷ []) (covers_all s'.res ((t, u) ∷ []))))

-- Laws of the lists by which `RustMaps` stands for maps and vectors: they are functions; and a map sorted by its keys is what a walk over the
-- numbers 0, 1, .. finds.
use mathlib.Core.Path.{◌≡◌, refl, ap, ap₂, sym, ◌∙◌, fun_ext}
use mathlib.Core.Logic.{◌≢◌, ite, if_pos, if_neg}
use mathlib.Core.Option.{Option, none, some}
use mathlib.Core.List.{List, [], ◌∷◌, ◌++◌}
use lib.ListN.{length, get_or, set, length-append}
use lib.Seq.{get_or-set_same, get_or-set_other}
use Prim.Native.Nat.{ℕ, zero, suc, ◌+◌, ◌≤◌, ◌<◌}
use native.Mathlib.Decide.{ℕ_discrete, dec_le, dec_lt}
use native.Mathlib.Omega.{arith}
use Rattle.unify.specs.Term.{Term, clash}
use Rattle.unify.specs.Solver.{put, put_same, put_other}
use Rattle.unify.specs.RustMaps.{look, insert, place, sorted, look_site, store}

module _ {A : Type 0} where
  -- a vector of options, read as a function
  pub nth_push : (bs : List (Option A)) (v : ℕ) → get_or (bs ++ (none ∷ [])) v none ≡ get_or bs v none
  nth_push [] zero = refl
  nth_push [] (suc v) = refl
  nth_push (b ∷ bs) zero = refl
  nth_push (b ∷ bs) (suc v) = nth_push bs v

  pub length_push : (bs : List (Option A)) → length (bs ++ (none ∷ [])) ≡ suc (length bs)
  length_push bs = let p = length-append bs (none ∷ []) in omega arith

  pub nth_set : (bs : List (Option A)) (v : ℕ) (o : Option A) → v < length bs → (w : ℕ) → get_or (set bs v o) w none ≡ put (λ u. get_or bs u none) v o w
  nth_set bs v o l w = go (ℕ_discrete w v)
    where
      go : Dec (w ≡ v) → get_or (set bs v o) w none ≡ put (λ u. get_or bs u none) v o w
      go (yes e) = rw e (get_or-set_same bs v o none l ∙ sym (put_same (λ u. get_or bs u none) v o))
      go (no e) = get_or-set_other bs v w o none e ∙ sym (put_other (λ u. get_or bs u none) v o w e)

  -- in range the default does not count
  pub nth_inside : (bs : List (Option A)) (v : ℕ) (d e : Option A) → v < length bs → get_or bs v d ≡ get_or bs v e
  nth_inside [] v d e l = absurd (omega arith)
  nth_inside (b ∷ bs) zero d e l = refl
  nth_inside (b ∷ bs) (suc v) d e l = nth_inside bs v d e (omega arith)

  -- a map, read as a function
  pub look_cons : (p : ℕ × A) (ps : List (ℕ × A)) (v : ℕ) → look (p ∷ ps) v ≡ put (look ps) p.0 (some p.1) v
  unfolding look put
  look_cons p ps v = refl

  pub look_nil : (v : ℕ) → look {A = A} [] v ≡ none
  unfolding look
  look_nil v = refl

  insert_nil : (k : ℕ) (a : A) → insert [] k a ≡ (k, a) ∷ []
  unfolding insert
  insert_nil k a = refl

  insert_here : (p : ℕ × A) (ps : List (ℕ × A)) (k : ℕ) (a : A) → k ≡ p.0 → insert (p ∷ ps) k a ≡ (k, a) ∷ ps
  unfolding insert
  insert_here p ps k a e = if_pos (ℕ_discrete k p.0) e ((k, a) ∷ ps) (p ∷ insert ps k a)

  insert_there : (p : ℕ × A) (ps : List (ℕ × A)) (k : ℕ) (a : A) → k ≢ p.0 → insert (p ∷ ps) k a ≡ p ∷ insert ps k a
  unfolding insert
  insert_there p ps k a e = if_neg (ℕ_discrete k p.0) e ((k, a) ∷ ps) (p ∷ insert ps k a)

  put_put_same : (f : ℕ → Option A) (k j : ℕ) (a b : Option A) (v : ℕ) → k ≡ j → put f k a v ≡ put (put f j b) k a v
  put_put_same f k j a b v e = go (ℕ_discrete v k)
    where
      go : Dec (v ≡ k) → put f k a v ≡ put (put f j b) k a v
      go (yes d) = rw d (put_same f k a ∙ sym (put_same (put f j b) k a))
      go (no d) = put_other f k a v d ∙ sym (put_other f j b v (λ q. d (q ∙ sym e))) ∙ sym (put_other (put f j b) k a v d)

  put_put_other : (f : ℕ → Option A) (k j : ℕ) (a b : Option A) (v : ℕ) → k ≢ j → put (put f k a) j b v ≡ put (put f j b) k a v
  put_put_other f k j a b v e = go (ℕ_discrete v k) (ℕ_discrete v j)
    where
      go : Dec (v ≡ k) → Dec (v ≡ j) → put (put f k a) j b v ≡ put (put f j b) k a v
      go (yes d) (yes c) = absurd (e (sym d ∙ c))
      go (yes d) (no c) = put_other (put f k a) j b v c ∙ rw d (put_same f k a ∙ sym (put_same (put f j b) k a))
      go (no d) (yes c) = rw c (put_same (put f k a) j b ∙ sym (put_same f j b)) ∙ sym (put_other (put f j b) k a v d)
      go (no d) (no c) = put_other (put f k a) j b v c ∙ put_other f k a v d ∙ sym (put_other f j b v c) ∙ sym (put_other (put f j b) k a v d)

  pub look_insert : (ps : List (ℕ × A)) (k : ℕ) (a : A) → look (insert ps k a) ≡ put (look ps) k (some a)
  look_insert [] k a = fun_ext λ v. ap (λ (qs : List (ℕ × A)). look qs v) (insert_nil k a) ∙ look_cons (k, a) [] v
  look_insert (p ∷ ps) k a = go (ℕ_discrete k p.0) (look_insert ps k a)
    where
      go : Dec (k ≡ p.0) → look (insert ps k a) ≡ put (look ps) k (some a) → look (insert (p ∷ ps) k a) ≡ put (look (p ∷ ps)) k (some a)
      go (yes e) h = fun_ext λ v.
          ap (λ (qs : List (ℕ × A)). look qs v) (insert_here p ps k a e) ∙ look_cons (k, a) ps v
          ∙ put_put_same (look ps) k p.0 (some a) (some p.1) v e ∙ ap (λ (g : ℕ → Option A). put g k (some a) v) (sym (fun_ext (look_cons p ps)))
      go (no e) h = fun_ext λ v.
          ap (λ (qs : List (ℕ × A)). look qs v) (insert_there p ps k a e) ∙ look_cons p (insert ps k a) v
          ∙ ap (λ (g : ℕ → Option A). put g p.0 (some p.1) v) h
          ∙ put_put_other (look ps) k p.0 (some a) (some p.1) v e ∙ ap (λ (g : ℕ → Option A). put g k (some a) v) (sym (fun_ext (look_cons p ps)))

  -- each key once
  abbrev pub Once : List (ℕ × A) → Type 0
  Once [] = Unit {0}
  Once (p ∷ ps) = (look ps p.0 ≡ none) × Once ps

  pub once_insert : (ps : List (ℕ × A)) (k : ℕ) (a : A) → Once ps → Once (insert ps k a)
  unfolding insert look
  once_insert [] k a o = (refl, tt)
  once_insert (p ∷ ps) k a o = go (ℕ_discrete k p.0) (once_insert ps k a o.1)
    where
      go : (d : Dec (k ≡ p.0)) → Once (insert ps k a) → Once (ite d ((k, a) ∷ ps) (p ∷ insert ps k a))
      go (yes e) h = (ap (look ps) e ∙ o.0, o.1)
      go (no e) h = (ap (λ (g : ℕ → Option A). g p.0) (look_insert ps k a) ∙ put_other (look ps) k (some a) p.0 (λ q. e (sym q)) ∙ o.0, h)

  -- what a walk over m numbers from v on finds in a function
  unfoldable pub with_some : ℕ → Option A → List (ℕ × A) → List (ℕ × A)
  with_some v none ps = ps
  with_some v (some a) ps = (v, a) ∷ ps

  unfoldable pub collect : ℕ → ℕ → (ℕ → Option A) → List (ℕ × A)
  collect zero v g = []
  collect (suc m) v g = with_some v (g v) (collect m (suc v) g)

  collect_ext : (m v : ℕ) (g h : ℕ → Option A) → ((w : ℕ) → v ≤ w → g w ≡ h w) → collect m v g ≡ collect m v h
  unfolding collect
  collect_ext zero v g h e = refl
  collect_ext (suc m) v g h e = ap₂ (with_some v) (e v (omega arith)) (collect_ext m (suc v) g h (λ w l. e w (omega arith)))

  -- a smaller key comes first
  place_first : (m v : ℕ) (g : ℕ → Option A) (p : ℕ × A) → p.0 < v → place p (collect m v g) ≡ p ∷ collect m v g
  unfolding collect with_some place
  place_first zero v g p l = refl
  place_first (suc m) v g p l = go (g v) (place_first m (suc v) g p (omega arith))
    where
      go : (o : Option A) → place p (collect m (suc v) g) ≡ p ∷ collect m (suc v) g → place p (with_some v o (collect m (suc v) g)) ≡ p ∷ with_some v o (collect m (suc v) g)
      go none h = h
      go (some a) h = if_pos (dec_le p.0 v) (omega arith) (p ∷ (v, a) ∷ collect m (suc v) g) ((v, a) ∷ place p (collect m (suc v) g))

  place_collect : (m v : ℕ) (g : ℕ → Option A) (p : ℕ × A) → v ≤ p.0 → p.0 < v + m → g p.0 ≡ none → place p (collect m v g) ≡ collect m v (put g p.0 (some p.1))
  unfolding collect with_some place
  place_collect zero v g p l u e = absurd (omega arith)
  place_collect (suc m) v g p l u e = go (ℕ_discrete v p.0) (λ l'. place_collect m (suc v) g p l' (omega arith) e)
    where
      g' : ℕ → Option A
      g' = put g p.0 (some p.1)

      step : (o : Option A) → v < p.0 → place p (collect m (suc v) g) ≡ collect m (suc v) g' → place p (with_some v o (collect m (suc v) g)) ≡ with_some v o (collect m (suc v) g')
      step none k h = h
      step (some a) k h =
          if_neg (dec_le p.0 v) (λ q. omega arith) (p ∷ (v, a) ∷ collect m (suc v) g) ((v, a) ∷ place p (collect m (suc v) g))
          ∙ ap (λ (ps : List (ℕ × A)). (v, a) ∷ ps) h

      go : Dec (v ≡ p.0) → (suc v ≤ p.0 → place p (collect m (suc v) g) ≡ collect m (suc v) g') → place p (with_some v (g v) (collect m (suc v) g)) ≡ with_some v (g' v) (collect m (suc v) g')
      go (yes d) h =
          let a : g v ≡ none = ap g d ∙ e in
          let b : g' v ≡ some p.1 = ap g' d ∙ put_same g p.0 (some p.1) in
          let c : collect m (suc v) g ≡ collect m (suc v) g' = collect_ext m (suc v) g g' (λ w k. sym (put_other g p.0 (some p.1) w (λ q. omega arith))) in
          ap (λ (o : Option A). place p (with_some v o (collect m (suc v) g))) a
          ∙ place_first m (suc v) g p (omega arith)
          ∙ ap (λ (w : ℕ). (w, p.1) ∷ collect m (suc v) g) (sym d)
          ∙ ap (λ (ps : List (ℕ × A)). (v, p.1) ∷ ps) c
          ∙ ap (λ (o : Option A). with_some v o (collect m (suc v) g')) (sym b)
      go (no d) h =
          step (g v) (omega arith) (h (omega arith))
          ∙ ap (λ (o : Option A). with_some v o (collect m (suc v) g')) (sym (put_other g p.0 (some p.1) v d))

  collect_none : (m v : ℕ) → collect m v (λ w. none) ≡ []
  unfolding collect with_some
  collect_none zero v = refl
  collect_none (suc m) v = collect_none m (suc v)

  -- SORTED BY ITS KEYS, a map whose keys are below N is what the walk from 0 finds.
  pub sorted_collect : (N : ℕ) (ps : List (ℕ × A)) → Once ps → ((v : ℕ) → N ≤ v → look ps v ≡ none) → sorted ps ≡ collect N 0 (look ps)
  unfolding sorted
  sorted_collect N [] o far = sym (collect_ext N 0 (look []) (λ w. none) (λ w l. look_nil w) ∙ collect_none N 0)
  sorted_collect N (p ∷ ps) o far = go (dec_lt p.0 N) (λ h. sorted_collect N ps o.1 h)
    where
      here : look (p ∷ ps) p.0 ≡ some p.1
      here = look_cons p ps p.0 ∙ put_same (look ps) p.0 (some p.1)

      go : Dec (p.0 < N) → (((v : ℕ) → N ≤ v → look ps v ≡ none) → sorted ps ≡ collect N 0 (look ps)) → place p (sorted ps) ≡ collect N 0 (look (p ∷ ps))
      go (no d) h = clash (cc (far p.0 (omega arith), here))
      go (yes d) h =
          ap (place p) (h (λ v l. sym (put_other (look ps) p.0 (some p.1) v (λ q. omega arith)) ∙ sym (look_cons p ps v) ∙ far v l))
          ∙ place_collect N 0 (look ps) p (omega arith) (omega arith) o.0
          ∙ collect_ext N 0 (put (look ps) p.0 (some p.1)) (look (p ∷ ps)) (λ w l. sym (look_cons p ps w))

pub store_set : {H : Type 0} (panic : Term H) (bs : List (Option (Term H))) (v : ℕ) (t : Term H) → v < length bs → set bs v (some t) ≡ store panic bs v t
unfolding store
store_set panic [] v t l = absurd (omega arith)
store_set panic (b ∷ bs) zero t l = refl
store_set panic (b ∷ bs) (suc v) t l = ap (λ (r : List (Option (Term _))). b ∷ r) (store_set panic bs v t (omega arith))

-- the map with keys (site, slot): one entry more
pub site_cons : (s i v : ℕ) (ps : List (ℕ × ℕ × ℕ)) (sites : ℕ → ℕ → Option ℕ) → ((s i : ℕ) → look_site ps s i ≡ sites s i)
    → (s' i' : ℕ) → look_site ((s, i, v) ∷ ps) s' i' ≡ put sites s (put (sites s) i (some v)) s' i'
unfolding look_site
site_cons s i v ps sites h s' i' = go (ℕ_discrete s' s) (ℕ_discrete i' i)
  where
    old : Option ℕ
    old = look_site ps s' i'

    rhs : ℕ → ℕ → Option ℕ
    rhs = put sites s (put (sites s) i (some v))

    lhs : Option ℕ
    lhs = ite (ℕ_discrete s' s) (ite (ℕ_discrete i' i) (some v) old) old

    same_site : s' ≡ s → rhs s' i' ≡ put (sites s) i (some v) i'
    same_site d = ap (λ (x : ℕ). rhs x i') d ∙ ap (λ (f : ℕ → Option ℕ). f i') (put_same sites s (put (sites s) i (some v)))

    go : Dec (s' ≡ s) → Dec (i' ≡ i) → lhs ≡ rhs s' i'
    go (no d) c = if_neg (ℕ_discrete s' s) d (ite (ℕ_discrete i' i) (some v) old) old ∙ h s' i' ∙ ap (λ (f : ℕ → Option ℕ). f i') (sym (put_other sites s (put (sites s) i (some v)) s' d))
    go (yes d) (yes c) =
        if_pos (ℕ_discrete s' s) d (ite (ℕ_discrete i' i) (some v) old) old ∙ if_pos (ℕ_discrete i' i) c (some v) old
        ∙ sym (same_site d ∙ ap (put (sites s) i (some v)) c ∙ put_same (sites s) i (some v))
    go (yes d) (no c) =
        if_pos (ℕ_discrete s' s) d (ite (ℕ_discrete i' i) (some v) old) old ∙ if_neg (ℕ_discrete i' i) c (some v) old
        ∙ h s' i' ∙ ap (λ (x : ℕ). sites x i') d ∙ sym (same_site d ∙ put_other (sites s) i (some v) i' c)

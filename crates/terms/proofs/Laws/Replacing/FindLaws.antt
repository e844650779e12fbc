-- Searches in the areas: their steps on words, and what they find where the areas hold the lists.
use mathlib.Core.Path.{◌≡◌, refl, sym, ap, ◌∙◌}
use mathlib.Core.Bool.{Bool, true, false, ◌&&◌}
use mathlib.Core.List.{List, [], ◌∷◌}
use mathlib.Core.Option as math
use mathlib.Core.Option.{none, some}
use Prim.Native.Nat.{ℕ, zero, suc, min, max, ◌+◌, ◌-◌, ◌≤◌, ◌<◌}
use native.Mathlib.Decide.{dec_lt, ℕ_discrete}
use native.Mathlib.Numerals.{sub-one}
use native.Mathlib.Omega.{arith}
use borrow.Author.Tests.{eq-eqb, ne_eqb, eqb-false, lt-ltb, le-ltb, ltb-false}
use lib.Dec.{eqb, ltb}
use lib.ListN.{length, get_or}
use Rattle.terms.specs.Result.{pick}
use Rattle.terms.specs.Term.{Term, Parts, items}
use Rattle.terms.specs.Words.Held.{Held, HeldParts}
use Rattle.terms.specs.Questions.{Parameter, same_parameter}
use Rattle.terms.specs.Substitution.{or_else, Entry, Receiver, get, receiver, zipped}
use Rattle.terms.specs.Parameters.{last_from, last_index}
use Rattle.terms.specs.Rows.{entry_row, receiver_row, argument_row}
use Rattle.terms.specs.Words.FindContract.{clip, stride, last_at, entry_at, receiver_at, nth_at, argument_for, Finds}
use Rattle.terms.proofs.Laws.Held.HeldLaws.{held_num, held_sub, items_some}
use Rattle.terms.proofs.Laws.Held.SameLaws.{span_held}
use Rattle.terms.proofs.Laws.Replacing.SubstitutionLaws.{else_else, else_none}
use Rattle.std.specs.Prelude.{Option, Some, None}
use Rattle.std.specs.Bool.{then_some}

-- ---- `stride`

module _ (room s : ℕ) where
  pub clip_none : s ≡ 0 → 1 ≡ clip room s
  unfolding clip
  clip_none z = rw (eq-eqb s 0 z)

  pub clip_room : (s ≡ 0 → ⊥) → room < s → room ≡ clip room s
  unfolding clip
  clip_room z h = rw (ne_eqb s 0 z, lt-ltb room s h)

  pub clip_span : (s ≡ 0 → ⊥) → s ≤ room → s ≡ clip room s
  unfolding clip
  clip_span z h = rw (ne_eqb s 0 z, le-ltb room s h)

  pub clip_clamp : 1 ≤ room → max 1 (min s room) ≡ clip room s
  clip_clamp h = go (dec_lt room s) (ℕ_discrete s 0)
    where
      go : Dec (room < s) → Dec (s ≡ 0) → max 1 (min s room) ≡ clip room s
      go l (yes z) = omega arith ∙ clip_none z
      go (yes l) (no z) = omega arith ∙ clip_room z l
      go (no l) (no z) = omega arith ∙ clip_span z (omega arith)

  pub clip_within : 1 ≤ room → (1 ≤ clip room s) × (clip room s ≤ room)
  unfolding clip
  clip_within h = go (eqb s 0) (ltb room s) refl refl
    where
      go : (a b : Bool) → eqb s 0 ≡ a → ltb room s ≡ b → (1 ≤ pick a 1 (pick b room s)) × (pick a 1 (pick b room s) ≤ room)
      go true b p q = (omega arith, h)
      go false true p q = (h, omega arith)
      go false false p q = (omega (arith, eqb-false s 0 p), ltb-false room s q)

module _ (ks vs : List ℕ) where
  -- a term that is held goes as far as its tokens
  pub stride_held : (i room : ℕ) (t : Term) → Held ks vs i t → length (items t) ≤ room → stride ks vs i room ≡ length (items t)
  stride_held i room t h l =
      let e = span_held ks vs i t h in
      rw e (sym (clip_span room (length (items t)) (λ z. omega (arith, items_some t)) l))

  -- ---- a row of records

  module _ (w a b : ℕ) (pos : 1 ≤ w) where
    -- the record at i, and what was found before
    abbrev better : ℕ → Option ℕ → Option ℕ
    better i best = pick (eqb (get_or vs i 0) a && eqb (get_or vs (i + w - 1) 0) b) (Some (i + w)) best

    -- as much fuel as there are tokens is enough
    enough : (f g i e : ℕ) (best : Option ℕ) → e ≤ i + f → e ≤ i + g → last_at ks vs w a b f i e best ≡ last_at ks vs w a b g i e best
    unfolding last_at
    enough zero zero i e best h k = refl
    enough zero (suc g) i e best h k = rw (le-ltb (i + w) e (omega arith))
    enough (suc f) zero i e best h k = rw (le-ltb (i + w) e (omega arith))
    enough (suc f) (suc g) i e best h k =
        ap (λ (x : Option ℕ). pick (ltb (i + w) e) x best)
        (enough f g (i + w + stride ks vs (i + w) (e - (i + w))) e (better i best) (omega arith) (omega arith))

    pub search_end : (i e : ℕ) (best : Option ℕ) → e - i ≤ w → best ≡ last_at ks vs w a b (e - i) i e best
    unfolding last_at
    search_end i e best h = go (e - i) refl
      where
        go : (f : ℕ) → e - i ≡ f → best ≡ last_at ks vs w a b f i e best
        go zero z = refl
        go (suc f) z = rw (le-ltb (i + w) e (omega arith))

    pub search_more : (i e : ℕ) (best : Option ℕ) → i + w < e → (best' : Option ℕ) → best' ≡ better i best → (i' : ℕ) → i' ≡ i + w + stride ks vs (i + w) (e - (i + w))
        → last_at ks vs w a b (e - i') i' e best' ≡ last_at ks vs w a b (e - i) i e best
    unfolding last_at
    search_more i e best h best' p i' q =
        let z : e - i ≡ suc (e - (i + 1)) = omega arith in
        rw (z, lt-ltb (i + w) e h, p, q)
        (enough (e - (i + w + stride ks vs (i + w) (e - (i + w)))) (e - (i + 1)) (i + w + stride ks vs (i + w) (e - (i + w))) e (better i best) (omega arith) (omega arith))

  -- ---- the n-th term

  pub nth_here : (n i : ℕ) → n ≤ 0 → i < length ks → Some i ≡ nth_at ks vs n i
  unfolding nth_at
  nth_here zero i z h = rw (lt-ltb i (length ks) h)
  nth_here (suc n) i z h = absurd (omega arith)

  -- no term is left to be passed
  pub nth_told : (i : ℕ) → then_some (ltb i (length ks)) i ≡ nth_at ks vs 0 i
  unfolding nth_at
  nth_told i = go (ltb i (length ks))
    where
      go : (b : Bool) → then_some b i ≡ pick b (Some i) None
      go true = refl
      go false = refl

  pub nth_out : (n i : ℕ) → length ks ≤ i → None ≡ nth_at ks vs n i
  unfolding nth_at
  nth_out zero i h = rw (le-ltb i (length ks) h)
  nth_out (suc n) i h = rw (le-ltb i (length ks) h)

  pub nth_more : (n i : ℕ) → 0 < n → i < length ks → nth_at ks vs (n - 1) (i + stride ks vs i (length ks - i)) ≡ nth_at ks vs n i
  unfolding nth_at
  nth_more zero i z h = absurd (omega arith)
  nth_more (suc n) i z h = rw (lt-ltb i (length ks) h, sub-one)

-- ---- what is found where the areas hold the lists

module _ (ks vs : List ℕ) where
  -- one more that may be the one looked for
  finds_more : (same : Bool) (q : ℕ) (t : Term) (best : Option ℕ) (o : math.Option Term) → Held ks vs q t → Finds ks vs best o
      → Finds ks vs (pick same (Some q) best) (or_else (pick same (some t) none) o)
  finds_more true q t best o h f = (t, refl, h)
  finds_more false q t best o h f = f

  finds_is : (a b : Option ℕ) (o p : math.Option Term) → a ≡ b → o ≡ p → Finds ks vs a o → Finds ks vs b p
  finds_is a b o p e f x = rw (← e, ← f) x

  -- a record whose term is held
  record_held : (w a b : ℕ) → 1 ≤ w → (i e : ℕ) (best : Option ℕ) (t : Term) (ps : Parts) (same : Bool) → Held ks vs (i + w) t → HeldParts ks vs (i + w + length (items t)) e ps
      → (eqb (get_or vs i 0) a && eqb (get_or vs (i + w - 1) 0) b) ≡ same
      → last_at ks vs w a b (e - (i + w + length (items t))) (i + w + length (items t)) e (pick same (Some (i + w)) best) ≡ last_at ks vs w a b (e - i) i e best
  record_held w a b pos i e best t ps same h r k =
      search_more ks vs w a b pos i e best (omega (arith, items_some t, r.ends)) _ (rw k) _
      (ap (λ (x : ℕ). i + w + x) (sym (stride_held ks vs (i + w) (e - (i + w)) t h (omega (arith, r.ends)))))

  moved : (i j : ℕ) (t : Term) → i ≡ j → Held ks vs i t → Held ks vs j t
  moved i j t e h = rw (← e) h

  moved_row : (i j e : ℕ) (ps : Parts) → i ≡ j → HeldParts ks vs i e ps → HeldParts ks vs j e ps
  moved_row i j e ps q h = rw (← q) h

  entries_held : (es : List Entry) (i e : ℕ) (p : Parameter) (best : Option ℕ) (o : math.Option Term) → HeldParts ks vs i e (entry_row es) → Finds ks vs best o
      → Finds ks vs (last_at ks vs 2 p.owner p.position (e - i) i e best) (or_else (get es p) o)
  unfolding entry_row get same_parameter items
  entries_held [] i e p best o h f = finds_is best _ o _ (search_end ks vs 2 p.owner p.position (omega arith) i e best (omega (arith, h.ends))) refl f
  entries_held (x ∷ es) i e p best o h f =
      let a = held_num ks vs i e _ _ h in
      let b = held_num ks vs (i + 1) e _ _ a.2 in
      let u = held_sub ks vs (i + 1 + 1) e _ _ b.2 in
      let t = moved (i + 1 + 1) (i + 2) x.term (omega arith) u.0 in
      let r = moved_row (i + 1 + 1 + length (items x.term)) (i + 2 + length (items x.term)) e (entry_row es) (omega arith) u.1 in
      let z : i + 2 - 1 ≡ i + 1 = omega arith in
      let same : Bool = same_parameter x.parameter p in
      finds_is _ _ _ _
      (record_held 2 p.owner p.position (omega arith) i e best x.term (entry_row es) same t r (rw (z, a.1, b.1)))
      (sym (else_else (get es p) (pick same (some x.term) none) o))
      (entries_held es (i + 2 + length (items x.term)) e p (pick same (Some (i + 2)) best) (or_else (pick same (some x.term) none) o) r (finds_more same (i + 2) x.term best o t f))

  -- an entry is found as `get` says
  pub entry_held : (es : List Entry) (i e : ℕ) (p : Parameter) → HeldParts ks vs i e (entry_row es) → Finds ks vs (entry_at ks vs i e p.owner p.position) (get es p)
  entry_held es i e p h =
      let r = entry_at ks vs i e p.owner p.position in
      finds_is r r _ _ refl (else_none (get es p)) (entries_held es i e p None none h refl)

  twice : (b : Bool) → (b && b) ≡ b
  twice true = refl
  twice false = refl

  receivers_held : (rs : List Receiver) (i e owner : ℕ) (best : Option ℕ) (o : math.Option Term) → HeldParts ks vs i e (receiver_row rs) → Finds ks vs best o
      → Finds ks vs (last_at ks vs 1 owner owner (e - i) i e best) (or_else (receiver rs owner) o)
  unfolding receiver_row receiver items
  receivers_held [] i e owner best o h f = finds_is best _ o _ (search_end ks vs 1 owner owner (omega arith) i e best (omega (arith, h.ends))) refl f
  receivers_held (x ∷ rs) i e owner best o h f =
      let a = held_num ks vs i e _ _ h in
      let u = held_sub ks vs (i + 1) e _ _ a.2 in
      let z : i + 1 - 1 ≡ i = omega arith in
      let same : Bool = eqb x.owner owner in
      finds_is _ _ _ _
      (record_held 1 owner owner (omega arith) i e best x.term (receiver_row rs) same u.0 u.1 (rw (z, a.1) (twice same)))
      (sym (else_else (receiver rs owner) (pick same (some x.term) none) o))
      (receivers_held rs (i + 1 + length (items x.term)) e owner (pick same (Some (i + 1)) best) (or_else (pick same (some x.term) none) o) u.1 (finds_more same (i + 1) x.term best o u.0 f))

  -- a receiver is found as `receiver` says
  pub receiver_held : (rs : List Receiver) (i e owner : ℕ) → HeldParts ks vs i e (receiver_row rs) → Finds ks vs (receiver_at ks vs i e owner) (receiver rs owner)
  receiver_held rs i e owner h =
      let r = receiver_at ks vs i e owner in
      finds_is r r _ _ refl (else_none (receiver rs owner)) (receivers_held rs i e owner None none h refl)

  -- the term after the n-th
  nth_next : (n a i : ℕ) → nth_at ks vs n a ≡ Some i → nth_at ks vs (suc n) a ≡ nth_at ks vs 0 (i + stride ks vs i (length ks - i))
  unfolding nth_at
  nth_next zero a i h = go (ltb a (length ks)) h
    where
      go : (b : Bool) → pick b (Some a) None ≡ Some i → pick b (nth_at ks vs 0 (a + stride ks vs a (length ks - a))) None ≡ nth_at ks vs 0 (i + stride ks vs i (length ks - i))
      go true e = let z : a ≡ i = cc in rw z
      go false e = absurd (let z : ◌≡◌ {A = ℕ} 0 1 = cc in omega arith)
  nth_next (suc n) a i h = go (ltb a (length ks)) h (nth_next n (a + stride ks vs a (length ks - a)) i)
    where
      go : (b : Bool) → pick b (nth_at ks vs n (a + stride ks vs a (length ks - a))) None ≡ Some i
          → (nth_at ks vs n (a + stride ks vs a (length ks - a)) ≡ Some i → nth_at ks vs (suc n) (a + stride ks vs a (length ks - a)) ≡ nth_at ks vs 0 (i + stride ks vs i (length ks - i)))
          → pick b (nth_at ks vs (suc n) (a + stride ks vs a (length ks - a))) None ≡ nth_at ks vs 0 (i + stride ks vs i (length ks - i))
      go true e ih = ih e
      go false e ih = absurd (let z : ◌≡◌ {A = ℕ} 0 1 = cc in omega arith)

  module _ (a e : ℕ) (p : Parameter) where
    -- the parameters from the n-th on, whose arguments stand from i on
    zip-held : (ps : List Parameter) (ts : List Term) (n i : ℕ) (best : Option ℕ) (o : math.Option Term) → length ts ≡ length ps → HeldParts ks vs i e (argument_row ts)
        → nth_at ks vs n a ≡ nth_at ks vs 0 i → Finds ks vs (argument_for ks vs a best) o
        → Finds ks vs (argument_for ks vs a (last_from n best ps p)) (or_else (get (zipped ps ts) p) o)
    unfolding argument_row get zipped last_from
    zip-held [] ts n i best o l h q f = f
    zip-held (x ∷ ps) [] n i best o l h q f = absurd (omega arith)
    zip-held (x ∷ ps) (t ∷ ts) n i best o l h q f =
        let u = held_sub ks vs i e _ _ h in
        let here : nth_at ks vs n a ≡ Some i = q ∙ sym (nth_here ks vs 0 i (omega arith) (omega (arith, u.0.within, items_some t))) in
        let next : nth_at ks vs (n + 1) a ≡ nth_at ks vs 0 (i + length (items t)) =
        ap (λ (m : ℕ). nth_at ks vs m a) (omega arith) ∙ nth_next n a i here
        ∙ ap (λ (m : ℕ). nth_at ks vs 0 (i + m)) (stride_held ks vs i (length ks - i) t u.0 (omega (arith, u.0.within))) in
        let same : Bool = same_parameter x p in
        finds_is (argument_for ks vs a (last_from (n + 1) (pick same (Some n) best) ps p)) _ _ _ refl (sym (else_else (get (zipped ps ts) p) (pick same (some t) none) o))
        (zip-held ps ts (n + 1) (i + length (items t)) (pick same (Some n) best) (or_else (pick same (some t) none) o) (omega arith) u.1 next
        (finds_is (pick same (Some i) (argument_for ks vs a best)) _ _ _ (arm same here) refl (finds_more same i t (argument_for ks vs a best) o u.0 f)))
      where
        arm : (b : Bool) → nth_at ks vs n a ≡ Some i → pick b (Some i) (argument_for ks vs a best) ≡ argument_for ks vs a (pick b (Some n) best)
        arm true h = sym h
        arm false h = refl

    -- a family's argument is found as `get` says of the parameters with the arguments
    pub argument_held : (ps : List Parameter) (ts : List Term) → length ts ≡ length ps → HeldParts ks vs a e (argument_row ts)
        → Finds ks vs (argument_for ks vs a (last_index ps p)) (get (zipped ps ts) p)
    argument_held ps ts l h =
        let r = argument_for ks vs a (last_index ps p) in
        finds_is r r _ _ refl (else_none (get (zipped ps ts) p)) (zip-held ps ts 0 a None none l h refl refl)

-- Writing with binders replaced: what is chosen, on words; the steps of the writer.
use mathlib.Core.Path.{◌≡◌, refl, sym, ap, ◌∙◌}
use mathlib.Core.Bool.{Bool, true, false, ◌&&◌}
use mathlib.Core.List.{List, [], ◌∷◌, ◌++◌}
use Prim.Native.Nat.{ℕ, zero, suc, ◌+◌, ◌-◌, ◌*◌, ◌^◌, ◌≤◌, ◌<◌}
use native.Mathlib.Nat.{suc-mul, mul-le-mul}
use native.Mathlib.Omega.{arith}
use borrow.Author.Tests.{eq-eqb, ne_eqb, lt-ltb, le-ltb, ltb-true}
use lib.Dec.{eqb, ltb}
use lib.ListN.{length, get_or, length-append}
use lib.Seq.{sets, length-sets}
use Rattle.terms.specs.declared.Binders.{Binders}
use Rattle.terms.specs.declared.Parameters.{Parameters}
use Rattle.terms.specs.declared.Part.{Part}
use Rattle.terms.specs.declared.Purpose.{Purpose}
use Rattle.terms.specs.declared.Purpose.TheVariants.{Instance, Context, Family}
use Rattle.terms.specs.declared.Choice.{Choice}
use Rattle.terms.specs.declared.Choice.TheVariants.{Keep, By, Unknown}
use Rattle.terms.specs.Result.{pick}
use Rattle.terms.specs.Words.Lent.{spelt_in}
use Rattle.terms.specs.Words.TokenBytes.{spelt}
use Rattle.terms.specs.Parameters.{is_found}
use Rattle.terms.specs.Words.Held.{span}
use Rattle.terms.specs.Words.FindContract.{stride, last_at, nth_at, receiver_at, argument_for}
use Rattle.terms.specs.Questions.{Parameter}
use Rattle.terms.specs.Words.RewriteContract.{by, index, is_context, self_for, entry_for, generic, in_context_of, generic_for, named_at, chosen, piece, pace, pieces, rewritten, written, RowsWithin, Space, Inside, Writes}
use Rattle.terms.proofs.Laws.Format.WriteLaws.{sets_append, spelt_short}
use Rattle.terms.proofs.Laws.Replacing.FindLaws.{clip_within}
use Rattle.std.specs.Prelude.{Option, Some, None, MatchOption}

pub pick_yes : {A : Type 0} (t : Bool) (x y : A) → t ≡ true → x ≡ pick t x y
pick_yes t x y e = rw e

pub pick_no : {A : Type 0} (t : Bool) (x y : A) → t ≡ false → y ≡ pick t x y
pick_no t x y e = rw e

-- ---- what is chosen

module _ (ks vs : List ℕ) (b : Binders) (l : Parameters) (w : Parameter) where
  -- an argument x, or an entry where there is none
  pub generic_is : (a : ℕ) (x r : Option ℕ) (P : Type 0) → x ≡ argument_for ks vs a (index l w) → (P → r ≡ entry_for ks vs b w) → MatchOption x P (λ q. r ≡ Some q)
      → by r Keep ≡ generic ks vs b l a w
  unfolding generic
  generic_is a (Some q) r P e f m = rw (← e, m) refl
  generic_is a None r P e f m = rw (← e) (ap (λ o. by o Keep) (f m))

  pub context_entry : (p : ℕ) → Some p ≡ entry_for ks vs b w → By p ≡ in_context_of ks vs b l w
  unfolding in_context_of
  context_entry p e = rw (← e)

  pub context_parameter : (k : ℕ) → None ≡ entry_for ks vs b w → Some k ≡ index l w → Unknown ≡ in_context_of ks vs b l w
  unfolding in_context_of
  context_parameter k e n = rw (← e, ← n)

  pub context_none : None ≡ entry_for ks vs b w → None ≡ index l w → Keep ≡ in_context_of ks vs b l w
  unfolding in_context_of
  context_none e n = rw (← e, ← n)

module _ (ks vs : List ℕ) (b : Binders) (w : Parameter) {u : Purpose} where
  pub in_instance : u ≡ Instance → (r : Choice) (e : Option ℕ) → e ≡ entry_for ks vs b w → r ≡ by e Keep → r ≡ generic_for ks vs b u w
  unfolding generic_for
  in_instance c r e f h = rw c (h ∙ rw f)

  pub in_context : {l : Parameters} → u ≡ Context l → {r : Choice} → r ≡ in_context_of ks vs b l w → r ≡ generic_for ks vs b u w
  unfolding generic_for
  in_context c h = rw c h

  pub in_family : {l : Parameters} {a : ℕ} → u ≡ Family l a → {r : Choice} → r ≡ generic ks vs b l a w → r ≡ generic_for ks vs b u w
  unfolding generic_for
  in_family c h = rw c h

module _ (ks vs : List ℕ) (b : Binders) (o : ℕ) where
  pub self_context : is_context b.purpose ≡ true → Keep ≡ self_for ks vs b o
  unfolding self_for
  self_context e = rw e

  pub self_receiver : is_context b.purpose ≡ false → (r : Choice) (e : Option ℕ) → e ≡ receiver_at ks vs b.receivers.from b.receivers.end o → r ≡ by e Keep → r ≡ self_for ks vs b o
  unfolding self_for
  self_receiver c r e f h = rw c (h ∙ rw f)

-- the parameter whose owner and position stand there
named_is : (ks vs : List ℕ) (b : Binders) (w : Parameter) (p : ℕ) → w.owner ≡ get_or vs (p + 1) 0 → w.position ≡ get_or vs (p + 2) 0 → w ≡ named_at ks vs b p
named_is ks vs b w p e f = λ i. record { owner = e i; position = f i }

module _ (ks vs : List ℕ) (b : Binders) (p : ℕ) where
  pub chosen_generic : get_or ks p 0 ≡ 19 → (r : Choice) (w : Parameter) → w.owner ≡ get_or vs (p + 1) 0 → w.position ≡ get_or vs (p + 2) 0 → r ≡ generic_for ks vs b b.purpose w → r ≡ chosen ks vs b p
  unfolding chosen
  chosen_generic k r w e f h =
      h ∙ ap (generic_for ks vs b b.purpose) (named_is ks vs b w p e f) ∙ pick_yes (eqb (get_or ks p 0) 19) _ _ (eq-eqb (get_or ks p 0) 19 k)

  pub chosen_self : (get_or ks p 0 ≡ 19 → ⊥) → get_or ks p 0 ≡ 21 → (r : Choice) (o : ℕ) → o ≡ get_or vs (p + 1) 0 → r ≡ self_for ks vs b o → r ≡ chosen ks vs b p
  unfolding chosen
  chosen_self n k r o e h = rw (ne_eqb (get_or ks p 0) 19 n, eq-eqb (get_or ks p 0) 21 k) (h ∙ rw e)

  pub chosen_keep : (get_or ks p 0 ≡ 19 → ⊥) → (get_or ks p 0 ≡ 21 → ⊥) → Keep ≡ chosen ks vs b p
  unfolding chosen
  chosen_keep n k = rw (ne_eqb (get_or ks p 0) 19 n, ne_eqb (get_or ks p 0) 21 k)

-- ---- what is written for it

module _ (ks vs : List ℕ) (p : ℕ) where
  pub keep_piece : (c : Choice) → c ≡ Keep → spelt ks vs p (p + 1 - p) ≡ piece ks vs p c
  unfolding piece
  keep_piece c e = let n : p + 1 - p ≡ 1 = omega arith in rw (e, n)

  pub by_piece : (c : Choice) (q : ℕ) (x : Part) → c ≡ By q → x.from ≡ q → x.end ≡ q + stride ks vs q (length ks - q) → spelt_in ks vs x ≡ piece ks vs p c
  unfolding piece
  by_piece c q x e f g = let n : x.end - x.from ≡ stride ks vs q (length ks - q) = omega (arith, f, g) in rw (e, n, f)

  pub unknown_piece : (c : Choice) → c ≡ Unknown → 2 ∷ [] ≡ piece ks vs p c
  unfolding piece
  unknown_piece c e = rw e

  pub stride_in : (q n : ℕ) → q < length ks → n ≡ stride ks vs q (length ks - q) → q + n ≤ length ks
  stride_in q n h e = omega (arith, clip_within (length ks - q) (span (get_or ks q 0) (get_or vs q 0)) (omega arith))

  pub inside_by : (c : Choice) (q : ℕ) → c ≡ By q → Inside ks c → q < length ks
  inside_by c q e h = rw e at h

  module _ (e : ℕ) where
    pub keep_pace : (c : Choice) → c ≡ Keep → 1 ≡ pace ks vs p e c
    unfolding pace
    keep_pace c h = rw h

    pub by_pace : (c : Choice) (q n : ℕ) → c ≡ By q → n ≡ stride ks vs p (e - p) → n ≡ pace ks vs p e c
    unfolding pace
    by_pace c q n h f = rw h f

    pub unknown_pace : (c : Choice) (n : ℕ) → c ≡ Unknown → n ≡ stride ks vs p (e - p) → n ≡ pace ks vs p e c
    unfolding pace
    unknown_pace c n h f = rw h f

-- the same bytes told another way
module _ (on : Bool) (out : List ℕ) (i : ℕ) (x y : List ℕ) (e : x ≡ y) where
  pub retold : (r : ℕ) (out' : List ℕ) → r ≡ i + length x → out' ≡ pick on (sets out i x) out → (r ≡ i + length y) × (out' ≡ pick on (sets out i y) out)
  retold r out' h k = rw (← e) (h, k)

  pub respaced : (size : ℕ) → Space on i (length y) size → Space on i (length x) size
  respaced size h = rw e h

-- ---- what is chosen is within the areas

-- a place that was found is below e
pub Below : ℕ → Option ℕ → Type 0
Below e (Some q) = q < e
Below e None = Unit {0}

below_more : (t : Bool) (e q : ℕ) (best : Option ℕ) → q < e → Below e best → Below e (pick t (Some q) best)
unfolding Below
below_more true e q best h b = h
below_more false e q best h b = b

module _ (ks vs : List ℕ) where
  last_below : (w a b f i e : ℕ) (best : Option ℕ) → Below e best → Below e (last_at ks vs w a b f i e best)
  unfolding last_at
  last_below w a b zero i e best h = h
  last_below w a b (suc f) i e best h = go (ltb (i + w) e) refl (last_below w a b f (i + w + stride ks vs (i + w) (e - (i + w))) e better)
    where
      better : Option ℕ
      better = pick (eqb (get_or vs i 0) a && eqb (get_or vs (i + w - 1) 0) b) (Some (i + w)) best

      go : (t : Bool) → ltb (i + w) e ≡ t → (Below e better → Below e (last_at ks vs w a b f (i + w + stride ks vs (i + w) (e - (i + w))) e better))
          → Below e (pick t (last_at ks vs w a b f (i + w + stride ks vs (i + w) (e - (i + w))) e better) best)
      go true p ih = ih (below_more (eqb (get_or vs i 0) a && eqb (get_or vs (i + w - 1) 0) b) e (i + w) best (ltb-true (i + w) e p) h)
      go false p ih = h

  nth_below : (n i : ℕ) → Below (length ks) (nth_at ks vs n i)
  unfolding nth_at Below
  nth_below zero i = go (ltb i (length ks)) refl
    where
      go : (t : Bool) → ltb i (length ks) ≡ t → Below (length ks) (pick t (Some i) None)
      go true p = ltb-true i (length ks) p
      go false p = tt
  nth_below (suc n) i = go (ltb i (length ks)) (nth_below n (i + stride ks vs i (length ks - i)))
    where
      go : (t : Bool) → Below (length ks) (nth_at ks vs n (i + stride ks vs i (length ks - i))) → Below (length ks) (pick t (nth_at ks vs n (i + stride ks vs i (length ks - i))) None)
      go true h = h
      go false h = tt

  below_by : (e : ℕ) → e ≤ length ks → (l : Option ℕ) (c : Choice) → Below e l → Inside ks c → Inside ks (by l c)
  unfolding Below
  below_by e m (Some q) c h k = omega arith
  below_by e m None c h k = k

  argument_below : (i : ℕ) (n : Option ℕ) → Below (length ks) (argument_for ks vs i n)
  unfolding Below
  argument_below i (Some n) = nth_below n i
  argument_below i None = tt

  inside_pick : (t : Bool) (c d : Choice) → Inside ks c → Inside ks d → Inside ks (pick t c d)
  inside_pick true c d h k = h
  inside_pick false c d h k = k

  pub chosen_inside : (b : Binders) → RowsWithin ks vs b → (p : ℕ) → Inside ks (chosen ks vs b p)
  unfolding chosen generic_for generic in_context_of self_for Below
  chosen_inside b r p =
      let o = get_or vs (p + 1) 0 in
      let w = named_at ks vs b p in
      let f = last_below 1 o o (b.receivers.end - b.receivers.from) b.receivers.from b.receivers.end None tt in
      inside_pick (eqb (get_or ks p 0) 19) _ _ (bound w b.purpose)
      (inside_pick (eqb (get_or ks p 0) 21) (self_for ks vs b o) Keep
      (inside_pick (is_context b.purpose) Keep _ tt (below_by b.receivers.end r.receivers (receiver_at ks vs b.receivers.from b.receivers.end o) Keep f tt)) tt)
    where
      by_entry : (w : Parameter) (c : Choice) → Inside ks c → Inside ks (by (entry_for ks vs b w) c)
      by_entry w c k = below_by b.entries.end r.entries (entry_for ks vs b w) c (last_below 2 w.owner w.position (b.entries.end - b.entries.from) b.entries.from b.entries.end None tt) k

      bound : (w : Parameter) (u : Purpose) → Inside ks (generic_for ks vs b u w)
      bound w Instance = by_entry w Keep tt
      bound w (Context l) = by_entry w _ (inside_pick (is_found (index l w)) Unknown Keep tt tt)
      bound w (Family l a) = below_by (length ks) (omega arith) (argument_for ks vs a (index l w)) (by (entry_for ks vs b w) Keep) (argument_below a (index l w)) (by_entry w Keep tt)

-- ---- the writer's steps

module _ (ks vs : List ℕ) (f : ℕ → Choice) where
  pace_some : (p e : ℕ) (c : Choice) → p < e → (1 ≤ pace ks vs p e c) × (p + pace ks vs p e c ≤ e)
  unfolding pace
  pace_some p e Keep h = (omega arith, omega arith)
  pace_some p e (By q) h = let w = clip_within (e - p) (span (get_or ks p 0) (get_or vs p 0)) (omega arith) in (w.0, omega arith)
  pace_some p e Unknown h = let w = clip_within (e - p) (span (get_or ks p 0) (get_or vs p 0)) (omega arith) in (w.0, omega arith)

  -- as much fuel as there are tokens is enough
  enough : (m n p e : ℕ) → e ≤ p + m → e ≤ p + n → pieces ks vs f m p e ≡ pieces ks vs f n p e
  unfolding pieces
  enough zero zero p e h k = refl
  enough zero (suc n) p e h k = rw (le-ltb p e (omega arith))
  enough (suc m) zero p e h k = rw (le-ltb p e (omega arith))
  enough (suc m) (suc n) p e h k = go (ltb p e) refl (enough m n (p + pace ks vs p e (f p)) e)
    where
      go : (t : Bool) → ltb p e ≡ t → (e ≤ p + pace ks vs p e (f p) + m → e ≤ p + pace ks vs p e (f p) + n → pieces ks vs f m (p + pace ks vs p e (f p)) e ≡ pieces ks vs f n (p + pace ks vs p e (f p)) e)
          → pick t (piece ks vs p (f p) ++ pieces ks vs f m (p + pace ks vs p e (f p)) e) [] ≡ pick t (piece ks vs p (f p) ++ pieces ks vs f n (p + pace ks vs p e (f p)) e) []
      go true q ih =
          let w = pace_some p e (f p) (ltb-true p e q) in
          ap (λ (l : List ℕ). piece ks vs p (f p) ++ l) (ih (omega arith) (omega arith))
      go false q ih = refl

  pub pieces_end : (p e : ℕ) → e ≤ p → pieces ks vs f (e - p) p e ≡ []
  unfolding pieces
  pieces_end p e h = let z : e - p ≡ 0 = omega arith in rw z

  pub pieces_step : (p e : ℕ) → p < e → (c : Choice) → c ≡ f p → (n : ℕ) → n ≡ pace ks vs p e c
      → pieces ks vs f (e - p) p e ≡ piece ks vs p c ++ pieces ks vs f (e - (p + n)) (p + n) e
  unfolding pieces
  pieces_step p e h c g n k =
      let z : e - p ≡ suc (e - (p + 1)) = omega arith in
      let w = pace_some p e (f p) h in
      rw (k, g, z, lt-ltb p e h)
      (ap (λ (l : List ℕ). piece ks vs p (f p) ++ l)
      (enough (e - (p + 1)) (e - (p + pace ks vs p e (f p))) (p + pace ks vs p e (f p)) e (omega arith) (omega arith)))

  pub pace_within : (p e : ℕ) → p < e → (c : Choice) (n : ℕ) → n ≡ pace ks vs p e c → (1 ≤ n) × (p + n ≤ e)
  pace_within p e h c n k = rw k (pace_some p e c h)

-- a writer's state, where `on` says whether it writes or only counts: rem is left at i, and then all is done that was to be done at `at`
pub record Going (on : Bool) (out₀ : List ℕ) (at : ℕ) (whole out : List ℕ) (i : ℕ) (rem : List ℕ) : Type 0 where
  pub place : i + length rem ≡ at + length whole
  pub same : pick on (sets out i rem) out ≡ pick on (sets out₀ at whole) out₀
  pub long : length out ≡ length out₀

module _ (on : Bool) (out₀ : List ℕ) (at : ℕ) (whole : List ℕ) where
  pub going_start : Going on out₀ at whole out₀ at whole
  going_start = record { place = refl; same = refl; long = refl }

  module _ (out : List ℕ) (i : ℕ) (rem : List ℕ) (g : Going on out₀ at whole out i rem) where
    -- there is space for the next piece
    pub going_space : (x rest : List ℕ) → rem ≡ x ++ rest → Space on at (length whole) (length out₀) → Space on i (length x) (length out)
    going_space x rest e s =
        let l = ap length e ∙ length-append x rest in
        record { counts = omega (arith, l, g.place, s.counts); fits = λ o. omega (arith, l, g.place, g.long, s.fits o) }

    pub going_on : (x rest out' : List ℕ) (j : ℕ) → rem ≡ x ++ rest → j ≡ i + length x → out' ≡ pick on (sets out i x) out → Going on out₀ at whole out' j rest
    going_on x rest out' j e ej eo = record {
      place = omega (arith, g.place, ap length e, length-append x rest);
      same = rw (eo, ej) (both on) ∙ ap (λ (l : List ℕ). pick on (sets out i l) out) (sym e) ∙ g.same;
      long = ap length eo ∙ kept on ∙ g.long;
    }
      where
        both : (t : Bool) → pick t (sets (pick t (sets out i x) out) (i + length x) rest) (pick t (sets out i x) out) ≡ pick t (sets out i (x ++ rest)) out
        both true = sym (sets_append x rest out i)
        both false = refl

        kept : (t : Bool) → length (pick t (sets out i x) out) ≡ length out
        kept true = length-sets out i x
        kept false = refl

    pub going_end : rem ≡ [] → (i ≡ at + length whole) × (out ≡ pick on (sets out₀ at whole) out₀)
    going_end e = (omega (arith, g.place, ap length e), all on ∙ ap (λ (l : List ℕ). pick on (sets out i l) out) (sym e) ∙ g.same)
      where
        all : (t : Bool) → out ≡ pick t (sets out i []) out
        all true = refl
        all false = refl

-- one step, at p
module _ (ks vs : List ℕ) (f : ℕ → Choice) {on : Bool} {out₀ : List ℕ} {at : ℕ} {whole out : List ℕ} {i : ℕ} (p e : ℕ) (h : p < e)
    (g : Going on out₀ at whole out i (pieces ks vs f (e - p) p e)) {c : Choice} (k : c ≡ f p) where
  pub step_space : Space on at (length whole) (length out₀) → Space on i (length (piece ks vs p c)) (length out)
  step_space =
      going_space on out₀ at whole out i _ g (piece ks vs p c) (pieces ks vs f (e - (p + pace ks vs p e c)) (p + pace ks vs p e c) e) (pieces_step ks vs f p e h c k _ refl)

  pub step_on : {n : ℕ} → n ≡ pace ks vs p e c → {j : ℕ} → j ≡ i + length (piece ks vs p c) → {out' : List ℕ} → out' ≡ pick on (sets out i (piece ks vs p c)) out
      → Going on out₀ at whole out' j (pieces ks vs f (e - (p + n)) (p + n) e)
  step_on {n} m {j} ej {out'} eo = going_on on out₀ at whole out i _ g (piece ks vs p c) _ out' j (pieces_step ks vs f p e h c k n m) ej eo

-- ---- a whole term

module _ (ks vs : List ℕ) (b : Binders) (a : ℕ) (p : Part) (f : p.from ≡ a) (e : p.end ≡ a + stride ks vs a (length ks - a)) where
  whole : written ks vs b a ≡ rewritten ks vs b p
  whole = λ i. rewritten ks vs b (record { from = sym f i; end = sym e i })

  pub whole_space : (on : Bool) (at size : ℕ) → Space on at (length (written ks vs b a)) size → Space on at (length (rewritten ks vs b p)) size
  whole_space on at size h = rw whole at h

  pub whole_writes : (on : Bool) (out : List ℕ) (at r : ℕ) (out' : List ℕ) → r ≡ at + length (rewritten ks vs b p) → out' ≡ pick on (sets out at (rewritten ks vs b p)) out
      → Writes on out at r out' (written ks vs b a)
  whole_writes on out at r out' h k = record { next = rw (← whole) at h; wrote = rw (← whole) at k }

-- ---- how long it can be

module _ (ks vs : List ℕ) (words : (i : ℕ) → get_or vs i 0 < 2 ^ 32) where
  piece_short : (p : ℕ) (c : Choice) → p < length ks → Inside ks c → length (piece ks vs p c) ≤ 6 * length ks
  unfolding piece
  piece_short p Keep h k = omega (arith, spelt_short ks vs words p 1)
  piece_short p (By q) h k =
      omega (arith, spelt_short ks vs words q (stride ks vs q (length ks - q)), clip_within (length ks - q) (span (get_or ks q 0) (get_or vs q 0)) (omega arith))
  piece_short p Unknown h k = omega arith

  pieces_short : (f : ℕ → Choice) → ((p : ℕ) → Inside ks (f p)) → (fuel p e : ℕ) → e ≤ length ks → length (pieces ks vs f fuel p e) ≤ fuel * (6 * length ks)
  unfolding pieces
  pieces_short f k zero p e h = omega arith
  pieces_short f k (suc n) p e h = rw (suc-mul n (6 * length ks)) (go (ltb p e) refl (pieces_short f k n (p + pace ks vs p e (f p)) e h))
    where
      go : (t : Bool) → ltb p e ≡ t → length (pieces ks vs f n (p + pace ks vs p e (f p)) e) ≤ n * (6 * length ks)
          → length (pick t (piece ks vs p (f p) ++ pieces ks vs f n (p + pace ks vs p e (f p)) e) []) ≤ n * (6 * length ks) + 6 * length ks
      go true q ih =
          let below = ltb-true p e q in
          omega (arith, length-append (piece ks vs p (f p)) (pieces ks vs f n (p + pace ks vs p e (f p)) e), piece_short p (f p) (omega arith) (k p), ih)
      go false q ih = omega arith

  -- in areas of at most 2 ^ 24 words the bytes can be counted
  pub counted : (b : Binders) → RowsWithin ks vs b → (p : Part) → p.end ≤ length ks → length ks ≤ 2 ^ 24 → length (rewritten ks vs b p) ≤ 2 ^ 51
  counted b r p h l =
      let m = pieces_short (chosen ks vs b) (chosen_inside ks vs b r) (p.end - p.from) p.from p.end h in
      let x : p.end - p.from ≤ 2 ^ 24 = omega arith in
      let y : 6 * length ks ≤ 6 * 2 ^ 24 = omega arith in
      let n : (p.end - p.from) * (6 * length ks) ≤ 2 ^ 24 * (6 * 2 ^ 24) = mul-le-mul {n₂ = 2 ^ 24} {m₂ = 6 * 2 ^ 24} x y in
      omega arith

  pub counted_term : (b : Binders) → RowsWithin ks vs b → (a : ℕ) → a < length ks → length ks ≤ 2 ^ 24 → length (written ks vs b a) ≤ 2 ^ 51
  counted_term b r a h l = counted b r _ (stride_in ks vs a a _ h refl) l

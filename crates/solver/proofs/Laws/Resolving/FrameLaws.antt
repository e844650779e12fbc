-- Laws of bound runs, of `walk`, and of the stack of runs that wait while a bound variable's run is walked.
use mathlib.Core.Path.{◌≡◌, refl, sym, ap, ◌∙◌, subst}
use mathlib.Core.List.{List, [], ◌∷◌, ◌++◌, append_assoc, append-nil}
use mathlib.Core.Option.{none, some}
use Rattle.std.proofs.Math.Option.{some-ne-none}
use Prim.Native.Nat.{ℕ, zero, suc, pred, ◌+◌, ◌-◌, ◌≤◌, ◌<◌}
use native.Mathlib.Numerals.{add-one}
use native.Mathlib.Omega.{arith}
use native.Mathlib.Decide.{ℕ_discrete}
use borrow.Author.Tests.{le-leb, lt-leb}
use lib.ListN.{length, get_or, set, length-set, length-append, get_or-eq_default}
use lib.Seq.{get_or-set_same, get_or-set_other}
use Rattle.terms.specs.Words.Tokens.{Item, spell, one}
use Rattle.terms.specs.Words.Held.{span}
use Rattle.terms.proofs.Laws.Format.WriteLaws.{spell_step, spell_none}
use Rattle.terms.proofs.Laws.Held.HeldLaws.{span_one}
use Rattle.solver.specs.declared.Stand.{Stand}
use Rattle.solver.specs.Words.Bindings.{defaults}
use Rattle.solver.specs.Words.ResolveWalk.{run_len, inner, default_of, default_in, standing, standing_at, walk, Entered, walked, flat_bytes}
use Rattle.solver.specs.Words.ResolveFrames.{pend, rest, stand, left, Sound, Apart, Bare, Ready, Settled}
use Rattle.terms.specs.Words.TokenBytes.{plain}
use Rattle.solver.proofs.Laws.Resolving.OverLaws.{over-append}
use Rattle.solver.proofs.Laws.Resolving.DefaultWordLaws.{default_low_code}

-- ---- what a cell names, and what takes a token's place

module _ (ks vs : List ℕ) where
  pub run_none : run_len ks vs 0 ≡ 0
  unfolding run_len
  run_none = refl

  pub run_at : (cell p : ℕ) → cell ≡ p + 1 → p + span (get_or ks p 0) (get_or vs p 0) ≤ length ks → run_len ks vs cell ≡ span (get_or ks p 0) (get_or vs p 0)
  unfolding run_len
  run_at cell p e h = rw (e, add-one, le-leb (p + span (get_or ks p 0) (get_or vs p 0)) (length ks) h)

  pub run_past : (cell p : ℕ) → cell ≡ p + 1 → length ks < p + span (get_or ks p 0) (get_or vs p 0) → run_len ks vs cell ≡ 0
  unfolding run_len
  run_past cell p e h = rw (e, add-one, lt-leb (p + span (get_or ks p 0) (get_or vs p 0)) (length ks) h)

  -- a default names none
  pub run_default : (word : ℕ) → length ks < defaults → defaults ≤ word → run_len ks vs word ≡ 0
  run_default word s h =
      let p = word - 1 in
      let z = get_or-eq_default ks 0 {n = p} (omega arith) in
      run_past word p (omega arith) (omega (arith, span_one (get_or ks p 0) (get_or vs p 0) (omega arith)))

  module _ (bs : List ℕ) where
    pub inner_var : (k v : ℕ) → k ≡ 1 → inner ks vs bs k v ≡ run_len ks vs (get_or bs v 0)
    unfolding inner
    inner_var k v e = rw e

    pub inner_other : (k v : ℕ) → (k ≡ 1 → ⊥) → inner ks vs bs k v ≡ 0
    unfolding inner
    inner_other zero v h = refl
    inner_other (suc zero) v h = absurd (h refl)
    inner_other (suc (suc k)) v h = refl

-- ---- the default that takes a token's place

module _ (bs : List ℕ) where
  pub default_shut : (n k v : ℕ) → n ≡ 0 → default_in bs n k v ≡ none
  unfolding default_in
  default_shut n k v e = rw e

  pub default_other : (n k v : ℕ) → (k ≡ 1 → ⊥) → default_in bs n k v ≡ none
  unfolding default_in
  default_other zero k v h = refl
  default_other (suc n) zero v h = refl
  default_other (suc n) (suc zero) v h = absurd (h refl)
  default_other (suc n) (suc (suc k)) v h = refl

  pub default_var : (n k v : ℕ) → (n ≡ 0 → ⊥) → k ≡ 1 → default_in bs n k v ≡ default_of (get_or bs v 0)
  unfolding default_in
  default_var zero k v h e = absurd (h refl)
  default_var (suc n) k v h e = rw e

pub default_in_low : (bs : List ℕ) (n k v c : ℕ) → default_in bs n k v ≡ some c → c < 32
unfolding default_in
default_in_low bs zero k v c e = absurd (some-ne-none c (sym e))
default_in_low bs (suc n) zero v c e = absurd (some-ne-none c (sym e))
default_in_low bs (suc n) (suc zero) v c e = default_low_code (get_or bs v 0) c e
default_in_low bs (suc n) (suc (suc k)) v c e = absurd (some-ne-none c (sym e))

-- a run is entered only where one may be
pub entered_open : (ks vs bs : List ℕ) (p n at len : ℕ) → Entered ks vs bs p n at len → 0 < len → 0 < n
entered_open ks vs bs p zero at len i h = absurd (omega (arith, i.shut refl))
entered_open ks vs bs p (suc n) at len i h = omega arith

-- ---- the walk, with its stack of waiting runs

module _ {A : Type 0} (leaf : ℕ → ℕ → List A) (pre : List A) (ks vs bs : List ℕ) where
  pub walk_leaf : (n k v len : ℕ) → (0 < n → len ≡ inner ks vs bs k v) → len ≡ 0
      → walk leaf pre ks vs bs n k v ≡ standing leaf (default_in bs n k v) k v
  unfolding walk default_in
  walk_leaf zero k v len size e = refl
  walk_leaf (suc n) k v len size e = rw (← size (omega arith), e)

  pub walk_into : (n k v len : ℕ) → (n ≡ 0 → len ≡ 0) → (0 < n → len ≡ inner ks vs bs k v) → 0 < len
      → walk leaf pre ks vs bs n k v ≡ pre ++ spell (walk leaf pre ks vs bs (n - 1)) ks vs (pred (get_or bs v 0)) len
  unfolding walk
  walk_into zero k v len shut size pos = absurd (omega (arith, shut refl))
  walk_into (suc n) k v zero shut size pos = absurd (omega arith)
  walk_into (suc n) k v (suc len) shut size pos =
      let m : suc n - 1 ≡ n = omega arith in
      subst (λ (j : ℕ). walk leaf pre ks vs bs (suc n) k v ≡ pre ++ spell (walk leaf pre ks vs bs j) ks vs (pred (get_or bs v 0)) (suc len)) (sym m)
      (rw (← size (omega arith)))

-- the frame of the last of d waiting runs is 0
abbrev popped : List ℕ → ℕ → List ℕ
popped st d = set (set st (d - 1 + (d - 1)) 0) (d - 1 + (d - 1) + 1) 0

module _ {A : Type 0} (f : ℕ → ℕ → ℕ → List A) (n : ℕ) (ks vs : List ℕ) where
  pend_above : (st : List ℕ) (i x d : ℕ) → d + d ≤ i → pend f n ks vs (set st i x) d ≡ pend f n ks vs st d
  unfolding pend
  pend_above st i x zero h = refl
  pend_above st i x (suc d) h =
      rw (get_or-set_other st i (d + d) x 0 (omega arith), get_or-set_other st i (d + d + 1) x 0 (omega arith), pend_above st i x d (omega arith))

  pend_push : (st : List ℕ) (d x y : ℕ) → d + d + 1 < length st
      → pend f n ks vs (set (set st (d + d) x) (d + d + 1) y) (d + 1) ≡ spell (f (n - d)) ks vs x (y - x) ++ pend f n ks vs st d
  unfolding pend
  pend_push st d x y h =
      let s = set st (d + d) x in
      rw (
        add-one d,
        get_or-set_other s (d + d + 1) (d + d) y 0 (omega arith),
        get_or-set_same st (d + d) x 0 (omega arith),
        get_or-set_same s (d + d + 1) y 0 (omega (arith, length-set st (d + d) x)),
        pend_above s (d + d + 1) y d (omega arith),
        pend_above st (d + d) x d (omega arith),
      )

  pend_pop : (st : List ℕ) (d : ℕ) → 0 < d
      → pend f n ks vs st d
      ≡ spell (f (n - (d - 1))) ks vs (get_or st (d - 1 + (d - 1)) 0) (get_or st (d - 1 + (d - 1) + 1) 0 - get_or st (d - 1 + (d - 1)) 0) ++ pend f n ks vs st (d - 1)
  unfolding pend
  pend_pop st zero h = absurd (omega arith)
  pend_pop st (suc d) h =
      let m : suc d - 1 ≡ d = omega arith in
      rw m

  -- the last run that waits is gone on with, and its frame is 0
  pub rest_pop : (st : List ℕ) (p e d : ℕ) → p ≡ e → 0 < d
      → rest f n ks vs st p e d ≡ rest f n ks vs (popped st d) (get_or st (d - 1 + (d - 1)) 0) (get_or st (d - 1 + (d - 1) + 1) 0) (d - 1)
  unfolding rest
  rest_pop st p e d q h =
      let i = d - 1 + (d - 1) in
      rw (spell_none (f (n - d)) ks vs p (e - p) (omega arith), pend_above (set st i 0) (i + 1) 0 (d - 1) (omega arith), pend_above st i 0 (d - 1) (omega arith)) (pend_pop st d h)

  pub rest_over : (st : List ℕ) (p e : ℕ) → e ≤ p → rest f n ks vs st p e 0 ≡ []
  unfolding rest pend
  rest_over st p e h = rw (spell_none (f (n - 0)) ks vs p (e - p) (omega arith))

  -- what is left before any run waits
  pub rest_start : (st : List ℕ) (a c : ℕ) → rest f n ks vs st a (a + c) 0 ≡ spell (f n) ks vs a c
  unfolding rest pend
  rest_start st a c =
      let m : n - 0 ≡ n = omega arith in
      let k : a + c - a ≡ c = omega arith in
      rw (append-nil, m, k)

module _ {A : Type 0} (leaf : ℕ → ℕ → List A) (pre : List A) (ks vs bs : List ℕ) (n : ℕ) where
  -- a token that is not entered
  pub rest_leaf : (st : List ℕ) (p e d at len : ℕ) → p < e → Entered ks vs bs p (n - d) at len → len ≡ 0
      → rest (walk leaf pre ks vs bs) n ks vs st p e d
      ≡ standing leaf (default_in bs (n - d) (get_or ks p 0) (get_or vs p 0)) (get_or ks p 0) (get_or vs p 0) ++ rest (walk leaf pre ks vs bs) n ks vs st (p + 1) e d
  unfolding rest
  rest_leaf st p e d at len h i z =
      rw (spell_step (walk leaf pre ks vs bs (n - d)) ks vs p e h, walk_leaf leaf pre ks vs bs (n - d) (get_or ks p 0) (get_or vs p 0) len i.size z, append_assoc)

  -- a variable that is entered: what follows it waits
  pub rest_into : (st : List ℕ) (p e d at len : ℕ) → p < e → Entered ks vs bs p (n - d) at len → 0 < len → d + d + 1 < length st
      → rest (walk leaf pre ks vs bs) n ks vs st p e d
      ≡ pre ++ rest (walk leaf pre ks vs bs) n ks vs (set (set st (d + d) (p + 1)) (d + d + 1) e) at (at + len) (d + 1)
  unfolding rest
  rest_into st p e d at len h i z r =
      let m : at + len - at ≡ len = omega arith in
      let q : n - (d + 1) ≡ n - d - 1 = omega arith in
      rw (
        spell_step (walk leaf pre ks vs bs (n - d)) ks vs p e h,
        walk_into leaf pre ks vs bs (n - d) (get_or ks p 0) (get_or vs p 0) len i.shut i.size z,
        pend_push (walk leaf pre ks vs bs) n ks vs st d (p + 1) e r,
        m,
        q,
        i.place z,
      )
      (simp append_assoc)

-- the measure of a walk: one for each token, one more for each run that is entered and one for each that waits
tick : ℕ → ℕ → List ℕ
tick k v = 0 ∷ []

enters : List ℕ
enters = 0 ∷ 0 ∷ []

pub steps : List ℕ → List ℕ → List ℕ → ℕ → List ℕ → ℕ → ℕ → ℕ → ℕ
steps ks vs bs n st p e d = length (rest (walk tick enters ks vs bs) n ks vs st p e d) + d

module _ (ks vs bs : List ℕ) (n : ℕ) where
  pub steps_pop : (st : List ℕ) (p e d : ℕ) → p ≡ e → 0 < d
      → steps ks vs bs n (popped st d) (get_or st (d - 1 + (d - 1)) 0) (get_or st (d - 1 + (d - 1) + 1) 0) (d - 1) < steps ks vs bs n st p e d
  unfolding steps
  steps_pop st p e d q h = omega (arith, ap length (rest_pop (walk tick enters ks vs bs) n ks vs st p e d q h))

  pub steps_into : (st : List ℕ) (p e d at len : ℕ) → p < e → Entered ks vs bs p (n - d) at len → 0 < len → d + d + 1 < length st
      → steps ks vs bs n (set (set st (d + d) (p + 1)) (d + d + 1) e) at (at + len) (d + 1) < steps ks vs bs n st p e d
  unfolding steps enters
  steps_into st p e d at len h i z r = omega (arith, ap length (rest_into tick enters ks vs bs n st p e d at len h i z r))

-- the bounds, after a push and a pop
pub sound_push : (ks : List ℕ) (n : ℕ) (st : List ℕ) (p e d at len : ℕ) → Sound ks n st (stand p e d) → p < e → d < n → at + len ≤ length ks
    → Sound ks n (set (set st (d + d) (p + 1)) (d + d + 1) e) (stand at (at + len) (d + 1))
sound_push ks n st p e d at len s h r w =
    let s₁ = set st (d + d) (p + 1) in
    let l₁ = length-set st (d + d) (p + 1) in
    let l₂ = length-set s₁ (d + d + 1) e in
    record {
      order = omega arith;
      within = w;
      depth = omega arith;
      room = omega (arith, s.room);
      frames = λ j hj. go j hj (ℕ_discrete j d);
    }
  where
    go : (j : ℕ) → j < d + 1 → Dec (j ≡ d)
        → (get_or (set (set st (d + d) (p + 1)) (d + d + 1) e) (j + j) 0 ≤ get_or (set (set st (d + d) (p + 1)) (d + d + 1) e) (j + j + 1) 0)
        × (get_or (set (set st (d + d) (p + 1)) (d + d + 1) e) (j + j + 1) 0 ≤ length ks)
    go j hj (yes q) =
        rw (
          q,
          get_or-set_other (set st (d + d) (p + 1)) (d + d + 1) (d + d) e 0 (omega arith),
          get_or-set_same st (d + d) (p + 1) 0 (omega (arith, s.room)),
          get_or-set_same (set st (d + d) (p + 1)) (d + d + 1) e 0 (omega (arith, s.room, length-set st (d + d) (p + 1))),
        )
        (omega (arith, s.within))
    go j hj (no q) =
        rw (
          get_or-set_other (set st (d + d) (p + 1)) (d + d + 1) (j + j) e 0 (omega (arith, q)),
          get_or-set_other st (d + d) (j + j) (p + 1) 0 (omega (arith, q)),
          get_or-set_other (set st (d + d) (p + 1)) (d + d + 1) (j + j + 1) e 0 (omega (arith, q)),
          get_or-set_other st (d + d) (j + j + 1) (p + 1) 0 (omega (arith, q)),
        )
        (s.frames j (omega (arith, q)))

pub sound_pop : (ks : List ℕ) (n : ℕ) (st : List ℕ) (p e d : ℕ) → Sound ks n st (stand p e d) → 0 < d
    → Sound ks n (popped st d) (stand (get_or st (d - 1 + (d - 1)) 0) (get_or st (d - 1 + (d - 1) + 1) 0) (d - 1))
sound_pop ks n st p e d s h =
    let i = d - 1 + (d - 1) in
    let f = s.frames (d - 1) (omega arith) in
    record {
      order = f.0;
      within = f.1;
      depth = omega (arith, s.depth);
      room = omega (arith, s.room, length-set st i 0, length-set (set st i 0) (i + 1) 0);
      frames = λ j hj. rw (
        get_or-set_other (set st i 0) (i + 1) (j + j) 0 0 (omega arith),
        get_or-set_other st i (j + j) 0 0 (omega arith),
        get_or-set_other (set st i 0) (i + 1) (j + j + 1) 0 0 (omega arith),
        get_or-set_other st i (j + j + 1) 0 0 (omega arith),
      )
          (s.frames j (omega arith));
    }

-- ---- for the loops over `settle`

module _ (ks vs bs : List ℕ) (n : ℕ) where
  pub left_start : (st : List ℕ) (a c : ℕ) (st' : List ℕ) (x : Stand) → Settled ks vs bs n st (stand a (a + c) 0) st' x
      → left ks vs bs n st' x ≡ walked ks vs bs n a c
  left_start st a c st' x s = s.same ∙ rest_start (walk one [] ks vs bs) n ks vs st a c

  -- one turn: the token at the place, and then what is left at the next one
  pub turn : (st : List ℕ) (x : Stand) (st' : List ℕ) (x' : Stand) → Ready ks vs bs n st x → x.at < x.end
      → Settled ks vs bs n st (stand (x.at + 1) x.end x.depth) st' x'
      → left ks vs bs n st x ≡ standing_at ks vs bs (n - x.depth) x.at ++ left ks vs bs n st' x'
  turn st x st' x' r h s =
      r.head h ∙ ap {B = List Item} (λ l. standing_at ks vs bs (n - x.depth) x.at ++ l) (sym s.same)

  -- its bytes, and how many they are
  module _ (st : List ℕ) (x : Stand) (st' : List ℕ) (x' : Stand) (t : left ks vs bs n st x ≡ standing_at ks vs bs (n - x.depth) x.at ++ left ks vs bs n st' x') where
    pub turn_bytes : flat_bytes (left ks vs bs n st x) ≡ flat_bytes (standing_at ks vs bs (n - x.depth) x.at) ++ flat_bytes (left ks vs bs n st' x')
    turn_bytes = ap flat_bytes t ∙ over-append plain (standing_at ks vs bs (n - x.depth) x.at) (left ks vs bs n st' x')

    pub turn_length : length (flat_bytes (left ks vs bs n st x)) ≡ length (flat_bytes (standing_at ks vs bs (n - x.depth) x.at)) + length (flat_bytes (left ks vs bs n st' x'))
    turn_length = ap length turn_bytes ∙ length-append (flat_bytes (standing_at ks vs bs (n - x.depth) x.at)) (flat_bytes (left ks vs bs n st' x'))

-- two words stored within the frames
pub apart_push : (n : ℕ) (st₀ st : List ℕ) (d x y : ℕ) → Apart n st₀ st → d < n → Apart n st₀ (set (set st (d + d) x) (d + d + 1) y)
apart_push n st₀ st d x y h r j m =
    get_or-set_other (set st (d + d) x) (d + d + 1) j y 0 (omega arith) ∙ get_or-set_other st (d + d) j x 0 (omega arith) ∙ h j m

-- the frames past those of waiting runs are 0, after a push and a pop
pub bare_push : (st : List ℕ) (d x y : ℕ) → Bare (d + d) st → Bare (d + 1 + (d + 1)) (set (set st (d + d) x) (d + d + 1) y)
bare_push st d x y h j m =
    get_or-set_other (set st (d + d) x) (d + d + 1) j y 0 (omega arith) ∙ get_or-set_other st (d + d) j x 0 (omega arith) ∙ h j (omega arith)

pub bare_pop : (st : List ℕ) (d : ℕ) → 0 < d → d + d ≤ length st → Bare (d + d) st → Bare (d - 1 + (d - 1)) (popped st d)
bare_pop st d z r h j m = go (ℕ_discrete j (d - 1 + (d - 1) + 1)) (ℕ_discrete j (d - 1 + (d - 1)))
  where
    go : Dec (j ≡ d - 1 + (d - 1) + 1) → Dec (j ≡ d - 1 + (d - 1)) → get_or (popped st d) j 0 ≡ 0
    go (yes q) _ = rw q (get_or-set_same (set st (d - 1 + (d - 1)) 0) (d - 1 + (d - 1) + 1) 0 0 (omega (arith, length-set st (d - 1 + (d - 1)) 0)))
    go (no q) (yes u) = get_or-set_other (set st (d - 1 + (d - 1)) 0) (d - 1 + (d - 1) + 1) j 0 0 (omega (arith, q)) ∙ rw u (get_or-set_same st (d - 1 + (d - 1)) 0 0 (omega arith))
    go (no q) (no u) = get_or-set_other (set st (d - 1 + (d - 1)) 0) (d - 1 + (d - 1) + 1) j 0 0 (omega (arith, q)) ∙ get_or-set_other st (d - 1 + (d - 1)) j 0 0 (omega (arith, u)) ∙ h j (omega (arith, q, u))

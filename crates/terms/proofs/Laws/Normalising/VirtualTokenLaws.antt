-- The tokens that normalising sees, word by word.
use mathlib.Core.Path.{◌≡◌, refl, sym, ap, ◌∙◌}
use mathlib.Core.List.{List}
use Prim.Native.Nat.{ℕ, zero, suc, ◌+◌, ◌-◌, ◌*◌, ◌/◌, ◌%◌, ◌≤◌, ◌<◌}
use native.Mathlib.Decide.{dec_lt}
use native.Mathlib.Nat.{le-div_iff_mul-le, suc-mul}
use native.Mathlib.Numerals.{add-one}
use native.Mathlib.Omega.{arith}
use borrow.Author.Tests.{lt-ltb, le-ltb, le-leb, lt-leb, eq-eqb, ne_eqb}
use lib.ListN.{length, get_or, get_or-eq_default}
use Rattle.std.specs.Prelude.{Option, Some, None, unwrap_or, MatchOption}
use Rattle.terms.specs.declared.Origin.{Origin}
use Rattle.terms.specs.declared.Spot.{Spot}
use Rattle.terms.specs.declared.Spot.TheVariants.{Lent, Error, Head, Nowhere}
use Rattle.terms.specs.Words.Tokens.{spell, toks}
use Rattle.terms.specs.Term.{Term, Parts, items, part_items}
use Rattle.terms.specs.Words.Held.{Held, HeldParts}
use Rattle.terms.specs.Tree.{error}
use Rattle.terms.specs.Words.TokenBytes.{spelt}
use Rattle.terms.specs.Words.VirtualTokens.{tabulate, width, size_of, copied, made_token, made_at, seen_at, word_at, Located, count, seen, view, Sight}
use Rattle.terms.proofs.Laws.Format.WriteLaws.{spelt_toks}

-- ---- tables

tabulate_length : (f : ℕ → ℕ) (a n : ℕ) → length (tabulate f a n) ≡ n
unfolding tabulate
tabulate_length f a zero = refl
tabulate_length f a (suc n) = ap suc (tabulate_length f (suc a) n)

tabulate_at : (f : ℕ → ℕ) (a n j : ℕ) → j < n → get_or (tabulate f a n) j 0 ≡ f (a + j)
unfolding tabulate
tabulate_at f a zero j h = absurd (omega arith)
tabulate_at f a (suc n) zero h = ap f (omega arith)
tabulate_at f a (suc n) (suc j) h = tabulate_at f (suc a) n j (omega arith) ∙ ap f (omega arith)

-- ---- which lent token is copied

module _ (g : Origin) (len r t p : ℕ) where
  pub copied_owner : r ≤ g.span → p ≡ g.owner + r - 1 → p ≡ copied g len r t
  copied_owner h e = rw (le-leb r g.span h) e

  module _ (h : g.span < r) where
    pub copied_interface : r ≤ g.span + g.row → p ≡ g.interface + (r - g.span) → p ≡ copied g len r t
    copied_interface k e = rw (lt-leb r g.span h, le-leb r (g.span + g.row) k) e

    pub copied_member : g.span + g.row < r → r ≡ g.span + g.row + 1 → p ≡ t → p ≡ copied g len r t
    copied_member k q e = rw (lt-leb r g.span h, lt-leb r (g.span + g.row) k, eq-eqb r (g.span + g.row + 1) q) e

    pub copied_last : g.span + g.row < r → (r ≡ g.span + g.row + 1 → ⊥) → p ≡ len → p ≡ copied g len r t
    copied_last k q e = rw (lt-leb r g.span h, lt-leb r (g.span + g.row) k, ne_eqb r (g.span + g.row + 1) q) e

-- ---- the words

pub width_is : (g : Origin) → width g ≡ g.span + g.row + 3
unfolding width
width_is g = refl

pub width_some : (g : Origin) → 0 < width g
width_some g = omega (arith, width_is g)

module _ (ws : List ℕ) (g : Option Origin) (e f : ℕ) where
  pub seen_length : length (seen ws g e f) ≡ count (length ws) g
  unfolding seen
  seen_length = tabulate_length (seen_at ws g e f) 0 (count (length ws) g)

  module _ (q : ℕ) where
    at_lent : q < length ws → seen_at ws g e f q ≡ get_or ws q 0
    unfolding seen_at
    at_lent h = rw (lt-ltb q (length ws) h)

    at_error : q ≡ length ws → seen_at ws g e f q ≡ e
    unfolding seen_at
    at_error h = rw (le-ltb q (length ws) (omega arith), eq-eqb q (length ws) h)

    at_made : length ws < q → seen_at ws g e f q ≡ made_at ws g f (q - (length ws + 1))
    unfolding seen_at
    at_made h = rw (le-ltb q (length ws) (omega arith), ne_eqb q (length ws) (omega arith))

  past : (q : ℕ) → count (length ws) g ≤ q → seen_at ws g e f q ≡ 0
  past q h = at_made q (omega arith) ∙ go g (q - (length ws + 1)) (omega arith)
    where
      go : (g : Option Origin) (d : ℕ) → (length ws + 1) * size_of g ≤ d → made_at ws g f d ≡ 0
      go None d le = refl
      go (Some o) d le =
          let far : length ws + 1 ≤ d / width o = (le-div_iff_mul-le {k = width o} (width_some o)).1 le in
          rw (lt-ltb (length ws) (d / width o) (omega arith))

  -- a word past the end is 0 in both
  pub seen_at_lem : (q : ℕ) → get_or (seen ws g e f) q 0 ≡ seen_at ws g e f q
  unfolding seen
  seen_at_lem q = go (dec_lt q (count (length ws) g))
    where
      go : Dec (q < count (length ws) g) → get_or (seen ws g e f) q 0 ≡ seen_at ws g e f q
      go (yes h) = tabulate_at (seen_at ws g e f) 0 (count (length ws) g) q h ∙ ap (seen_at ws g e f) (omega arith)
      go (no h) = get_or-eq_default (seen ws g e f) 0 (omega (arith, seen_length)) ∙ sym (past q (omega arith))

  pub seen_lent : (q : ℕ) → q < length ws → get_or (seen ws g e f) q 0 ≡ get_or ws q 0
  seen_lent q h = seen_at_lem q ∙ at_lent q h

  pub seen_error : (q : ℕ) → q ≡ length ws → get_or (seen ws g e f) q 0 ≡ e
  seen_error q h = seen_at_lem q ∙ at_error q h

-- ---- where a token is from, by the tests of `locate`

module _ (g : Option Origin) (len q : ℕ) where
  pub located_lent : q < len → Located g len q (Lent q)
  located_lent h = record { width = tt; is = λ ws e f l. at_lent ws g e f q (omega arith) }

  pub located_error : q ≡ len → Located g len q Error
  located_error h = record { width = tt; is = λ ws e f l. at_error ws g e f q (omega arith) }

pub located_none : (len q : ℕ) → len < q → Located None len q Nowhere
located_none len q h = record { width = tt; is = λ ws e f l. at_made ws None e f q (omega arith) }

module _ (g : Origin) (len q : ℕ) (h : len < q) (i t : ℕ) (ei : i ≡ (q - (len + 1)) % width g) (et : t ≡ (q - (len + 1)) / width g) where
  made : (ws : List ℕ) (e f : ℕ) → length ws ≡ len → seen_at ws (Some g) e f q ≡ made_token ws g f i t
  made ws e f l = at_made ws (Some g) e f q (omega arith) ∙ rw (ei, et, l) refl

  pub located_past : len < t → Located (Some g) len q Nowhere
  located_past b = record { width = tt; is = λ ws e f l. made ws e f l ∙ rw (lt-ltb (length ws) t (omega arith)) }

  pub located_head : t ≤ len → i ≡ 0 → (n : ℕ) → n ≡ width g → Located (Some g) len q (Head n)
  located_head b o n w = record { width = w; is = λ ws e f l. made ws e f l ∙ rw (le-ltb (length ws) t (omega arith), eq-eqb i 0 o) }

  pub located_copy : t ≤ len → (i ≡ 0 → ⊥) → (p : ℕ) → p ≡ copied g len i t → Located (Some g) len q (Lent p)
  located_copy b o p e = record { width = tt; is = λ ws e' f l. made ws e' f l ∙ rw (le-ltb (length ws) t (omega arith), ne_eqb i 0 o, l, e) }

  -- a lent token, or the number 0, which is what stands past the lent ones
  pub located_copied : t ≤ len → (i ≡ 0 → ⊥) → (p : Option ℕ) → ((n : ℕ) → unwrap_or p n ≡ copied g n i t) → (s : Spot) → MatchOption p (s ≡ Nowhere) (λ r. s ≡ Lent r)
      → Located (Some g) len q s
  located_copied b o (Some p) f s e = rw e (located_copy b o p (f len))
  located_copied b o None f s e = rw e record {
    width = tt;
    is = λ ws e' f' l. made ws e' f' l ∙ rw (le-ltb (length ws) t (omega arith), ne_eqb i 0 o, l, ← (f len)) (get_or-eq_default ws 0 (omega arith));
  }

-- a word as the spot says
pub spot_word : (ws : List ℕ) (g : Option Origin) (e f len q : ℕ) (s : Spot) → Located g len q s → length ws ≡ len → get_or (seen ws g e f) q 0 ≡ word_at ws e f s
spot_word ws g e f len q s w l = seen_at_lem ws g e f q ∙ w.is ws e f l

-- the places of all tokens are words
module _ (ks vs : List ℕ) (g : Option Origin) (s : Sight ks vs g) where
  pub few_kinds : length (view ks vs g).kinds < 4294967296
  few_kinds = rw (seen_length ks g 5 20) s.few

  pub few_vals : length (view ks vs g).vals < 4294967296
  few_vals = rw (seen_length vs g 1 (size_of g), s.pairs) s.few

-- so is the width of a projection
pub few_width : (ks vs : List ℕ) (g : Option Origin) → Sight ks vs g → size_of g < 4294967296
few_width ks vs g s =
    let b : (length ks + 1) * size_of g ≡ length ks * size_of g + size_of g = rw add-one (suc-mul (length ks) (size_of g)) in
    omega (arith, s.few, b)

-- ---- terms that the lent areas hold are seen where they stand

pub toks_same : (ks vs js us : List ℕ) (a b c : ℕ) → ((i : ℕ) → i < c → get_or ks (a + i) 0 ≡ get_or js (b + i) 0) → ((i : ℕ) → i < c → get_or vs (a + i) 0 ≡ get_or us (b + i) 0)
    → toks ks vs a c ≡ toks js us b c
unfolding spell
toks_same ks vs js us a b zero f g = refl
toks_same ks vs js us a b (suc c) f g =
    let e : get_or ks a 0 ≡ get_or js b 0 = ap (λ (i : ℕ). get_or ks i 0) (omega arith) ∙ f 0 (omega arith) ∙ ap (λ (i : ℕ). get_or js i 0) (omega arith) in
    let d : get_or vs a 0 ≡ get_or us b 0 = ap (λ (i : ℕ). get_or vs i 0) (omega arith) ∙ g 0 (omega arith) ∙ ap (λ (i : ℕ). get_or us i 0) (omega arith) in
    let r = toks_same ks vs js us (suc a) (suc b) c
    (λ i lt. ap (λ (j : ℕ). get_or ks j 0) (omega arith) ∙ f (suc i) (omega arith) ∙ ap (λ (j : ℕ). get_or js j 0) (omega arith))
    (λ i lt. ap (λ (j : ℕ). get_or vs j 0) (omega arith) ∙ g (suc i) (omega arith) ∙ ap (λ (j : ℕ). get_or us j 0) (omega arith)) in
    rw (e, d, r)

module _ (ks vs : List ℕ) (g : Option Origin) (s : Sight ks vs g) where
  pub seen_toks : (a c : ℕ) → a + c ≤ length ks → toks (view ks vs g).kinds (view ks vs g).vals a c ≡ toks ks vs a c
  seen_toks a c le =
      toks_same (view ks vs g).kinds (view ks vs g).vals ks vs a a c
      (λ i lt. seen_lent ks g 5 20 (a + i) (omega arith))
      (λ i lt. seen_lent vs g 1 (size_of g) (a + i) (omega (arith, s.pairs)))

  -- lent tokens write the same
  pub view_spelt : (a c : ℕ) → a + c ≤ length ks → spelt (view ks vs g).kinds (view ks vs g).vals a c ≡ spelt ks vs a c
  view_spelt a c le = spelt_toks (view ks vs g).kinds (view ks vs g).vals ks vs a a c (seen_toks a c le)

  seen_long : length ks ≤ length (view ks vs g).kinds
  seen_long = omega (arith, seen_length ks g 5 20)

  pub view_held : (p : ℕ) (t : Term) → Held ks vs p t → Held (view ks vs g).kinds (view ks vs g).vals p t
  view_held p t h = record { tokens = seen_toks p (length (items t)) h.within ∙ h.tokens; within = omega (arith, h.within, seen_long) }

  pub view_parts : (p e : ℕ) (ps : Parts) → HeldParts ks vs p e ps → HeldParts (view ks vs g).kinds (view ks vs g).vals p e ps
  view_parts p e ps h = record {
    tokens = seen_toks p (length (part_items ps)) (omega (arith, h.ends, h.within)) ∙ h.tokens;
    ends = h.ends;
    within = omega (arith, h.within, seen_long);
  }

  -- Error stands after the lent tokens
  pub view_error : Held (view ks vs g).kinds (view ks vs g).vals (length ks) error
  unfolding items spell
  view_error = record {
    tokens = rw (seen_error ks g 5 20 (length ks) refl, seen_error vs g 1 (size_of g) (length ks) (sym s.pairs));
    within = omega (arith, seen_length ks g 5 20);
  }

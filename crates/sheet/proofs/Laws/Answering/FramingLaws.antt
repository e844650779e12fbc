-- Answers in the output: the frames of short values, and a value after its opening.
use mathlib.Core.Path.{◌≡◌, refl, sym, ap, ◌∙◌}
use mathlib.Core.Bool.{Bool, true, false}
use mathlib.Core.List.{List, [], ◌∷◌, ◌++◌, append_assoc}
use Rattle.std.specs.Prelude.{Option, Some, None}
use Prim.Native.Nat.{ℕ, suc, ◌+◌, ◌-◌, ◌≤◌, ◌<◌}
use native.Mathlib.Omega.{arith}
use borrow.Author.Tests.{leb-true, leb-false}
use lib.Dec.{leb}
use native.Mathlib.Numerals.{unary_clauses}
use borrow.Rule.Slice.PartMut.{put_mid, Post-is}
use lib.ListN.{length, length-append, set, take, drop}
use lib.Seq.{sets, sets-eq, append_snoc, length-sets}
use Rattle.solver.specs.Terms.Number.{shortest, digits}
use Rattle.solver.proofs.Terms.WriteLaws.{sets_append}
use Rattle.sheet.specs.OrderTable.{Answer, refusal, outcome}
use Rattle.sheet.specs.Sheet.{framed}
use Rattle.sheet.specs.Words.FramingContract.{Framed, opening, Begun}

-- ---- frames

pub refusal_frame : (c : ℕ) → framed (refusal c) ≡ 1 ∷ c ∷ []
unfolding framed
refusal_frame c = refl

pub one_frame : (a : ℕ) → framed (outcome (a ∷ [])) ≡ 2 ∷ 0 ∷ a ∷ []
unfolding framed shortest digits
one_frame a = refl

pub value_frame : (v : List ℕ) → framed (outcome v) ≡ opening (length v) ++ v
unfolding framed
value_frame v = sym (append_snoc (shortest (suc (length v))) 0 v)

-- ---- bytes stored one by one

pub two_stores : (l : List ℕ) (i a b : ℕ) → set (set l i a) (i + 1) b ≡ sets l i (a ∷ b ∷ [])
two_stores l i a b = simp unary_clauses refl

-- a part that is replaced by as many bytes
pub put_sets : (l : List ℕ) (at : ℕ) (v : List ℕ) → at + length v ≤ length l → put_mid at (at + length v - at) l v ≡ sets l at v
put_sets l at v h =
    ap (λ (k : List ℕ). take at l ++ (v ++ k)) (Post-is at (at + length v) l (omega arith))
    ∙ sym (append_assoc (take at l) v (drop (at + length v) l))
    ∙ sym (sets-eq v l at h)

-- ---- what was written, under the frame

module _ (a : Answer) (x : List ℕ) (e : framed a ≡ x) (out₀ : List ℕ) (to : ℕ) where
  pub frame_fits : (out : List ℕ) (r : ℕ) → to + length x ≤ length out₀ → r ≡ to + length x → out ≡ sets out₀ to x → Framed a out₀ to out (Some r)
  frame_fits out r h p q = rw e (record { fits = λ k. (ap Some p, q); over = λ k. absurd (omega arith) })

  pub frame_over : (out : List ℕ) → length out₀ < to + length x → out ≡ out₀ → Framed a out₀ to out None
  frame_over out h q = rw e (record { fits = λ k. absurd (omega arith); over = λ k. (refl, q) })

-- ---- openings

pub opening_length : (n : ℕ) → length (opening n) ≡ length (shortest (suc n)) + 1
opening_length n = length-append (shortest (suc n)) (0 ∷ [])

-- a position says that the opening stands, and none that nothing does
module _ (n : ℕ) (out₀ : List ℕ) (to : ℕ) (out : List ℕ) where
  pub begun_in : (at : ℕ) → Begun n out₀ to out (Some at)
      → (to + length (opening n) + n ≤ length out₀) × (at ≡ to + length (opening n)) × (out ≡ sets out₀ to (opening n))
  begun_in at x = go (leb (to + length (opening n) + n) (length out₀)) refl
    where
      go : (b : Bool) → leb (to + length (opening n) + n) (length out₀) ≡ b
          → (to + length (opening n) + n ≤ length out₀) × (at ≡ to + length (opening n)) × (out ≡ sets out₀ to (opening n))
      go true e = let k = leb-true (to + length (opening n) + n) (length out₀) e in let p = (x.fits k).0 in (k, cc, (x.fits k).1)
      go false e = let p = (x.over (leb-false (to + length (opening n) + n) (length out₀) e)).0 in absurd (cc)

  pub begun_over : Begun n out₀ to out None → (length out₀ < to + length (opening n) + n) × (out ≡ out₀)
  begun_over x = go (leb (to + length (opening n) + n) (length out₀)) refl
    where
      go : (b : Bool) → leb (to + length (opening n) + n) (length out₀) ≡ b → (length out₀ < to + length (opening n) + n) × (out ≡ out₀)
      go true e = let p = (x.fits (leb-true (to + length (opening n) + n) (length out₀) e)).0 in absurd (cc)
      go false e = let k = leb-false (to + length (opening n) + n) (length out₀) e in (k, (x.over k).1)

  -- the position after an opening has room for the value
  pub begun_room : (at : ℕ) → Begun n out₀ to out (Some at) → at + n ≤ length out
  begun_room at x = let y = begun_in at x in omega (arith, y.0, y.1, ap length y.2, length-sets out₀ to (opening n))

-- the value after its opening, or not
module _ (v : List ℕ) (n : ℕ) (sized : n ≡ length v) (out₀ : List ℕ) (to : ℕ) (out : List ℕ) where
  pub value_in : (at : ℕ) → Begun n out₀ to out (Some at) → (out' : List ℕ) (r : ℕ) → r ≡ at + length v → out' ≡ sets out at v
      → Framed (outcome v) out₀ to out' (Some r)
  value_in at x out' r p q =
      let y = begun_in n out₀ to out at x in
      let m : length (opening n) ≡ length (opening (length v)) = ap (λ (k : ℕ). length (opening k)) sized in
      let l = length-append (opening (length v)) v in
      frame_fits (outcome v) (opening (length v) ++ v) (value_frame v) out₀ to out' r
      (omega (arith, y.0, m, l, sized))
      (omega (arith, y.1, p, m, l))
      (q
      ∙ ap (λ (o : List ℕ). sets o at v) y.2
      ∙ ap (λ (k : ℕ). sets (sets out₀ to (opening n)) k v) y.1
      ∙ sym (sets_append (opening n) v out₀ to)
      ∙ ap (λ (k : ℕ). sets out₀ to (opening k ++ v)) sized)

  pub value_over : Begun n out₀ to out None → Framed (outcome v) out₀ to out None
  value_over x =
      let y = begun_over n out₀ to out x in
      let m : length (opening n) ≡ length (opening (length v)) = ap (λ (k : ℕ). length (opening k)) sized in
      let l = length-append (opening (length v)) v in
      frame_over (outcome v) (opening (length v) ++ v) (value_frame v) out₀ to out (omega (arith, y.0, m, l, sized)) y.1

-- no value
pub no_value : (out₀ : List ℕ) (to : ℕ) (out : List ℕ) (r : Option ℕ) → Begun 0 out₀ to out r → Framed (outcome []) out₀ to out r
no_value out₀ to out (Some at) x = value_in [] 0 refl out₀ to out at x out at (omega arith) refl
no_value out₀ to out None x = value_over [] 0 refl out₀ to out x

-- how `begin_answer` tells it
pub begun : (n : ℕ) (out₀ : List ℕ) (to : ℕ) (out : List ℕ) (i : ℕ) → to + length (shortest (suc n)) + 1 + n ≤ length out₀ → i ≡ to + length (shortest (suc n)) → out ≡ sets (sets out₀ to (shortest (suc n))) i (0 ∷ [])
    → Begun n out₀ to out (Some (i + 1))
begun n out₀ to out i h p q =
    let l = opening_length n in
    record {
      fits = λ k. (ap Some (omega (arith, p, l)), q ∙ ap (λ (j : ℕ). sets (sets out₀ to (shortest (suc n))) j (0 ∷ [])) p ∙ sym (sets_append (shortest (suc n)) (0 ∷ []) out₀ to));
      over = λ k. absurd (omega (arith, l));
    }

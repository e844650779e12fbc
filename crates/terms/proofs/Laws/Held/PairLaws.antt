-- A walk over two rows, by the parts that they hold.
use mathlib.Core.Path.{◌≡◌, refl, sym, ap, subst, ◌∙◌}
use mathlib.Core.List.{List}
use Prim.Native.Nat.{ℕ, ◌+◌, ◌≤◌}
use native.Mathlib.Omega.{arith}
use lib.ListN.{length, get_or, length-append}
use Rattle.terms.specs.declared.Part.{Part}
use Rattle.terms.specs.Term.{Term, Parts, end, num, sub, items, part_items}
use Rattle.terms.specs.Words.Held.{HeldParts}
use Rattle.std.specs.Prelude.{Some}
use Rattle.terms.specs.declared.PairStep.{PairStep}
use Rattle.terms.specs.declared.PairWalk.{PairWalk}
use Rattle.terms.specs.declared.Tokens.{Tokens}
use Rattle.terms.specs.Words.PairsContract.{NumberFirst, TermFirst, Meets, Steps}
use Rattle.terms.proofs.Laws.Held.HeldLaws.{held_sub, items_some, row_num, row_sub}
use Rattle.terms.proofs.Laws.Held.FlatLaws.{held_one}
use Rattle.terms.proofs.Laws.Held.SameLaws.{span_held}

-- the first term of a row lies within it
pub row_long : (ks vs : List ℕ) (p e : ℕ) (t : Term) (r : Parts) → HeldParts ks vs p e (sub t r) → p + length (items t) ≤ e
unfolding items
row_long ks vs p e t r h = omega (arith, h.ends, length-append (items t) (part_items r))

-- a row that ends at e begins with a number at i, and goes on from c
pub record FirstNumber (ks vs : List ℕ) (ps : Parts) (i c e : ℕ) : Type 0 where
  pub value : ℕ
  pub rest : Parts
  pub is : ps ≡ num value rest
  pub reads : get_or vs i 0 ≡ value
  pub behind : HeldParts ks vs c e rest

-- it begins with a term, whose tokens are x
pub record FirstTerm (ks vs : List ℕ) (ps : Parts) (x : Part) (c e : ℕ) : Type 0 where
  pub term : Term
  pub rest : Parts
  pub is : ps ≡ sub term rest
  pub held : HeldParts ks vs x.from x.end (sub term end)
  pub wide : x.end ≡ x.from + length (items term)
  pub behind : HeldParts ks vs c e rest

module _ {ks vs : List ℕ} {a : Part} {e : ℕ} {ps : Parts} (h : HeldParts ks vs a.from e ps) (le : a.end ≤ e) where
  pub first_number : {i c : ℕ} → NumberFirst ks a i c → FirstNumber ks vs ps i c e
  first_number {i} {c} f =
      let x = row_num ks vs a.from e ps h (omega (arith, f.1)) f.2 in
      record { value = x.0; rest = x.1; is = x.2; reads = ap (λ (k : ℕ). get_or vs k 0) f.0 ∙ x.3; behind = subst (λ (k : ℕ). HeldParts ks vs k e x.1) (sym f.3) x.4 }

  -- the walk may end before the row does, but not within a term
  pub first_term : {x : Part} {c : ℕ} → ((t : Term) (r : Parts) → ps ≡ sub t r → a.from + length (items t) ≤ a.end) → TermFirst ks vs a x c → FirstTerm ks vs ps x c e
  first_term {x} {c} w f =
      let y = row_sub ks vs a.from e ps h (omega (arith, f.0, f.1, f.2)) f.3 in
      let q = held_sub ks vs a.from e y.0 y.1 (subst (λ (r : Parts). HeldParts ks vs a.from e r) y.2 h) in
      let s = span_held ks vs a.from y.0 q.0 in
      let n : x.end ≡ a.from + length (items y.0) = f.5 (omega (arith, s, items_some y.0)) (omega (arith, s, w y.0 y.1 y.2)) ∙ ap (λ (k : ℕ). a.from + k) s in
      record {
        term = y.0;
        rest = y.1;
        is = y.2;
        held = subst (λ (k : ℕ). HeldParts ks vs k x.end (sub y.0 end)) (sym f.0) (subst (λ (k : ℕ). HeldParts ks vs a.from k (sub y.0 end)) (sym n) (held_one ks vs a.from (length (items y.0)) y.0 q.0 refl));
        wide = omega (arith, n, f.0);
        behind = subst (λ (k : ℕ). HeldParts ks vs k e y.1) (sym (f.4 ∙ n)) q.1;
      }

-- a walk to the end of the row
pub row_term : {ks vs : List ℕ} {a : Part} {ps : Parts} → HeldParts ks vs a.from a.end ps → {x : Part} {c : ℕ} → TermFirst ks vs a x c → FirstTerm ks vs ps x c a.end
row_term {ks} {vs} {a} h f =
    first_term h (omega arith) (λ t r e. row_long ks vs a.from a.end t r (subst (λ (l : Parts). HeldParts ks vs a.from a.end l) e h)) f

-- a step of a walk over these tokens
pub over_pair : (x : Tokens) (s t : PairWalk) {k l : PairStep} → k ≡ l → s.tokens ≡ x → Steps s (Some k) t
    → Meets x.kinds.now x.vals.now s.a s.b (Some l) t.a.from t.b.from × (t.a.end ≡ s.a.end) × (t.b.end ≡ s.b.end) × (t.tokens ≡ x)
over_pair x s t {k} {l} o e m =
    let n = subst (λ (y : PairStep). Meets s.tokens.kinds.now s.tokens.vals.now s.a s.b (Some y) t.a.from t.b.from) o m.0 in
    (subst (λ (y : Tokens). Meets y.kinds.now y.vals.now s.a s.b (Some l) t.a.from t.b.from) e n, m.1, m.2, m.3 ∙ e)

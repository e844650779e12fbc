-- What is written with binders replaced is the bytes of the substituted term, where the areas hold the term.
use mathlib.Core.Path.{◌≡◌, refl, sym, ap, ◌∙◌}
use mathlib.Core.List.{List, ◌∷◌, ◌++◌, append_assoc, append-nil}
use mathlib.Core.Option.{Option, none}
use Prim.Native.Nat.{ℕ, suc, ◌+◌, ◌-◌, ◌%◌, ◌≤◌, ◌<◌}
use native.Mathlib.Omega.{arith}
use lib.ListN.{length, get_or}
use Rattle.terms.specs.declared.Choice.{Choice}
use Rattle.terms.specs.declared.Choice.TheVariants.{Keep, By, Unknown}
use Rattle.terms.specs.Number.{shortest}
use Rattle.terms.specs.Words.Tokens.{spell}
use Rattle.terms.specs.Term.{Term, Parts, var, node, end, num, sub, items, bytes, part_bytes}
use Rattle.terms.specs.Words.Held.{Held, HeldParts}
use Rattle.terms.specs.Words.TokenBytes.{plain, spelt}
use Rattle.terms.specs.Shape.{Shape, layout}
use Rattle.terms.specs.Formed.{Formed, Fit, after_number, after_term}
use Rattle.terms.specs.Tree.{unknown}
use Rattle.terms.specs.Substitution.{or, substitute_once, substitute_row}
use Rattle.terms.specs.Words.FindContract.{stride}
use Rattle.terms.specs.Words.RewriteContract.{piece, pace, pieces, Agrees}
use Rattle.terms.proofs.Laws.Format.WriteLaws.{held_bytes}
use Rattle.terms.proofs.Laws.Held.HeldLaws.{held_first, held_node, held_num, held_sub, items_some, head_kind, head_value}
use Rattle.terms.proofs.Laws.Replacing.FindLaws.{stride_held}
use Rattle.terms.proofs.Laws.Replacing.RewriteLaws.{pieces_step, pieces_end}

module _ (ks vs : List ℕ) (choice : ℕ → Choice) (f : Term → Option Term)
    (numbers : (p : ℕ) → get_or ks p 0 ≡ 0 → choice p ≡ Keep)
    (agrees : (p : ℕ) (t : Term) → Held ks vs p t → Formed t → Agrees ks vs (choice p) (f t)) where
  -- what is written from p up to e
  abbrev from : ℕ → ℕ → List ℕ
  from p e = pieces ks vs choice (e - p) p e

  -- a token that is kept
  kept : (p e : ℕ) → p < e → choice p ≡ Keep → (k v : ℕ) → get_or ks p 0 ≡ k → get_or vs p 0 ≡ v → from p e ≡ plain k v ++ from (p + 1) e
  unfolding piece pace spell
  kept p e h q k v ek ev =
      let z : plain (get_or ks p 0) (get_or vs p 0) ≡ plain k v = rw (ek, ev) in
      pieces_step ks vs choice p e h Keep (sym q) 1 refl
      ∙ ap (λ (l : List ℕ). l ++ from (p + 1) e) (append-nil (plain (get_or ks p 0) (get_or vs p 0)) ∙ z)

  -- the bytes of what was chosen
  chosen_bytes : (p q : ℕ) (u : Term) → Held ks vs q u → piece ks vs p (By q) ≡ bytes u
  unfolding piece
  chosen_bytes p q u h = ap (λ (n : ℕ). spelt ks vs q n) (stride_held ks vs q (length ks - q) u h (omega (arith, h.within))) ∙ held_bytes ks vs q u h

  unknown_bytes : (p : ℕ) → piece ks vs p Unknown ≡ bytes unknown
  unfolding piece bytes
  unknown_bytes p = refl

  -- a term that stands at p: replaced, or kept as `stay`
  module _ (t : Term) (p e : ℕ) (h : Held ks vs p t) (l : p + length (items t) ≤ e) where
    swapped : (c : Choice) → choice p ≡ c → (n : ℕ) → n ≡ pace ks vs p e c → n ≡ length (items t) → (x : List ℕ) → piece ks vs p c ≡ x → from p e ≡ x ++ from (p + length (items t)) e
    swapped c q n k m x y =
        pieces_step ks vs choice p e (omega (arith, items_some t)) c (sym q) n k
        ∙ ap (λ (i : ℕ). piece ks vs p c ++ from (p + i) e) m ∙ ap (λ (b : List ℕ). b ++ from (p + length (items t)) e) y

    place : (stay : Term) → Formed t → (f t ≡ none → choice p ≡ Keep → from p e ≡ bytes stay ++ from (p + length (items t)) e)
        → from p e ≡ bytes (or (f t) stay) ++ from (p + length (items t)) e
    unfolding pace
    place stay w s = go (choice p) refl (agrees p t h w)
      where
        far : stride ks vs p (e - p) ≡ length (items t)
        far = stride_held ks vs p (e - p) t h (omega arith)

        go : (c : Choice) → choice p ≡ c → Agrees ks vs c (f t) → from p e ≡ bytes (or (f t) stay) ++ from (p + length (items t)) e
        go Keep q a = rw a (s a q)
        go (By r) q a = rw a.1 (swapped (By r) q _ refl far _ (chosen_bytes p r a.0 a.2))
        go Unknown q a = rw a (swapped Unknown q _ refl far _ (unknown_bytes p))

  mutual
    unfolding substitute_once bytes plain items head_kind head_value Formed

    term_bytes : (t : Term) (p e : ℕ) → Held ks vs p t → Formed t → p + length (items t) ≤ e
        → from p e ≡ bytes (substitute_once f t) ++ from (p + length (items t)) e
    term_bytes (var v) p e h w l =
        let x = held_first ks vs p (var v) h in
        place (var v) p e h l (var v) w (λ n q. kept p e (omega arith) q 1 v x.0 x.1)
    term_bytes (node k ps) p e h w l =
        let x = held_first ks vs p (node k ps) h in
        let m = p + length (items (node k ps)) in
        let r = row_bytes (layout k) ps (p + 1) m e (held_node ks vs p k ps h) w.1 l in
        place (node k ps) p e h l (node k (substitute_row f ps)) w
        (λ n q. kept p e (omega arith) q (suc (suc k)) _ x.0 x.1 ∙ ap (λ (b : List ℕ). (k % 256) ∷ b) r)

    row_bytes : (r : Shape) (ps : Parts) (p m e : ℕ) → HeldParts ks vs p m ps → Fit r ps → m ≤ e → from p e ≡ part_bytes (substitute_row f ps) ++ from m e
    row_bytes r end p m e h w l = ap (λ (i : ℕ). from i e) (omega (arith, h.ends))
    row_bytes r (num n ps) p m e h w l =
        let x = held_num ks vs p m n ps h in
        kept p e (omega (arith, h.ends)) (numbers p x.0) 0 n x.0 x.1
        ∙ ap (λ (b : List ℕ). shortest n ++ b) (row_bytes (after_number r n) ps (p + 1) m e x.2 w.1 l)
        ∙ sym (append_assoc (shortest n) (part_bytes (substitute_row f ps)) (from m e))
    row_bytes r (sub t ps) p m e h w l =
        let x = held_sub ks vs p m t ps h in
        term_bytes t p e x.0 w.1 (omega (arith, x.1.ends))
        ∙ ap (λ (b : List ℕ). bytes (substitute_once f t) ++ b) (row_bytes (after_term r) ps (p + length (items t)) m e x.1 w.2 l)
        ∙ sym (append_assoc (bytes (substitute_once f t)) (part_bytes (substitute_row f ps)) (from m e))

  -- a term alone
  pub substituted_bytes : (t : Term) (p c : ℕ) → Held ks vs p t → Formed t → c ≡ length (items t) → pieces ks vs choice (p + c - p) p (p + c) ≡ bytes (substitute_once f t)
  substituted_bytes t p c h w l =
      term_bytes t p (p + c) h w (omega arith)
      ∙ ap (λ (b : List ℕ). bytes (substitute_once f t) ++ b) (pieces_end ks vs choice (p + length (items t)) (p + c) (omega arith))
      ∙ append-nil (bytes (substitute_once f t))

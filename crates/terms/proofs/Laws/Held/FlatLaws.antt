-- A node is entered by putting its row before what is left: the walks over whole terms are walks over one row.
use mathlib.Core.Path.{◌≡◌, refl, sym, ap, subst}
use mathlib.Core.List.{List, [], append-nil}
use Prim.Native.Nat.{ℕ, zero, suc, ◌+◌}
use native.Mathlib.Numerals.{add-one}
use native.Mathlib.Omega.{arith}
use lib.ListN.{length, length-append}
use Rattle.terms.specs.Words.Tokens.{spell}
use Rattle.terms.specs.Term.{Term, Parts, node, end, num, sub, ◌+++◌, items, part_items}
use Rattle.terms.specs.Words.Held.{Held, HeldParts}
use Rattle.terms.specs.Shape as shape
use Rattle.terms.specs.Shape.{Shape, many_terms, many_members}
use Rattle.terms.specs.Formed.{Fit, TakesNumber, TakesTerm, after_number, after_term}
use Rattle.terms.proofs.Laws.Format.ReadSequenceLaws.{items_append}

-- ---- one shape and then another

unfoldable pub join : Shape → Shape → Shape
join shape.done r = r
join (shape.code limit s) r = shape.code limit (join s r)
join (shape.number f s) r = shape.number f (join s r)
join (shape.term s) r = shape.term (join s r)
join (shape.terms s) r = shape.terms (join s r)
join (shape.members s) r = shape.members (join s r)
join (shape.member n least s) r = shape.member n least (join s r)

join_terms : (n : ℕ) (s r : Shape) → many_terms n (join s r) ≡ join (many_terms n s) r
unfolding join many_terms
join_terms zero s r = refl
join_terms (suc n) s r = ap shape.term (join_terms n s r)

join_members : (n least : ℕ) (s r : Shape) → many_members n least (join s r) ≡ join (many_members n least s) r
unfolding join many_members
join_members zero least s r = refl
join_members (suc n) least s r = refl

takes_number : (s r : Shape) (n : ℕ) → TakesNumber s n → TakesNumber (join s r) n
unfolding join TakesNumber
takes_number shape.done r n h = absurd h
takes_number (shape.code limit s) r n h = h
takes_number (shape.number f s) r n h = h
takes_number (shape.term s) r n h = absurd h
takes_number (shape.terms s) r n h = h
takes_number (shape.members s) r n h = h
takes_number (shape.member k least s) r n h = h

after_number_lem : (s r : Shape) (n : ℕ) → TakesNumber s n → join (after_number s n) r ≡ after_number (join s r) n
unfolding join TakesNumber after_number
after_number_lem shape.done r n h = absurd h
after_number_lem (shape.code limit s) r n h = refl
after_number_lem (shape.number f s) r n h = refl
after_number_lem (shape.term s) r n h = absurd h
after_number_lem (shape.terms s) r n h = sym (join_terms n s r)
after_number_lem (shape.members s) r n h = sym (join_members n 0 s r)
after_number_lem (shape.member k least s) r n h = ap shape.term (sym (join_members k (n + 1) s r))

takes_term : (s r : Shape) → TakesTerm s → TakesTerm (join s r)
unfolding join TakesTerm
takes_term shape.done r h = absurd h
takes_term (shape.code limit s) r h = absurd h
takes_term (shape.number f s) r h = absurd h
takes_term (shape.term s) r h = tt
takes_term (shape.terms s) r h = absurd h
takes_term (shape.members s) r h = absurd h
takes_term (shape.member k least s) r h = absurd h

after_term_lem : (s r : Shape) → TakesTerm s → join (after_term s) r ≡ after_term (join s r)
unfolding join TakesTerm after_term
after_term_lem shape.done r h = absurd h
after_term_lem (shape.code limit s) r h = absurd h
after_term_lem (shape.number f s) r h = absurd h
after_term_lem (shape.term s) r h = refl
after_term_lem (shape.terms s) r h = absurd h
after_term_lem (shape.members s) r h = absurd h
after_term_lem (shape.member k least s) r h = absurd h

join_done : (s r : Shape) → s ≡ shape.done → join s r ≡ r
unfolding join
join_done s r e = ap (λ (x : Shape). join x r) e

-- a row that fits, and then another
pub fit_append : (ps qs : Parts) (s r : Shape) → Fit s ps → Fit r qs → Fit (join s r) (ps +++ qs)
unfolding Fit
fit_append end qs s r f g = subst (λ (x : Shape). Fit x qs) (sym (join_done s r f)) g
fit_append (num n ps) qs s r f g = (takes_number s r n f.0, subst (λ (x : Shape). Fit x (ps +++ qs)) (after_number_lem s r n f.0) (fit_append ps qs (after_number s n) r f.1 g))
fit_append (sub t ps) qs s r f g = (takes_term s r f.0, f.1, subst (λ (x : Shape). Fit x (ps +++ qs)) (after_term_lem s r f.0) (fit_append ps qs (after_term s) r f.2 g))

-- ---- rows in the areas

module _ (ks vs : List ℕ) where
  -- a node that comes next is entered: its row, and then what is left
  pub held_enter : (i e k : ℕ) (ps rest : Parts) → HeldParts ks vs i e (sub (node k ps) rest) → HeldParts ks vs (i + 1) e (ps +++ rest)
  unfolding items spell
  held_enter i e k ps rest h =
      let q = h.tokens in
      let n = items_append ps rest in
      let l = length-append (part_items ps) (part_items rest) in
      record { tokens = rw (add-one, n) (cc); ends = omega (arith, h.ends, ap length n); within = h.within }

  -- a term as a row
  pub held_one : (p n : ℕ) (t : Term) → Held ks vs p t → n ≡ length (items t) → HeldParts ks vs p (p + n) (sub t end)
  unfolding items
  held_one p n t h e =
      let l = length-append (items t) [] in
      record { tokens = rw append-nil h.tokens; ends = omega arith; within = omega (arith, h.within) }

  -- the same, by where it ends
  pub held_whole : {i p e : ℕ} (t : Term) → i ≡ p → e ≡ p + length (items t) → Held ks vs p t → HeldParts ks vs i e (sub t end)
  held_whole {i} {p} {e} t a b h = rw (a, b) (held_one p (length (items t)) t h refl)

-- Whether a term is formed, decided.
use mathlib.Core.Path.{◌≡◌, refl}
use mathlib.Core.Bool.{Bool, true, false}
use Prim.Native.Nat.{ℕ}
use native.Mathlib.Decide.{dec_lt, dec_le}
use lib.Dec.{eqb, ltb}
use Rattle.terms.specs.Result.{pick}
use Rattle.terms.specs.Term.{Term, Parts, var, node, end, num, sub}
use Rattle.terms.specs.Shape as shape
use Rattle.terms.specs.Shape.{Shape, kind_of, layout, ceiling}
use Rattle.terms.specs.Formed.{TakesNumber, after_number, TakesTerm, after_term, Formed, Fit}
use Rattle.unify.specs.Term.{clash}

both? : {A B : Type 0} → Dec A → Dec B → Dec (A × B)
both? (yes a) (yes b) = yes (a, b)
both? (yes a) (no b) = no (λ p. b p.1)
both? (no a) d = no (λ p. a p.0)

three? : {A B C : Type 0} → Dec A → Dec B → Dec C → Dec (A × B × C)
three? (yes a) (yes b) (yes c) = yes (a, b, c)
three? (yes a) (yes b) (no c) = no (λ p. c p.2)
three? (yes a) (no b) d = no (λ p. b p.1)
three? (no a) c d = no (λ p. a p.0)

number? : (r : Shape) (n : ℕ) → Dec (TakesNumber r n)
unfolding TakesNumber
number? shape.done n = no (λ e. e)
number? (shape.code limit r) n = dec_lt n limit
number? (shape.number f r) n = dec_le n (ceiling f)
number? (shape.term r) n = no (λ e. e)
number? (shape.terms r) n = dec_le n (ceiling shape.ordinary)
number? (shape.members r) n = dec_le n (ceiling shape.ordinary)
number? (shape.member k least r) n = both? (dec_le least n) (dec_le n (ceiling shape.definition))

term? : (r : Shape) → Dec (TakesTerm r)
unfolding TakesTerm
term? shape.done = no (λ e. e)
term? (shape.code limit r) = no (λ e. e)
term? (shape.number f r) = no (λ e. e)
term? (shape.term r) = yes tt
term? (shape.terms r) = no (λ e. e)
term? (shape.members r) = no (λ e. e)
term? (shape.member k least r) = no (λ e. e)

done? : (r : Shape) → Dec (r ≡ shape.done)
done? shape.done = yes refl
done? (shape.code limit r) = no (λ e. clash (cc))
done? (shape.number f r) = no (λ e. clash (cc))
done? (shape.term r) = no (λ e. clash (cc))
done? (shape.terms r) = no (λ e. clash (cc))
done? (shape.members r) = no (λ e. clash (cc))
done? (shape.member k least r) = no (λ e. clash (cc))

kind? : (k : ℕ) → Dec (kind_of k ≡ shape.row (layout k))
unfolding kind_of
kind? k = go (eqb k 1) (ltb k 20)
  where
    go : (a b : Bool) → Dec (pick a shape.variable (pick b (shape.row (layout k)) shape.unlisted) ≡ shape.row (layout k))
    go true b = no (λ e. clash (cc))
    go false true = yes refl
    go false false = no (λ e. clash (cc))

mutual
  unfolding Formed

  pub formed? : (t : Term) → Dec (Formed t)
  formed? (var v) = dec_le v (ceiling shape.ordinary)
  formed? (node k ps) = both? (kind? k) (fit? (layout k) ps)

  pub fit? : (r : Shape) (ps : Parts) → Dec (Fit r ps)
  fit? r end = done? r
  fit? r (num n ps) = both? (number? r n) (fit? (after_number r n) ps)
  fit? r (sub t ps) = three? (term? r) (formed? t) (fit? (after_term r) ps)

-- Laws of `over`: what a list of tokens writes.
use mathlib.Core.Path.{◌≡◌, refl, sym, ap, ◌∙◌}
use mathlib.Core.List.{List, [], ◌∷◌, ◌++◌, append_assoc}
use Prim.Native.Nat.{ℕ, zero, suc}
use Rattle.terms.specs.Words.Tokens.{Item, item, spell, toks}
use Rattle.solver.specs.Words.ResolveWalk.{over}

-- a list of tokens, each by f
module _ {A : Type 0} (f : ℕ → ℕ → List A) where
  pub over_none : (m : List Item) → m ≡ [] → over f m ≡ []
  unfolding over
  over_none m e = ap (over f) e

  pub over-append : (l m : List Item) → over f (l ++ m) ≡ over f l ++ over f m
  unfolding over
  over-append [] m = refl
  over-append (item k v ∷ l) m = rw (over-append l m) (sym (append_assoc (f k v) (over f l) (over f m)))

  pub spell_over : (ks vs : List ℕ) (a c : ℕ) → spell f ks vs a c ≡ over f (toks ks vs a c)
  unfolding over spell
  spell_over ks vs a zero = refl
  spell_over ks vs a (suc c) = rw (spell_over ks vs (suc a) c)

  pub over-over : (g : ℕ → ℕ → List Item) (l : List Item) → over f (over g l) ≡ over (λ k v. over f (g k v)) l
  unfolding over
  over-over g [] = refl
  over-over g (item k v ∷ l) = over-append (g k v) (over g l) ∙ ap (λ (r : List A). over f (g k v) ++ r) (over-over g l)

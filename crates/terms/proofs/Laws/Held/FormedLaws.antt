-- Formed terms: their children are formed, and so are they with other formed children.
use mathlib.Core.Path.{◌≡◌, refl}
use mathlib.Core.List.{List, [], ◌∷◌}
use Prim.Native.Nat.{ℕ, zero, suc}
use native.Mathlib.Omega.{arith}
use lib.ListN.{length, get_or}
use Rattle.terms.specs.Term.{Term, Parts, var, node, end, num, sub}
use Rattle.terms.specs.Shape.{Shape, kind_of, layout}
use Rattle.terms.specs.Formed.{Formed, Fit, after_number, after_term}
use Rattle.terms.specs.Tree.{error, subs, fill, children, with_kids}
use Rattle.terms.proofs.Laws.Normalising.RespectLaws.{Inherited}

pub formed_error : Formed error
unfolding Formed kind_of
formed_error = (refl, refl)

fit_child : (r : Shape) (ps : Parts) → Fit r ps → (i : ℕ) → Formed (get_or (subs ps) i error)
unfolding Formed subs
fit_child r end f i = formed_error
fit_child r (num n ps) f i = fit_child (after_number r n) ps f.1 i
fit_child r (sub t ps) f zero = f.1
fit_child r (sub t ps) f (suc i) = fit_child (after_term r) ps f.2 i

fit_fill : (r : Shape) (ps : Parts) (ts : List Term) → Fit r ps → length ts ≡ length (subs ps) → ((i : ℕ) → Formed (get_or ts i error)) → Fit r (fill ps ts)
unfolding Formed subs fill
fit_fill r end ts f l a = f
fit_fill r (num n ps) ts f l a = (f.0, fit_fill (after_number r n) ps ts f.1 l a)
fit_fill r (sub t ps) [] f l a = absurd (omega arith)
fit_fill r (sub t ps) (u ∷ ts) f l a = (f.0, a 0, fit_fill (after_term r) ps ts f.2 (omega arith) (λ i. a (suc i)))

pub formed_child : (t : Term) → Formed t → (i : ℕ) → Formed (get_or (children t) i error)
unfolding Formed children
formed_child (var v) f i = formed_error
formed_child (node k ps) f i = fit_child (layout k) ps f.1 i

pub formed_with : (t : Term) (ts : List Term) → Formed t → length ts ≡ length (children t) → ((i : ℕ) → Formed (get_or ts i error)) → Formed (with_kids t ts)
unfolding Formed children with_kids
formed_with (var v) ts f l a = f
formed_with (node k ps) ts f l a = (f.0, fit_fill (layout k) ps ts f.1 l a)

pub formed_inherited : Inherited Formed
formed_inherited = record { wrong = formed_error; child = formed_child; anew = formed_with }

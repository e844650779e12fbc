-- Bindings as a program keeps them: a variable is bound to a term as it was posed, whose own variables may be bound.
use Rattle.std.proofs.Math.Option.{Option, none, some}
use Rattle.std.specs.Prelude.{ℕ, zero, suc}
use Rattle.unify.specs.Term.{Sort, Tree, var, Term, sub}

module _ {H : Type 0} where
  unfoldable pub expand : ℕ → Option (Term H) → (Term H → Term H) → Term H
  expand v none g = var v
  expand v (some u) g = g u

  -- every bound variable expanded, as deep as the fuel goes
  unfoldable pub resolve : ℕ → (ℕ → Option (Term H)) → {k : Sort} → Tree H k → Tree H k
  resolve zero b t = t
  resolve (suc f) b t = sub (λ v. expand v (b v) (λ u. resolve f b u)) t

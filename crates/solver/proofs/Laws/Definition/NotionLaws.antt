-- The two notions of equal shape by which pairs are posed.
use mathlib.Core.Path.{◌≡◌, refl, sym, ap, ap₂, ◌∙◌}
use mathlib.Core.Bool.{Bool, true, false}
use mathlib.Core.Logic.{◌↔◌}
use Rattle.terms.specs.Term.{Term, Parts, var, node, end, num, sub}
use Rattle.solver.specs.Shapes.{loose, exact, notion, read_all, read_all_row}
use Rattle.solver.specs.Demand3.{EqualUpToAccess}

-- both count builtin codes
pub notion_codes : (b : Bool) → notion b 4 ≡ false
unfolding loose exact
notion_codes true = refl
notion_codes false = refl

-- where every access counts, nothing is read as ReadOnly
mutual
  unfolding read_all exact

  pub exact_same : (t : Term) → read_all exact t ≡ t
  exact_same (var v) = refl
  exact_same (node k ps) = ap (node k) (exact_row ps)

  exact_row : (ps : Parts) → read_all_row exact ps ≡ ps
  exact_row end = refl
  exact_row (num n ps) = ap (num n) (exact_row ps)
  exact_row (sub t ps) = ap₂ sub (exact_same t) (exact_row ps)

-- A STRICT PAIR IS MADE EQUAL EXACTLY WHERE ITS TERMS ARE MADE THE SAME, access included.
pub exact_equal : (t u : Term) → EqualUpToAccess (notion true) t u ↔ (t ≡ u)
exact_equal t u = ((λ e. sym (exact_same t) ∙ e ∙ exact_same u), λ e. ap (read_all exact) e)

-- The code of a builtin, compared with that of a term.
use mathlib.Core.Bool.{Bool, true}
use mathlib.Core.Path.{◌≡◌, refl, sym, ap, ◌∙◌}
use Prim.Native.Nat.{ℕ}
use borrow.Author.Tests.{eq-eqb, eqb-true}
use Rattle.std.specs.Prelude.{Some, None, nat_eq}
use Rattle.std.specs.Option.{option_eq}
use Rattle.std.specs.declared.option.Option as rust
use Rattle.terms.specs.Term.{Term}
use Rattle.unify.specs.Term.{clash}
use Rattle.solver.specs.Words.Bindings.{builtin}
use Rattle.solver.specs.Words.ChainEnds.{code_in}
use Rattle.solver.proofs.Laws.Resolving.ChainEndLaws.{code_builtin, code_told}

module _ (c : ℕ) (t : Term) (o : rust.Option ℕ) (is : o ≡ code_in t) (r : Bool) (e : r ≡ option_eq nat_eq o (Some c)) where
  same : (p : rust.Option ℕ) → option_eq nat_eq p (Some c) ≡ true → p ≡ Some c
  same None f = clash (cc)
  same (Some d) f = ap (λ (x : ℕ). Some x) (eqb-true d c f)

  pub equal_builtin : r ≡ true → t ≡ builtin c
  equal_builtin f = code_told t c (sym is ∙ same o (sym e ∙ f))

  pub builtin_equal : t ≡ builtin c → r ≡ true
  builtin_equal f =
      e ∙ ap (λ (p : rust.Option ℕ). option_eq nat_eq p (Some c)) (is ∙ ap code_in f ∙ code_builtin c) ∙ eq-eqb c c refl

pub builtin_same : {c d : ℕ} → builtin c ≡ builtin d → c ≡ d
builtin_same e = cc

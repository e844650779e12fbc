-- A check where one of two tops is a builtin: it has no parts, and no other term has its shape.
use mathlib.Core.Path.{◌≡◌, refl, sym, ap, ap₂, ◌∙◌}
use mathlib.Core.Bool.{Bool, true, false, ◌||◌}
use mathlib.Core.List.{List}
use Prim.Native.Nat.{ℕ}
use borrow.Author.Tests.{eqb-true, eq-eqb}
use lib.Dec.{eqb}
use Rattle.std.specs.Prelude.{Some, None}
use Rattle.std.specs.declared.option.Option as rust
use Rattle.terms.specs.Result.{pick}
use Rattle.terms.specs.Term.{Term, Parts, var, node, end, num, sub, AllVars}
use Rattle.terms.specs.Questions.{among}
use Rattle.terms.specs.Tree.{nums, row, tag, class, children, subs}
use Rattle.terms.proofs.Laws.General.Bools.{never_true, never_false, or-none}
use Rattle.terms.proofs.Laws.Held.SameLaws.{same_refl, same_true}
use Rattle.unify.specs.Term.{clash}
use Rattle.solver.proofs.Laws.Resolving.ChainEndLaws.{code_told}
use Rattle.solver.specs.Shapes.{Notion, same_shape, blank_row, blank, unmarked, read_row, read, turned, pushed}
use Rattle.solver.specs.Constrain as solving
use Rattle.solver.specs.Constrain.{Pair, passed, failed, zip_on, recovery, projects, decompose}
use Rattle.solver.specs.Words.ConstrainContract.{Within}
use Rattle.solver.specs.Words.Bindings.{builtin}
use Rattle.solver.specs.Words.ChainEnds.{code_row, code_in, is_code, is_builtin}

-- ---- which term it is

pub within_builtin : (N c : ℕ) → Within N (builtin c)
unfolding AllVars
within_builtin N c = tt

builtin_told : (c : ℕ) (t : Term) → is_builtin c t ≡ true → t ≡ builtin c
unfolding is_code
builtin_told c t e = go (code_in t) refl
  where
    go : (o : rust.Option ℕ) → code_in t ≡ o → t ≡ builtin c
    go None p = never_true (sym (ap (is_code c) p) ∙ e)
    go (Some d) p = code_told t c (p ∙ ap Some (eqb-true d c (sym (ap (is_code c) p) ∙ e)))

is_builtin_itself : (c : ℕ) → is_builtin c (builtin c) ≡ true
unfolding code_in code_row is_code
is_builtin_itself c = eq-eqb c c refl

-- ---- no other term has its shape

row_blank : (c : ℕ) (ps : Parts) → num c end ≡ blank_row ps → ps ≡ num c end
unfolding blank_row
row_blank c end e = clash (cc)
row_blank c (num d end) e = sym e
row_blank c (num d (num f ps)) e = clash (cc)
row_blank c (num d (sub t ps)) e = clash (cc)
row_blank c (sub t ps) e = clash (cc)

module _ (n : Notion) (codes : n 4 ≡ false) (c : ℕ) where
  shape_read : read n (blank (builtin c)) ≡ builtin c
  unfolding read blank blank_row
  shape_read = ap (λ (b : Bool). node 4 (pick b (unmarked (num c end)) (num c end))) codes

  shape_is : (u : Term) → builtin c ≡ read n (blank u) → u ≡ builtin c
  unfolding read blank
  shape_is (var v) e = clash (cc)
  shape_is (node k ps) e =
      let q : 4 ≡ k = cc in
      let f : num c end ≡ read_row n k (blank_row ps) = cc in
      let g : n k ≡ false = ap n (sym q) ∙ codes in
      ap₂ node (sym q) (row_blank c ps (f ∙ ap (λ (b : Bool). pick b (unmarked (blank_row ps)) (blank_row ps)) g))

  shape_left : (u : Term) → same_shape n (builtin c) u ≡ true → u ≡ builtin c
  unfolding same_shape
  shape_left u e = shape_is u (sym shape_read ∙ same_true (read n (blank (builtin c))) (read n (blank u)) e)

  shape_right : (t : Term) → same_shape n t (builtin c) ≡ true → t ≡ builtin c
  unfolding same_shape
  shape_right t e = shape_is t (sym shape_read ∙ sym (same_true (read n (blank t)) (read n (blank (builtin c))) e))

  shape_itself : same_shape n (builtin c) (builtin c) ≡ true
  unfolding same_shape
  shape_itself = same_refl (read n (blank (builtin c)))

  -- the shape of another term is its own exactly where the term is
  both_told : (t : Term) (s : Bool) → (s ≡ true → t ≡ builtin c) → (t ≡ builtin c → s ≡ true) → s ≡ is_builtin c t
  both_told t true to from = sym (ap (is_builtin c) (to refl) ∙ is_builtin_itself c)
  both_told t false to from = go (is_builtin c t) refl
    where
      go : (b : Bool) → is_builtin c t ≡ b → false ≡ b
      go true e = from (builtin_told c t e)
      go false e = refl

  like_left : (u : Term) → same_shape n (builtin c) u ≡ is_builtin c u
  like_left u = both_told u (same_shape n (builtin c) u) (shape_left u) (λ e. ap (same_shape n (builtin c)) e ∙ shape_itself)

  like_right : (t : Term) → same_shape n t (builtin c) ≡ is_builtin c t
  like_right t = both_told t (same_shape n t (builtin c)) (shape_right t) (λ e. ap (λ (x : Term). same_shape n x (builtin c)) e ∙ shape_itself)

-- ---- what the check comes to

-- the check of two nodes
abbrev pub comes : Notion → solving.Solver → List Pair → Term → Term → solving.Check
comes n z ps t u = decompose z t u ps (recovery t || recovery u) (projects t) (same_shape n t u)

-- passed or failed
abbrev pub answered : solving.Solver → List Pair → Bool → solving.Check
answered z ps true = passed z ps
answered z ps false = failed z ps

firm : (c : ℕ) → recovery (builtin c) ≡ false
unfolding recovery among
firm c = refl

whole : (c : ℕ) → projects (builtin c) ≡ false
unfolding projects
whole c = refl

-- a builtin pushes nothing
no_parts : (c : ℕ) (t u : Term) (ps : List Pair) → t ≡ builtin c → zip_on (pushed t) (pushed u) ps ≡ ps
unfolding zip_on turned children class tag row subs nums
no_parts c t u ps e = rw e refl

module _ (z : solving.Solver) (ps : List Pair) where
  -- neither is a recovery term: they are the same builtin, or differ
  told_parts : (t u : Term) (p s : Bool) → (p ≡ true → s ≡ false) → (s ≡ true → zip_on (pushed t) (pushed u) ps ≡ ps) → decompose z t u ps false p s ≡ answered z ps s
  unfolding decompose
  told_parts t u true true a b = never_false (a refl)
  told_parts t u true false a b = refl
  told_parts t u false true a b = ap (passed z) (b refl)
  told_parts t u false false a b = refl

  told_either : (t u : Term) (r p s : Bool) → (p ≡ true → s ≡ false) → (s ≡ true → zip_on (pushed t) (pushed u) ps ≡ ps) → decompose z t u ps r p s ≡ answered z ps (r || s)
  unfolding decompose
  told_either t u true p s a b = refl
  told_either t u false p s a b = told_parts t u p s a b

module _ (n : Notion) (codes : n 4 ≡ false) (z : solving.Solver) (ps : List Pair) (c : ℕ) where
  pub default_right : (t : Term)
      → comes n z ps t (builtin c) ≡ answered z ps (recovery t || is_builtin c t)
  default_right t =
      told_either z ps t (builtin c) (recovery t || recovery (builtin c)) (projects t) (same_shape n t (builtin c))
      (λ e. go (same_shape n t (builtin c)) refl e) (λ e. no_parts c t (builtin c) ps (shape_right n codes c t e))
      ∙ ap₂ (λ (a b : Bool). answered z ps (a || b)) (ap (λ (b : Bool). recovery t || b) (firm c) ∙ or-none (recovery t)) (like_right n codes c t)
    where
      go : (s : Bool) → same_shape n t (builtin c) ≡ s → projects t ≡ true → s ≡ false
      go true e q = never_false (sym q ∙ ap projects (shape_right n codes c t e) ∙ whole c)
      go false e q = refl

  pub default_left : (u : Term)
      → comes n z ps (builtin c) u ≡ answered z ps (recovery u || is_builtin c u)
  default_left u =
      told_either z ps (builtin c) u (recovery (builtin c) || recovery u) (projects (builtin c)) (same_shape n (builtin c) u)
      (λ e. never_true (sym (whole c) ∙ e)) (λ e. no_parts c (builtin c) u ps refl)
      ∙ ap₂ (λ (a b : Bool). answered z ps (a || b)) (ap (λ (b : Bool). b || recovery u) (firm c)) (like_left n codes c u)

  -- two of them
  pub default_both : (d : ℕ)
      → comes n z ps (builtin c) (builtin d) ≡ answered z ps (eqb c d)
  unfolding code_in code_row is_code
  default_both d =
      told_either z ps (builtin c) (builtin d) (recovery (builtin c) || recovery (builtin d)) (projects (builtin c)) (same_shape n (builtin c) (builtin d))
      (λ e. never_true (sym (whole c) ∙ e)) (λ e. no_parts c (builtin c) (builtin d) ps refl)
      ∙ ap₂ (λ (a b : Bool). answered z ps (a || b)) (ap₂ ◌||◌ (firm c) (firm d)) (like_right n codes d (builtin c))

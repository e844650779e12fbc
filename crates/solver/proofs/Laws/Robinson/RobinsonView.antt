-- Terms as trees of the theory, with their children in byte order; Robinson's algorithm on terms is that of the theory on these trees.
use mathlib.Core.Path.{◌≡◌, refl, sym, ap, ap₂, ◌∙◌}
use mathlib.Core.Bool.{Bool, true, false}
use mathlib.Core.List.{[], ◌∷◌, ◌++◌}
use mathlib.Core.Logic.{◌⊎◌, inl, inr, ite}
use mathlib.Core.Option.{Option, none, some}
use Prim.Native.Nat.{ℕ, zero, suc, ◌+◌, ◌≤◌, ◌<◌}
use native.Mathlib.Decide.{ℕ_discrete, dec_le}
use native.Mathlib.Omega.{arith}
use borrow.Author.Tests.{eq-eqb, eqb-true, leb-true, leb-false}
use lib.Dec.{eqb, leb}
use Rattle.terms.specs.Result.{pick}
use Rattle.terms.specs.Term.{Term, Parts, var, node, end, num, sub, size, sizes}
use Rattle.terms.specs.Tree.{same}
use Rattle.terms.specs.Questions.{meets, meets_row}
use Rattle.terms.proofs.Laws.General.Bools.{never_true, or-true, or_right}
use Rattle.terms.proofs.Laws.Held.SameLaws.{same_refl, same_true}
use Rattle.unify.specs.Term as tree
use Rattle.unify.specs.Term.{Sort, many, Tree, nil, ◌▸◌, In, in?, same?, clash, sub_ext, width}
use Rattle.unify.specs.Robinson1965 as paper
use Rattle.unify.proofs.Unification1965 as theorem
use Rattle.solver.specs.Shapes.{blank, blank_row}
use Rattle.solver.specs.Constrain.{Pair, replace, replace_row, always, occurs}
use Rattle.solver.specs.Constrain as solving
use Rattle.solver.specs.Robinson.{Substitution, value, inst, has, images, others, compose, or_else, disagreement, disagreement_row, ordered}
use Rattle.solver.specs.Robinson.{Outcome, going, unifier, without, replacing, step3, step2, again, rounds, unification}
use Rattle.solver.proofs.Laws.Theory.TheoryView.{T, either}
use Rattle.solver.proofs.Laws.Theory.Signature.{term?}
use Rattle.solver.proofs.Laws.Theory.TheoryViewLaws.{replace_blank}

-- ---- the trees

unfoldable mutual
  pub laid : Term → T
  laid (var v) = tree.var v
  laid (node k ps) = tree.node (node k (blank_row ps)) (laid_row ps)

  pub laid_row : Parts → Tree Term many
  laid_row end = nil
  laid_row (num n ps) = laid_row ps
  laid_row (sub t ps) = laid t ▸ laid_row ps

-- they lose nothing
mutual
  unfolding laid blank_row

  pub laid_injective : (t u : Term) → laid t ≡ laid u → t ≡ u
  laid_injective (var v) (var w) e = let a : v ≡ w = cc in ap var a
  laid_injective (var v) (node j qs) e = clash (cc)
  laid_injective (node k ps) (var w) e = clash (cc)
  laid_injective (node k ps) (node j qs) e =
      let a : k ≡ j = cc in
      let b : blank_row ps ≡ blank_row qs = cc in
      let c : laid_row ps ≡ laid_row qs = cc in
      ap₂ node a (row_injective ps qs b c)

  row_injective : (ps qs : Parts) → blank_row ps ≡ blank_row qs → laid_row ps ≡ laid_row qs → ps ≡ qs
  row_injective end end e f = refl
  row_injective end (num m qs) e f = clash (cc)
  row_injective end (sub u qs) e f = clash (cc)
  row_injective (num n ps) end e f = clash (cc)
  row_injective (num n ps) (num m qs) e f =
      let a : n ≡ m = cc in
      let b : blank_row ps ≡ blank_row qs = cc in
      ap₂ num a (row_injective ps qs b f)
  row_injective (num n ps) (sub u qs) e f = clash (cc)
  row_injective (sub t ps) end e f = clash (cc)
  row_injective (sub t ps) (num m qs) e f = clash (cc)
  row_injective (sub t ps) (sub u qs) e f =
      let a : laid t ≡ laid u = cc in
      let b : blank_row ps ≡ blank_row qs = cc in
      let c : laid_row ps ≡ laid_row qs = cc in
      ap₂ sub (laid_injective t u a) (row_injective ps qs b c)

module _ (f : ℕ → Term) where
  mutual
    unfolding laid replace tree.sub

    pub laid_replace : (t : Term) → laid (replace f t) ≡ tree.sub (λ v. laid (f v)) (laid t)
    laid_replace (var v) = refl
    laid_replace (node k ps) = ap₂ (λ (qs : Parts) (r : Tree Term many). tree.node (node k qs) r) (replace_blank f ps) (row_replace ps)

    row_replace : (ps : Parts) → laid_row (replace_row f ps) ≡ tree.sub (λ v. laid (f v)) (laid_row ps)
    row_replace end = refl
    row_replace (num n ps) = row_replace ps
    row_replace (sub t ps) = ap₂ ◌▸◌ (laid_replace t) (row_replace ps)

-- a variable occurs
module _ (v : ℕ) where
  mutual
    unfolding laid meets solving.is

    pub occurs_laid : (t : Term) → occurs v t ≡ true → In v (laid t)
    occurs_laid (var w) e = eqb-true v w e
    occurs_laid (node k ps) e = occurs_row ps e

    occurs_row : (ps : Parts) → meets_row (solving.is v) always ps ≡ true → In v (laid_row ps)
    occurs_row end e = never_true e
    occurs_row (num n ps) e = occurs_row ps e
    occurs_row (sub t ps) e = let x = either (occurs v t) (meets_row (solving.is v) always ps) e in elim x [ inl a ↦ inl (occurs_laid t a) | inr b ↦ inr (occurs_row ps b) ]

  mutual
    unfolding laid meets solving.is

    pub laid_occurs : (t : Term) → In v (laid t) → occurs v t ≡ true
    laid_occurs (var w) i = eq-eqb v w i
    laid_occurs (node k ps) i = row_occurs ps i

    row_occurs : (ps : Parts) → In v (laid_row ps) → meets_row (solving.is v) always ps ≡ true
    row_occurs end i = absurd i
    row_occurs (num n ps) i = row_occurs ps i
    row_occurs (sub t ps) (inl i) = or-true (occurs v t) (meets_row (solving.is v) always ps) (laid_occurs t i)
    row_occurs (sub t ps) (inr i) = or_right (occurs v t) (meets_row (solving.is v) always ps) (row_occurs ps i)

-- ---- a test that decides

pick_ite : {A B P : Type 0} (f : A → B) (b : Bool) (d : Dec P) → (b ≡ true → P) → (P → b ≡ true) → (x y : A) → f (pick b x y) ≡ ite d (f x) (f y)
pick_ite f true (yes p) g h x y = refl
pick_ite f true (no p) g h x y = absurd (p (g refl))
pick_ite f false (yes p) g h x y = never_true (h p)
pick_ite f false (no p) g h x y = refl

-- equality of terms, by what they are laid out to
equal : (t u : Term) (a b : T) → laid t ≡ a → laid u ≡ b → same t u ≡ true → a ≡ b
equal t u a b p q e = sym p ∙ ap laid (same_true t u e) ∙ q

unequal : (t u : Term) (a b : T) → laid t ≡ a → laid u ≡ b → a ≡ b → same t u ≡ true
unequal t u a b p q e = ap (same t) (sym (laid_injective t u (p ∙ e ∙ sym q))) ∙ same_refl t

-- ---- substitutions

unfoldable pub laid_all : Substitution → paper.Subst Term
laid_all [] = []
laid_all (c ∷ σ) = (c.0, laid c.1) ∷ laid_all σ

all_append : (σ l : Substitution) → laid_all (σ ++ l) ≡ laid_all σ ++ laid_all l
unfolding laid_all
all_append [] l = refl
all_append (c ∷ σ) l = ap (λ (r : paper.Subst Term). (c.0, laid c.1) ∷ r) (all_append σ l)

pub value_laid : (σ : Substitution) (v : ℕ) → laid (value σ v) ≡ paper.value (laid_all σ) v
unfolding value paper.value laid_all laid
value_laid [] v = refl
value_laid (c ∷ σ) v =
    pick_ite laid (eqb v c.0) (ℕ_discrete v c.0) (eqb-true v c.0) (eq-eqb v c.0) c.1 (value σ v)
    ∙ ap (λ (t : T). ite (ℕ_discrete v c.0) (laid c.1) t) (value_laid σ v)

pub inst_laid : (t : Term) (σ : Substitution) → laid (inst t σ) ≡ paper.inst (laid t) (laid_all σ)
inst_laid t σ = laid_replace (value σ) t ∙ sub_ext (laid t) (λ v i. value_laid σ v)

has_yes : (v : ℕ) (σ : Substitution) → has v σ ≡ true → paper.Has v (laid_all σ)
unfolding has laid_all
has_yes v [] e = never_true e
has_yes v (c ∷ σ) e = let x = either (eqb v c.0) (has v σ) e in elim x [ inl a ↦ inl (eqb-true v c.0 a) | inr b ↦ inr (has_yes v σ b) ]

yes_has : (v : ℕ) (σ : Substitution) → paper.Has v (laid_all σ) → has v σ ≡ true
unfolding has laid_all
yes_has v [] i = absurd i
yes_has v (c ∷ σ) (inl p) = or-true (eqb v c.0) (has v σ) (eq-eqb v c.0 p)
yes_has v (c ∷ σ) (inr i) = or_right (eqb v c.0) (has v σ) (yes_has v σ i)

images_laid : (θ l : Substitution) → laid_all (images θ l) ≡ paper.images term? (laid_all θ) (laid_all l)
unfolding images paper.images laid_all laid
images_laid [] l = refl
images_laid (c ∷ θ) l =
    let t = inst c.1 l in
    let a = paper.inst (laid c.1) (laid_all l) in
    let d = same? term? a (tree.var c.0) in
    pick_ite laid_all (same t (var c.0)) d (equal t (var c.0) a (tree.var c.0) (inst_laid c.1 l) refl) (unequal t (var c.0) a (tree.var c.0) (inst_laid c.1 l) refl)
    (images θ l) ((c.0, t) ∷ images θ l)
    ∙ ap₂ (λ (r : paper.Subst Term) (x : T). ite d r ((c.0, x) ∷ r)) (images_laid θ l) (inst_laid c.1 l)

others_laid : (θ l : Substitution) → laid_all (others θ l) ≡ paper.others term? (laid_all θ) (laid_all l)
unfolding others paper.others laid_all
others_laid θ [] = refl
others_laid θ (c ∷ l) =
    let d = paper.has? c.0 (laid_all θ) in
    pick_ite laid_all (has c.0 θ) d (has_yes c.0 θ) (yes_has c.0 θ) (others θ l) (c ∷ others θ l)
    ∙ ap (λ (r : paper.Subst Term). ite d r ((c.0, laid c.1) ∷ r)) (others_laid θ l)

compose_laid : (θ l : Substitution) → laid_all (compose θ l) ≡ paper.compose term? (laid_all θ) (laid_all l)
compose_laid θ l = all_append (images θ l) (others θ l) ∙ ap₂ ◌++◌ (images_laid θ l) (others_laid θ l)

-- ---- the disagreement set

abbrev laid_pair : Pair → T × T
laid_pair p = (laid p.0, laid p.1)

unfoldable laid_set : Option Pair → Option (T × T)
laid_set none = none
laid_set (some p) = some (laid_pair p)

or_laid : (a b : Option Pair) → paper.or_else (laid_set a) (laid_set b) ≡ laid_set (or_else a b)
unfolding paper.or_else or_else laid_set
or_laid none b = refl
or_laid (some a) b = refl

-- rows with the same places have equally many terms
row_wide : (ps qs : Parts) → blank_row ps ≡ blank_row qs → width (laid_row ps) ≡ width (laid_row qs)
unfolding laid blank_row width
row_wide end end e = refl
row_wide end (num m qs) e = clash (cc)
row_wide end (sub u qs) e = clash (cc)
row_wide (num n ps) end e = clash (cc)
row_wide (num n ps) (num m qs) e = row_wide ps qs (cc)
row_wide (num n ps) (sub u qs) e = clash (cc)
row_wide (sub t ps) end e = clash (cc)
row_wide (sub t ps) (num m qs) e = clash (cc)
row_wide (sub t ps) (sub u qs) e = let a : blank_row ps ≡ blank_row qs = cc in ap suc (row_wide ps qs a)

mutual
  unfolding laid blank_row blank disagreement paper.disagreement laid_set

  disagreement_laid : (t u : Term) → paper.disagreement term? (laid t) (laid u) ≡ laid_set (disagreement t u)
  disagreement_laid (var v) (var w) = sym (pick_ite laid_set (eqb v w) (ℕ_discrete v w) (eqb-true v w) (eq-eqb v w) none (some (var v, var w)))
  disagreement_laid (var v) (node j qs) = refl
  disagreement_laid (node k ps) (var w) = refl
  disagreement_laid (node k ps) (node j qs) = go (term? (node k (blank_row ps)) (node j (blank_row qs))) (ℕ_discrete (width (laid_row ps)) (width (laid_row qs))) (λ a. row_disagreement ps qs a)
    where
      x : Option (T × T)
      x = some (laid (node k ps), laid (node j qs))

      go : (d : Dec (node k (blank_row ps) ≡ node j (blank_row qs))) (e : Dec (width (laid_row ps) ≡ width (laid_row qs)))
          → (blank_row ps ≡ blank_row qs → paper.disagreement term? (laid_row ps) (laid_row qs) ≡ laid_set (disagreement_row ps qs))
          → ite d (ite e (paper.disagreement term? (laid_row ps) (laid_row qs)) x) x
          ≡ laid_set (pick (same (node k (blank_row ps)) (node j (blank_row qs))) (disagreement_row ps qs) (some (node k ps, node j qs)))
      go (yes d) (yes e) h =
          let a : blank_row ps ≡ blank_row qs = cc in
          let s : same (node k (blank_row ps)) (node j (blank_row qs)) ≡ true = ap (same (node k (blank_row ps))) (sym d) ∙ same_refl (node k (blank_row ps)) in
          rw s (h a)
      go (yes d) (no e) h = absurd (e (row_wide ps qs (cc)))
      go (no d) e h = apart (same (node k (blank_row ps)) (node j (blank_row qs))) refl
        where
          apart : (b : Bool) → same (node k (blank_row ps)) (node j (blank_row qs)) ≡ b → x ≡ laid_set (pick b (disagreement_row ps qs) (some (node k ps, node j qs)))
          apart true s = absurd (d (same_true (node k (blank_row ps)) (node j (blank_row qs)) s))
          apart false s = refl

  row_disagreement : (ps qs : Parts) → blank_row ps ≡ blank_row qs → paper.disagreement term? (laid_row ps) (laid_row qs) ≡ laid_set (disagreement_row ps qs)
  row_disagreement end end e = refl
  row_disagreement end (num m qs) e = clash (cc)
  row_disagreement end (sub u qs) e = clash (cc)
  row_disagreement (num n ps) end e = clash (cc)
  row_disagreement (num n ps) (num m qs) e = row_disagreement ps qs (cc)
  row_disagreement (num n ps) (sub u qs) e = clash (cc)
  row_disagreement (sub t ps) end e = clash (cc)
  row_disagreement (sub t ps) (num m qs) e = clash (cc)
  row_disagreement (sub t ps) (sub u qs) e =
      let a : blank_row ps ≡ blank_row qs = cc in
      ap₂ paper.or_else (disagreement_laid t u) (row_disagreement ps qs a) ∙ or_laid (disagreement t u) (disagreement_row ps qs)

ordered_laid : (t u : Term) → paper.ordered (laid t) (laid u) ≡ laid_pair (ordered t u)
unfolding paper.ordered ordered laid
ordered_laid (var v) (var w) =
    sym (pick_ite laid_pair (leb v w) (dec_le v w) (leb-true v w) (λ l. go l (leb v w) refl) (var v, var w) (var w, var v))
  where
    go : v ≤ w → (b : Bool) → leb v w ≡ b → b ≡ true
    go l true e = refl
    go l false e = absurd (let q = leb-false v w e in omega arith)
ordered_laid (var v) (node j qs) = refl
ordered_laid (node k ps) (var w) = refl
ordered_laid (node k ps) (node j qs) = refl

-- ---- the algorithm

unfoldable pub laid_outcome : Outcome → paper.Outcome Term
laid_outcome (going σ) = paper.going (laid_all σ)
laid_outcome (unifier σ) = paper.unifier (laid_all σ)
laid_outcome without = paper.without

replacing_laid : (σ : Substitution) (t u : Term) → paper.replace term? (laid_all σ) (laid t, laid u) ≡ laid_outcome (replacing σ (t, u))
unfolding paper.replace replacing laid_outcome laid laid_all
replacing_laid σ (var v) u =
    ap (λ (τ : paper.Subst Term). ite (in? v (laid u)) paper.without (paper.going τ)) (sym (compose_laid σ ((v, u) ∷ [])))
    ∙ sym (pick_ite laid_outcome (occurs v u) (in? v (laid u)) (occurs_laid v u) (laid_occurs v u) without (going (compose σ ((v, u) ∷ []))))
replacing_laid σ (node k ps) u = refl

step3_laid : (σ : Substitution) (o : Option Pair) → paper.step3 term? (laid_all σ) (laid_set o) ≡ laid_outcome (step3 σ o)
unfolding paper.step3 step3 laid_set laid_outcome
step3_laid σ none = refl
step3_laid σ (some d) =
    ap (paper.replace term? (laid_all σ)) (ordered_laid d.0 d.1)
    ∙ replacing_laid σ (ordered d.0 d.1).0 (ordered d.0 d.1).1

module _ (t u : Term) where
  step2_laid : (σ : Substitution) → paper.step2 term? (laid t) (laid u) (laid_all σ) ≡ laid_outcome (step2 t u σ)
  unfolding paper.step2 step2 laid_outcome
  step2_laid σ =
      let a = paper.inst (laid t) (laid_all σ) in
      let b = paper.inst (laid u) (laid_all σ) in
      let p = inst_laid t σ in
      let q = inst_laid u σ in
      let d = same? term? a b in
      ap (λ (o : Option (T × T)). ite d (paper.unifier (laid_all σ)) (paper.step3 term? (laid_all σ) o))
      (ap₂ (paper.disagreement term?) (sym p) (sym q) ∙ disagreement_laid (inst t σ) (inst u σ))
      ∙ ap (λ (o : paper.Outcome Term). ite d (paper.unifier (laid_all σ)) o) (step3_laid σ (disagreement (inst t σ) (inst u σ)))
      ∙ sym (pick_ite laid_outcome (same (inst t σ) (inst u σ)) d (equal (inst t σ) (inst u σ) a b p q) (unequal (inst t σ) (inst u σ) a b p q) (unifier σ) (step3 σ (disagreement (inst t σ) (inst u σ))))

  again_laid : (o : Outcome) → paper.again term? (laid t) (laid u) (laid_outcome o) ≡ laid_outcome (again t u o)
  unfolding paper.again again laid_outcome
  again_laid (going σ) = step2_laid σ
  again_laid (unifier σ) = refl
  again_laid without = refl

  pub rounds_laid : (k : ℕ) → paper.rounds term? (laid t) (laid u) k ≡ laid_outcome (rounds t u k)
  unfolding paper.rounds rounds laid_outcome laid_all
  rounds_laid zero = refl
  rounds_laid (suc k) = ap (paper.again term? (laid t) (laid u)) (rounds_laid k) ∙ again_laid (rounds t u k)

-- ---- there are no more variables than nodes

abbrev alone : ℕ → T
alone v = tree.var v

abbrev empty : Tree Term many
empty = nil

one_or : {A B : Type 0} (d : Dec (A ⊎ B)) (a : Dec A) (b : Dec B) → ite d 1 0 ≤ ite a 1 0 + ite b 1 0
one_or (yes (inl x)) (yes a) b = omega arith
one_or (yes (inl x)) (no a) b = absurd (a x)
one_or (yes (inr x)) (yes a) b = omega arith
one_or (yes (inr x)) (no a) (yes b) = omega arith
one_or (yes (inr x)) (no a) (no b) = absurd (b x)
one_or (no x) a b = omega arith

one_same : {A : Type 0} (a b : Dec A) → ite a 1 0 ≤ ite b 1 0
one_same (yes a) (yes b) = omega arith
one_same (yes a) (no b) = absurd (b a)
one_same (no a) b = omega arith

none_occur : (N : ℕ) {s : Sort} (t : Tree Term s) → ((v : ℕ) → v < N → ¬ In v t) → paper.occurring N t ≤ 0
unfolding paper.occurring
none_occur zero t f = omega arith
none_occur (suc N) t f = go (in? N t) (none_occur N t (λ v l. f v (omega arith)))
  where
    go : (d : Dec (In N t)) → paper.occurring N t ≤ 0 → ite d 1 0 + paper.occurring N t ≤ 0
    go (yes i) h = absurd (f N (omega arith) i)
    go (no i) h = omega arith

occurring_var : (N v : ℕ) → paper.occurring N (alone v) ≤ 1
unfolding paper.occurring
occurring_var zero v = omega arith
occurring_var (suc N) v = go (in? N (alone v)) (occurring_var N v)
  where
    go : (d : Dec (N ≡ v)) → paper.occurring N (alone v) ≤ 1 → ite d 1 0 + paper.occurring N (alone v) ≤ 1
    go (yes e) h = let z = none_occur N (alone v) (λ w l i. absurd (omega arith)) in omega arith
    go (no e) h = omega arith

occurring_node : (N : ℕ) (h : Term) (ts : Tree Term many) → paper.occurring N (tree.node h ts) ≤ paper.occurring N ts
unfolding paper.occurring
occurring_node zero h ts = omega arith
occurring_node (suc N) h ts = let a = one_same (in? N (tree.node h ts)) (in? N ts) in let b = occurring_node N h ts in omega arith

occurring_cons : (N : ℕ) (t : T) (ts : Tree Term many) → paper.occurring N (t ▸ ts) ≤ paper.occurring N t + paper.occurring N ts
unfolding paper.occurring
occurring_cons zero t ts = omega arith
occurring_cons (suc N) t ts = let a = one_or (in? N (t ▸ ts)) (in? N t) (in? N ts) in let b = occurring_cons N t ts in omega arith

mutual
  unfolding laid size

  occurring_laid : (N : ℕ) (t : Term) → paper.occurring N (laid t) ≤ size t
  occurring_laid N (var v) = occurring_var N v
  occurring_laid N (node k ps) = let a = occurring_node N (node k (blank_row ps)) (laid_row ps) in let b = occurring_row N ps in omega arith

  occurring_row : (N : ℕ) (ps : Parts) → paper.occurring N (laid_row ps) ≤ sizes ps
  occurring_row N end = none_occur N nil (λ v l i. i)
  occurring_row N (num n ps) = occurring_row N ps
  occurring_row N (sub t ps) = let a = occurring_cons N (laid t) (laid_row ps) in let b = occurring_laid N t in let c = occurring_row N ps in omega arith

variables_few : (t u : Term) → paper.variables (laid t) (laid u) ≤ size t + size u
variables_few t u =
    let N = paper.above (laid t ▸ laid u ▸ nil) in
    let a = occurring_cons N (laid t) (laid u ▸ nil) in
    let b = occurring_cons N (laid u) nil in
    let c = none_occur N empty (λ v l i. i) in
    let d = occurring_laid N t in
    let e = occurring_laid N u in
    omega arith

-- THE ALGORITHM ON TERMS IS THAT OF THE THEORY.
pub unification_laid : (t u : Term) → paper.unification term? (laid t) (laid u) ≡ laid_outcome (unification t u)
unification_laid t u =
    sym (theorem.ended term? (laid t) (laid u) (suc (size t + size u)) (let a = variables_few t u in omega arith))
    ∙ rounds_laid t u (suc (size t + size u))

-- The heads and families of the theory, for the terms of crate terms; which trees are views.
use mathlib.Core.Path.{◌≡◌, refl, sym, ap, ap₂, ◌∙◌}
use mathlib.Core.Bool.{Bool, true, false, ◌&&◌}
use mathlib.Core.List.{List, [], ◌∷◌, map}
use mathlib.Core.HLevel.{Discrete}
use mathlib.Core.Logic.{inl, inr}
use Prim.Native.Nat.{ℕ, zero, suc, ◌-◌, ◌<◌}
use native.Mathlib.Omega.{arith}
use borrow.Author.Tests.{eq-eqb, eqb-true}
use lib.Dec.{eqb}
use lib.ListN.{length, get_or}
use Rattle.terms.specs.Term.{Term, Parts, var, node, end, num, sub}
use Rattle.terms.specs.Tree.{unknown, error, nums, row, tag, class, children, subs, fill, with_kids, same}
use Rattle.terms.specs.Questions.{among}
use Rattle.terms.specs.Shape.{Shape, kind_of, layout}
use Rattle.terms.specs.Formed.{TakesNumber, after_number, after_term, Formed, Fit}
use Rattle.terms.proofs.Laws.General.Bools.{never_true}
use Rattle.terms.proofs.Laws.Held.SameLaws.{both, same_refl, same_true}
use Rattle.terms.proofs.Laws.Held.FormedLaws.{formed_error, formed_with}
use Rattle.unify.specs.Term as tree
use Rattle.unify.specs.Term.{Sort, one, many, Tree, nil, ◌▸◌, Closed, width}
use Rattle.unify.specs.Solver.{Sig}
use Rattle.unify.specs.Meaning as meaning
use Rattle.unify.proofs.RangedLaws.{admits_one}
use Rattle.solver.specs.Families.{Request, code, belongs, meet}
use Rattle.solver.specs.Shapes.{blank_row, turned}
use Rattle.solver.specs.Constrain.{recovery, projects}
use Rattle.solver.proofs.Laws.Theory.TheoryView.{T, forest, view, views, backs, back, views_map, map_turned, turned_length, back_turn, Every, every_turned}
use Rattle.solver.proofs.Laws.Definition.FamilyLaws.{code_low, code_belongs, meet_some, meet_none}
use Rattle.solver.proofs.Laws.Definition.FormedTest.{formed?}

pub is : {P : Type 0} → Dec P → Bool
is (yes p) = true
is (no p) = false

pub is_true : {P : Type 0} (d : Dec P) → is d ≡ true → P
unfolding is
is_true (yes p) e = p
is_true (no p) e = never_true e

pub true_is : {P : Type 0} (d : Dec P) → P → is d ≡ true
unfolding is
true_is (yes p) q = refl
true_is (no p) q = absurd (p q)

unfoldable pub term? : Discrete Term
term? t u = go (same t u) refl
  where
    go : (b : Bool) → same t u ≡ b → Dec (t ≡ u)
    go true e = yes (same_true t u e)
    go false e = no (λ p. never_true (sym e ∙ ap (same t) (sym p) ∙ same_refl t))

-- a formed node with Unknown for each child, and as many children
unfoldable pub shaped : Term → ℕ → Bool
shaped (var v) c = false
shaped (node k ps) c = is (formed? (node k ps)) && (same (node k (blank_row ps)) (node k ps) && eqb c (length (subs ps)))

pub record Shaped (k : ℕ) (ps : Parts) (c : ℕ) : Type 0 where
  pub formed : Formed (node k ps)
  pub blanked : blank_row ps ≡ ps
  pub wide : c ≡ length (subs ps)

pub shaped_true : (k : ℕ) (ps : Parts) (c : ℕ) → shaped (node k ps) c ≡ true → Shaped k ps c
unfolding shaped
shaped_true k ps c e =
    let a = both (is (formed? (node k ps))) (same (node k (blank_row ps)) (node k ps) && eqb c (length (subs ps))) e in
    let b = both (same (node k (blank_row ps)) (node k ps)) (eqb c (length (subs ps))) a.1 in
    let q = same_true (node k (blank_row ps)) (node k ps) b.0 in
    record { formed = is_true (formed? (node k ps)) a.0; blanked = cc; wide = eqb-true c (length (subs ps)) b.1 }

pub true_shaped : (k : ℕ) (ps : Parts) (c : ℕ) → Shaped k ps c → shaped (node k ps) c ≡ true
unfolding shaped
true_shaped k ps c x =
    let p : same (node k (blank_row ps)) (node k ps) ≡ true = ap (λ (qs : Parts). same (node k qs) (node k ps)) x.blanked ∙ same_refl (node k ps) in
    rw (true_is (formed? (node k ps)) x.formed, p, eq-eqb c (length (subs ps)) x.wide)

builtin_shaped : (c : ℕ) → c < 32 → shaped (node 4 (num c end)) 0 ≡ true
unfolding Formed kind_of TakesNumber after_number blank_row subs
builtin_shaped c l = true_shaped 4 (num c end) 0 (record { formed = (refl, (l, refl)); blanked = refl; wide = refl })

pub builtin_plain : (c : ℕ) → c < 32 → (recovery (node 4 (num c end)) ≡ false) × (projects (node 4 (num c end)) ≡ false) × (shaped (node 4 (num c end)) 0 ≡ true)
unfolding recovery projects among
builtin_plain c l = (refl, refl, builtin_shaped c l)

pub first_of : Request → Term
first_of r = node 4 (num (code r.family.one) end)

pub first_ok : (r : Request) → belongs r.family (first_of r) ≡ true
unfolding first_of
first_ok r = code_belongs r.family (code r.family.one) (admits_one r.family)

pub first_plain : (r : Request) → (recovery (first_of r) ≡ false) × (projects (first_of r) ≡ false) × (shaped (first_of r) 0 ≡ true)
unfolding first_of
first_plain r = builtin_plain (code r.family.one) (code_low r.family.one)

abbrev pub S : Sig
S = record {
  Head = Term;
  head? = term?;
  soft = recovery;
  rigid = projects;
  shape = shaped;
  some_head = node 4 (num 2 end);
  some_plain = builtin_plain 2 (omega arith);
  Fam = Request;
  admits = λ r h. belongs r.family h;
  meet = meet;
  meet_some = meet_some;
  meet_none = meet_none;
  pick = first_of;
  pick_ok = first_ok;
  pick_plain = first_plain;
}

-- ---- trees that are terms

subs_fill : (ps : Parts) (l : List Term) → length l ≡ length (subs ps) → subs (fill ps l) ≡ l
unfolding subs fill
subs_fill end [] e = refl
subs_fill end (u ∷ l) e = absurd (omega arith)
subs_fill (num n ps) l e = subs_fill ps l e
subs_fill (sub t ps) [] e = absurd (omega arith)
subs_fill (sub t ps) (u ∷ l) e = ap (λ (r : List Term). u ∷ r) (subs_fill ps l (omega arith))

nums_fill : (ps : Parts) (l : List Term) → nums (fill ps l) ≡ nums ps
unfolding nums fill
nums_fill end l = refl
nums_fill (num n ps) l = ap (λ (r : List ℕ). n ∷ r) (nums_fill ps l)
nums_fill (sub t ps) [] = nums_fill ps []
nums_fill (sub t ps) (u ∷ l) = nums_fill ps l

blank_fill : (ps : Parts) (l : List Term) → blank_row (fill ps l) ≡ blank_row ps
unfolding blank_row fill
blank_fill end l = refl
blank_fill (num n ps) l = ap (num n) (blank_fill ps l)
blank_fill (sub t ps) [] = ap (sub unknown) (blank_fill ps [])
blank_fill (sub t ps) (u ∷ l) = ap (sub unknown) (blank_fill ps l)

pub width_forest : (l : List T) → width (forest l) ≡ length l
unfolding width forest
width_forest [] = refl
width_forest (t ∷ l) = ap suc (width_forest l)

backs_length : (ts : Tree Term many) → length (backs ts) ≡ width ts
unfolding backs width
backs_length nil = refl
backs_length (t ▸ ts) = ap suc (backs_length ts)

alone : {s : Sort} → Tree Term s → Tree Term many
alone (tree.var v) = tree.var v ▸ nil
alone (tree.node h ts) = tree.node h ts ▸ nil
alone nil = nil
alone (t ▸ ts) = t ▸ ts

alone_many : (ts : Tree Term many) → alone ts ≡ ts
unfolding alone
alone_many nil = refl
alone_many (t ▸ ts) = refl

first : (t : T) → forest (map view (backs t)) ≡ alone t → view (back t) ≡ t
unfolding forest backs alone
first (tree.var v) e = cc
first (tree.node h ts) e = cc

node_back : (k : ℕ) (ps : Parts) (ts : Tree Term many) → shaped (node k ps) (width ts) ≡ true → forest (map view (backs ts)) ≡ ts → view (back (tree.node (node k ps) ts)) ≡ tree.node (node k ps) ts
unfolding backs view with_kids row tag
node_back k ps ts s e =
    let x = shaped_true k ps (width ts) s in
    let n = get_or (nums ps) 1 0 in
    let l = backs ts in
    let m = turned (class k) (length l - n) l in
    let w : length m ≡ length (subs ps) = turned_length (class k) (length l - n) l ∙ backs_length ts ∙ x.wide in
    let a : views (fill ps m) ≡ map view m = views_map (fill ps m) ∙ ap (map view) (subs_fill ps m w) in
    let b : turned (class k) n (map view m) ≡ map view l = sym (map_turned view (class k) n m) ∙ ap (map view) (back_turn (class k) n l) in
    ap₂ (λ (qs : Parts) (r : List ℕ). tree.node (node k qs) (forest (turned (class k) (get_or r 1 0) (views (fill ps m))))) (blank_fill ps m ∙ x.blanked) (nums_fill ps m)
    ∙ ap (λ (r : List T). tree.node (node k ps) (forest (turned (class k) n r))) a
    ∙ ap (λ (r : List T). tree.node (node k ps) (forest r)) b
    ∙ ap (tree.node (node k ps)) e

-- each tree whose heads have their children is a view
views_back : {s : Sort} (t : Tree Term s) → meaning.Formed S t → forest (map view (backs t)) ≡ alone t
unfolding alone forest view backs shaped
views_back (tree.var v) f = refl
views_back (tree.node (var v) ts) f = never_true f.0
views_back (tree.node (node k ps) ts) f = ap (λ (t : T). t ▸ nil) (node_back k ps ts f.0 (views_back ts f.1 ∙ alone_many ts))
views_back nil f = refl
views_back (t ▸ ts) f = ap₂ ◌▸◌ (first t (views_back t f.0)) (views_back ts f.1 ∙ alone_many ts)

pub view_back : (t : T) → meaning.Formed S t → view (back t) ≡ t
view_back t f = first t (views_back t f)

every_get : (l : List Term) → Every Formed l → (i : ℕ) → Formed (get_or l i error)
unfolding Every
every_get [] e i = formed_error
every_get (t ∷ l) e zero = e.0
every_get (t ∷ l) e (suc i) = every_get l e.1 i

every_first : (t : T) → Every Formed (backs t) → Formed (back t)
unfolding Every backs
every_first (tree.var v) e = e.0
every_first (tree.node h ts) e = e.0

-- and, without variables, of a formed term
formed_backs : {s : Sort} (t : Tree Term s) → meaning.Formed S t → Closed t → Every Formed (backs t)
unfolding Every backs shaped children with_kids row tag
formed_backs (tree.var v) f c = absurd (c v refl)
formed_backs (tree.node (var v) ts) f c = never_true f.0
formed_backs (tree.node (node k ps) ts) f c =
    let x = shaped_true k ps (width ts) f.0 in
    let n = length (backs ts) - get_or (nums ps) 1 0 in (
      formed_with (node k ps) (turned (class k) n (backs ts)) x.formed (turned_length (class k) n (backs ts) ∙ backs_length ts ∙ x.wide)
          (every_get (turned (class k) n (backs ts)) (every_turned Formed (class k) n (backs ts) (formed_backs ts f.1 c))),
      tt,
    )
formed_backs nil f c = tt
formed_backs (t ▸ ts) f c = (every_first t (formed_backs t f.0 (λ v i. c v (inl i))), formed_backs ts f.1 (λ v i. c v (inr i)))

pub formed_back : (t : T) → meaning.Formed S t → Closed t → Formed (back t)
formed_back t f c = every_first t (formed_backs t f c)

-- ---- formed terms are such trees

fit_blank : (r : Shape) (ps : Parts) → Fit r ps → Fit r (blank_row ps)
unfolding Formed blank_row kind_of
fit_blank r end f = f
fit_blank r (num n ps) f = (f.0, fit_blank (after_number r n) ps f.1)
fit_blank r (sub t ps) f = (f.0, (refl, refl), fit_blank (after_term r) ps f.2)

blank_blank : (ps : Parts) → blank_row (blank_row ps) ≡ blank_row ps
unfolding blank_row
blank_blank end = refl
blank_blank (num n ps) = ap (num n) (blank_blank ps)
blank_blank (sub t ps) = ap (sub unknown) (blank_blank ps)

views_wide : (ps : Parts) → length (views ps) ≡ length (subs (blank_row ps))
unfolding views subs blank_row
views_wide end = refl
views_wide (num n ps) = views_wide ps
views_wide (sub t ps) = ap suc (views_wide ps)

forest_formed : (l : List T) → Every (λ (t : T). meaning.Formed S t) l → meaning.Formed S (forest l)
unfolding Every forest
forest_formed [] e = tt
forest_formed (t ∷ l) e = (e.0, forest_formed l e.1)

mutual
  unfolding Formed view Every

  pub formed_view : (t : Term) → Formed t → meaning.Formed S (view t)
  formed_view (var v) f = tt
  formed_view (node k ps) f =
      let n = get_or (nums ps) 1 0 in
      let l = turned (class k) n (views ps) in (
        true_shaped k (blank_row ps) (width (forest l)) (record {
          formed = (f.0, fit_blank (layout k) ps f.1);
          blanked = blank_blank ps;
          wide = width_forest l ∙ turned_length (class k) n (views ps) ∙ views_wide ps;
        }),
        forest_formed l (every_turned (λ (t : T). meaning.Formed S t) (class k) n (views ps) (formed_views (layout k) ps f.1)),
      )

  formed_views : (r : Shape) (ps : Parts) → Fit r ps → Every (λ (t : T). meaning.Formed S t) (views ps)
  formed_views r end f = tt
  formed_views r (num n ps) f = formed_views (after_number r n) ps f.1
  formed_views r (sub t ps) f = (formed_view t f.1, formed_views (after_term r) ps f.2)

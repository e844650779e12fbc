-- The view keeps substitution, resolving, the questions and shapes.
use mathlib.Core.Path.{◌≡◌, refl, sym, ap, ap₂, ◌∙◌, fun_ext}
use mathlib.Core.Bool.{Bool, true, false, ◌||◌}
use mathlib.Core.List.{List, [], ◌∷◌, map}
use mathlib.Core.Logic.{ite}
use mathlib.Core.Option.{Option, none, some}
use Prim.Native.Nat.{ℕ, zero, suc, ◌<◌}
use native.Mathlib.Decide.{ℕ_discrete}
use native.Mathlib.Omega.{arith}
use borrow.Author.Tests.{eq-eqb, eqb-true, leb-true, leb-false}
use lib.Dec.{eqb, leb}
use lib.ListN.{length, get_or}
use Rattle.terms.specs.Result.{pick}
use Rattle.terms.specs.Term.{Term, Parts, var, node, end, num, sub}
use Rattle.terms.specs.Tree.{unknown, nums, row, tag, class, children, subs}
use Rattle.terms.specs.Questions.{meets}
use Rattle.terms.proofs.Laws.General.Bools.{never_true}
use Rattle.unify.specs.Term as tree
use Rattle.unify.specs.Term.{Sort, many, Tree, nil, ◌▸◌, In, Sim, sub_ext}
use Rattle.unify.specs.Solver.{any_soft, put}
use Rattle.unify.specs.Orders.{Issued}
use Rattle.unify.specs.Expansion as lazy
use Rattle.unify.specs.Table as table
use Rattle.solver.specs.Shapes.{Notion, blank_row, unmarked, read_row, read, read_all, read_all_row, turned, pushed}
use Rattle.solver.specs.Constrain.{replace, replace_row, followed, resolve, follow, always, recovery, recovers, occurs}
use Rattle.solver.specs.Constrain as solving
use Rattle.solver.specs.Orders.{beyond}
use Rattle.solver.proofs.Laws.Theory.TheoryView.{T, forest, view, views, view_injective, map_turned, turned_length, some_of, meets_view, some_in, in_some}
use Rattle.solver.proofs.Laws.Theory.Signature.{S}

-- ---- substitution

module _ (f : ℕ → Term) where
  abbrev g : ℕ → T
  g v = view (f v)

  forest_sub : (l : List T) → tree.sub g (forest l) ≡ forest (map (λ (t : T). tree.sub g t) l)
  unfolding tree.sub forest
  forest_sub [] = refl
  forest_sub (t ∷ l) = ap (λ (r : Tree Term many). tree.sub g t ▸ r) (forest_sub l)

  pub replace_blank : (ps : Parts) → blank_row (replace_row f ps) ≡ blank_row ps
  unfolding blank_row replace
  replace_blank end = refl
  replace_blank (num n ps) = ap (num n) (replace_blank ps)
  replace_blank (sub t ps) = ap (sub unknown) (replace_blank ps)

  replace_nums : (ps : Parts) → nums (replace_row f ps) ≡ nums ps
  unfolding nums replace
  replace_nums end = refl
  replace_nums (num n ps) = ap (λ (l : List ℕ). n ∷ l) (replace_nums ps)
  replace_nums (sub t ps) = replace_nums ps

  mutual
    unfolding view replace tree.sub

    pub view_replace : (t : Term) → view (replace f t) ≡ tree.sub g (view t)
    view_replace (var v) = refl
    view_replace (node k ps) =
        let n = get_or (nums ps) 1 0 in
        ap₂ (λ (qs : Parts) (l : List ℕ). tree.node (node k qs) (forest (turned (class k) (get_or l 1 0) (views (replace_row f ps))))) (replace_blank ps) (replace_nums ps)
        ∙ ap (λ (r : List T). tree.node (node k (blank_row ps)) (forest (turned (class k) n r))) (views_replace ps)
        ∙ ap (λ (r : List T). tree.node (node k (blank_row ps)) (forest r)) (sym (map_turned (λ (t : T). tree.sub g t) (class k) n (views ps)))
        ∙ ap (tree.node (node k (blank_row ps))) (sym (forest_sub (turned (class k) n (views ps))))

    views_replace : (ps : Parts) → views (replace_row f ps) ≡ map (λ (t : T). tree.sub g t) (views ps)
    views_replace end = refl
    views_replace (num n ps) = views_replace ps
    views_replace (sub t ps) = ap₂ (λ (a : T) (l : List T). a ∷ l) (view_replace t) (views_replace ps)

-- ---- resolving

unfoldable pub viewed : Option Term → Option T
viewed none = none
viewed (some t) = some (view t)

abbrev pub all_viewed : (ℕ → Option Term) → ℕ → Option T
all_viewed b v = viewed (b v)

pub put_viewed : (b : ℕ → Option Term) (v : ℕ) (t : Term) → put (all_viewed b) v (some (view t)) ≡ all_viewed (put b v (some t))
unfolding put viewed
put_viewed b v t = fun_ext (λ w. go w (ℕ_discrete w v))
  where
    go : (w : ℕ) (d : Dec (w ≡ v)) → ite d (some (view t)) (viewed (b w)) ≡ viewed (ite d (some t) (b w))
    go w (yes p) = refl
    go w (no p) = refl

pub view_resolve : (n : ℕ) (b : ℕ → Option Term) (t : Term) → view (resolve n b t) ≡ lazy.resolve n (all_viewed b) (view t)
unfolding resolve lazy.resolve followed viewed lazy.expand view
view_resolve zero b t = refl
view_resolve (suc n) b t =
    view_replace (λ v. followed v (b v) (λ u. resolve n b u)) t
    ∙ sub_ext (view t) (λ v i. at v (b v) (view_resolve n b))
  where
    at : (v : ℕ) (o : Option Term) → ((u : Term) → view (resolve n b u) ≡ lazy.resolve n (all_viewed b) (view u))
        → view (followed v o (λ u. resolve n b u)) ≡ lazy.expand v (viewed o) (λ u. lazy.resolve n (all_viewed b) u)
    at v none h = refl
    at v (some u) h = h u

pub view_follow : (n : ℕ) (b : ℕ → Option Term) (t : Term) → view (follow n b t) ≡ table.walk n (all_viewed b) (view t)
unfolding follow followed viewed table.walk lazy.expand view
view_follow zero b t = refl
view_follow (suc n) b (var v) = at v (b v) (view_follow n b)
  where
    at : (v : ℕ) (o : Option Term) → ((u : Term) → view (follow n b u) ≡ table.walk n (all_viewed b) (view u))
        → view (followed v o (λ u. follow n b u)) ≡ lazy.expand v (viewed o) (λ u. table.walk n (all_viewed b) u)
    at v none h = refl
    at v (some u) h = h u
view_follow (suc n) b (node k ps) = refl

-- ---- questions

soft_some : {s : Sort} (t : Tree Term s) → any_soft S t ≡ some_of (λ v. false) recovery t
unfolding any_soft some_of
soft_some (tree.var v) = refl
soft_some (tree.node h ts) = ap (λ (b : Bool). recovery h || b) (soft_some ts)
soft_some nil = refl
soft_some (t ▸ ts) = ap₂ ◌||◌ (soft_some t) (soft_some ts)

pub recovers_view : (t : Term) → recovers t ≡ any_soft S (view t)
unfolding recovery
recovers_view t = meets_view recovery recovery (λ k ps. refl) t ∙ sym (soft_some (view t))

occurs_some : (v : ℕ) (t : Term) → occurs v t ≡ some_of (λ w. eqb v w) (λ (h : Term). false) (view t)
unfolding solving.is
occurs_some v t = meets_view (solving.is v) (λ h. false) (λ k ps. refl) t

pub occurs_in : (v : ℕ) (t : Term) → occurs v t ≡ true → In v (view t)
occurs_in v t e =
    let r = in_some (λ w. eqb v w) (view t) (sym (occurs_some v t) ∙ e) in
    let p : r.0 ≡ v = sym (eqb-true v r.0 r.2) in
    rw p at r.1

pub in_occurs : (v : ℕ) (t : Term) → In v (view t) → occurs v t ≡ true
in_occurs v t i = occurs_some v t ∙ some_in (λ w. eqb v w) (view t) v i (eq-eqb v v refl)

beyond_some : (n : ℕ) (t : Term) → meets (beyond n) always t ≡ some_of (λ w. leb n w) (λ (h : Term). false) (view t)
unfolding beyond
beyond_some n t = meets_view (beyond n) (λ h. false) (λ k ps. refl) t

pub known_issued : (n : ℕ) (t : Term) → meets (beyond n) always t ≡ false → Issued n (view t)
known_issued n t e v i = go (leb n v) refl
  where
    go : (b : Bool) → leb n v ≡ b → v < n
    go true p = never_true (sym e ∙ beyond_some n t ∙ some_in (λ w. leb n w) (view t) v i p)
    go false p = leb-false n v p

pub unknown_issued : (n : ℕ) (t : Term) → meets (beyond n) always t ≡ true → ¬ Issued n (view t)
unknown_issued n t e h =
    let r = in_some (λ w. leb n w) (view t) (sym (beyond_some n t) ∙ e) in
    let p = leb-true n r.0 r.2 in
    let q = h r.0 r.1 in
    omega arith

-- ---- equality up to a notion of shape

module _ (n : Notion) where
  blank_unmarked : (ps : Parts) → blank_row (unmarked ps) ≡ unmarked (blank_row ps)
  unfolding blank_row unmarked
  blank_unmarked end = refl
  blank_unmarked (num a ps) = refl
  blank_unmarked (sub t ps) = refl

  blank_read : (b : Bool) (ps : Parts) → blank_row (pick b (unmarked ps) ps) ≡ pick b (unmarked (blank_row ps)) (blank_row ps)
  blank_read true ps = blank_unmarked ps
  blank_read false ps = refl

  unmarked_second : (ps : Parts) → get_or (nums (unmarked ps)) 1 0 ≡ get_or (nums ps) 1 0
  unfolding nums unmarked
  unmarked_second end = refl
  unmarked_second (num a ps) = refl
  unmarked_second (sub t ps) = refl

  second_read : (b : Bool) (ps : Parts) → get_or (nums (pick b (unmarked ps) ps)) 1 0 ≡ get_or (nums ps) 1 0
  second_read true ps = unmarked_second ps
  second_read false ps = refl

  views_unmarked : (ps : Parts) → views (unmarked ps) ≡ views ps
  unfolding views unmarked
  views_unmarked end = refl
  views_unmarked (num a ps) = refl
  views_unmarked (sub t ps) = refl

  views_read : (b : Bool) (ps : Parts) → views (pick b (unmarked ps) ps) ≡ views ps
  views_read true ps = views_unmarked ps
  views_read false ps = refl

  all_blank : (ps : Parts) → blank_row (read_all_row n ps) ≡ blank_row ps
  unfolding blank_row read_all
  all_blank end = refl
  all_blank (num a ps) = ap (num a) (all_blank ps)
  all_blank (sub t ps) = ap (sub unknown) (all_blank ps)

  all_nums : (ps : Parts) → nums (read_all_row n ps) ≡ nums ps
  unfolding nums read_all
  all_nums end = refl
  all_nums (num a ps) = ap (λ (l : List ℕ). a ∷ l) (all_nums ps)
  all_nums (sub t ps) = all_nums ps

  forest_map : (l : List T) → tree.map (read n) (forest l) ≡ forest (map (λ (t : T). tree.map (read n) t) l)
  unfolding tree.map forest
  forest_map [] = refl
  forest_map (t ∷ l) = ap (λ (r : Tree Term many). tree.map (read n) t ▸ r) (forest_map l)

  mutual
    unfolding view read_all read tree.map

    pub view_read : (t : Term) → view (read_all n t) ≡ tree.map (read n) (view t)
    view_read (var v) = refl
    view_read (node k ps) =
        let c = get_or (nums ps) 1 0 in
        let qs = read_all_row n ps in
        ap₂ (λ (rs : Parts) (l : List T). tree.node (node k rs) (forest (turned (class k) (get_or (nums (read_row n k qs)) 1 0) l)))
        (blank_read (n k) qs ∙ ap (read_row n k) (all_blank ps)) (views_read (n k) qs ∙ views_reads ps)
        ∙ ap (λ (m : ℕ). tree.node (node k (read_row n k (blank_row ps))) (forest (turned (class k) m (map (λ (t : T). tree.map (read n) t) (views ps)))))
        (second_read (n k) qs ∙ ap (λ (l : List ℕ). get_or l 1 0) (all_nums ps))
        ∙ ap (λ (r : List T). tree.node (node k (read_row n k (blank_row ps))) (forest r)) (sym (map_turned (λ (t : T). tree.map (read n) t) (class k) c (views ps)))
        ∙ ap (tree.node (node k (read_row n k (blank_row ps)))) (sym (forest_map (turned (class k) c (views ps))))

    views_reads : (ps : Parts) → views (read_all_row n ps) ≡ map (λ (t : T). tree.map (read n) t) (views ps)
    views_reads end = refl
    views_reads (num a ps) = views_reads ps
    views_reads (sub t ps) = ap₂ (λ (a : T) (l : List T). a ∷ l) (view_read t) (views_reads ps)

  pub alike_sim : (t u : Term) → read_all n t ≡ read_all n u → Sim (read n) (view t) (view u)
  alike_sim t u e = record { eq = sym (view_read t) ∙ ap view e ∙ view_read u }

  pub sim_alike : (t u : Term) → Sim (read n) (view t) (view u) → read_all n t ≡ read_all n u
  sim_alike t u e = view_injective (read_all n t) (read_all n u) (view_read t ∙ e.eq ∙ sym (view_read u))

  -- rows of the same shape have equally many terms
  subs_unmarked : (ps : Parts) → subs (unmarked ps) ≡ subs ps
  unfolding subs unmarked
  subs_unmarked end = refl
  subs_unmarked (num a ps) = refl
  subs_unmarked (sub t ps) = refl

  subs_read : (b : Bool) (ps : Parts) → subs (pick b (unmarked ps) ps) ≡ subs ps
  subs_read true ps = subs_unmarked ps
  subs_read false ps = refl

  subs_blank : (ps : Parts) → length (subs (blank_row ps)) ≡ length (subs ps)
  unfolding subs blank_row
  subs_blank end = refl
  subs_blank (num a ps) = subs_blank ps
  subs_blank (sub t ps) = ap suc (subs_blank ps)

  shape_wide : (k : ℕ) (ps : Parts) → length (subs (read_row n k (blank_row ps))) ≡ length (subs ps)
  shape_wide k ps = ap length (subs_read (n k) (blank_row ps)) ∙ subs_blank ps

  pub same_wide : (k j : ℕ) (ps qs : Parts) → read n (node k (blank_row ps)) ≡ read n (node j (blank_row qs)) → length (pushed (node k ps)) ≡ length (pushed (node j qs))
  unfolding read children row tag
  same_wide k j ps qs e =
      let p : read_row n k (blank_row ps) ≡ read_row n j (blank_row qs) = cc in
      turned_length (class k) (get_or (nums ps) 1 0) (subs ps) ∙ sym (shape_wide k ps) ∙ ap (λ (rs : Parts). length (subs rs)) p
      ∙ shape_wide j qs ∙ sym (turned_length (class j) (get_or (nums qs) 1 0) (subs qs))

-- Following the joins to the end, and what that says of the two terms that were joined first.
use mathlib.Core.Bool.{Bool, true, false}
use mathlib.Core.List.{List}
use mathlib.Core.Path.{◌≡◌, refl, sym, ap, ◌∙◌}
use Prim.Native.Nat.{ℕ, ◌+◌, ◌≤◌, ◌<◌}
use native.Mathlib.Omega.{arith}
use native.Mathlib.Decide.{ℕ_discrete}
use lib.ListN.{get_or}
use Rattle.terms.specs.Term.{Term, Parts, node, Held}
use Rattle.terms.proofs.Laws.General.Bools.{never_true}
use Rattle.solver.specs.Constrain.{replace, replace_row}
use Rattle.solver.specs.Words.Halves.{low_half, high_half}
use Rattle.solver.specs.Words.Worklist.{Zero}
use Rattle.solver.specs.Words.CongruenceClasses.{Wired, Keeps, Advanced, Standing, Coincide, CoincideRow, Pairwise, Linked, Edge, Fair, Honest, Outcome, Matched, Closed}
use Rattle.solver.proofs.Laws.Equality.ClassesCoincide.{joined_same}
use Rattle.solver.proofs.Laws.Equality.LinkLaws.{linked_keeps, matched_keeps}

node_level : (f : ℕ → Term) (k l : ℕ) (ps qs : Parts) → replace f (node k ps) ≡ replace f (node l qs) → replace_row f ps ≡ replace_row f qs
unfolding replace
node_level f k l ps qs e = cc

-- the parts of the first `done` places of the queue are joined
pub record Going (ks vs : List ℕ) (σ : ℕ → Term) (τ : Term → Term) (par₀ par queue : List ℕ) (done : ℕ) : Type 0 where
  pub fair : Fair ks vs par
  pub rows : (i : ℕ) → i < done → (y : ℕ) → get_or par (low_half (get_or queue i 0)) 0 ≡ y + 1 → Matched ks vs τ par (low_half (get_or queue i 0)) y
  pub honest : Honest ks vs σ par₀ → Honest ks vs σ par

pub going_start : (ks vs : List ℕ) (σ : ℕ → Term) (τ : Term → Term) (par queue : List ℕ) → Fair ks vs par → Going ks vs σ τ par par queue 0
going_start ks vs σ τ par queue f = record { fair = f; rows = λ i h. absurd (omega arith); honest = λ h. h }

module _ {ks vs : List ℕ} {σ : ℕ → Term} {τ : Term → Term} {par₀ par queue par' queue' : List ℕ} {top top' done x y : ℕ}
    (g : Going ks vs σ τ par₀ par queue done) (w : Wired ks par queue top) (m : Advanced ks par queue top par' queue' top') (below : done < top)
    (ex : x ≡ low_half (get_or queue done 0)) (ey : get_or par x 0 ≡ y + 1) {same : Bool}
    (told : (k l : ℕ) (ps qs : Parts) → Held ks vs x (node k ps) → Held ks vs y (node l qs)
    → Outcome ks vs σ par par' same (Pairwise (Linked ks vs τ par') ps qs) (CoincideRow σ ps qs)) where
  tells : (e : Edge ks vs x y) → Outcome ks vs σ par par' same (Pairwise (Linked ks vs τ par') e.left e.right) (CoincideRow σ e.left e.right)
  tells e = told e.tag e.tag e.left e.right e.at_left e.at_right

  levels : Honest ks vs σ par₀ → (e : Edge ks vs x y) → CoincideRow σ e.left e.right
  levels h e = node_level σ e.tag e.tag e.left e.right (g.honest h x y (node e.tag e.left) (node e.tag e.right) ey e.at_left e.at_right)

  -- a difference has shown
  pub going_no : same ≡ false → Closed ks vs σ τ par₀ par' false
  going_no f = record {
    yes = never_true;
    honest = λ h. let e = g.fair x y ey in never_true (sym f ∙ ((tells e).honest (g.honest h) (levels h e)).0);
  }

  -- a place that was linked keeps its place above
  kept : (z a b : ℕ) → get_or par z 0 ≡ a + 1 → get_or par' z 0 ≡ b + 1 → b ≡ a
  kept z a b p q = omega (arith, m.keeps z a p)

  row : same ≡ true → (i : ℕ) → i < done + 1 → Dec (i ≡ done) → (z : ℕ) → get_or par' (low_half (get_or queue' i 0)) 0 ≡ z + 1 → Matched ks vs τ par' (low_half (get_or queue' i 0)) z
  row f i h (yes q) z e =
      let qx : low_half (get_or queue' i 0) ≡ x = ap (λ (v : ℕ). low_half (get_or queue' v 0)) q ∙ ap low_half (m.front done below) ∙ sym ex in
      let zy : z ≡ y = kept x y z ey (rw qx at e) in
      let d = g.fair x y ey in
      let r : Matched ks vs τ par' x y = record { edge = d; rows = (tells d).yes f } in
      rw (qx, zy) r
  row f i h (no q) z e =
      let lt : i < done = omega arith in
      let qi = m.front i (omega arith) in
      let p = (w.listed i (omega arith)).1 in
      let zz = kept (low_half (get_or queue i 0)) (high_half (get_or queue i 0)) z p (rw qi at e) in
      rw (qi, zz) (matched_keeps par par' m.keeps ks vs τ (low_half (get_or queue i 0)) (high_half (get_or queue i 0)) (g.rows i lt (high_half (get_or queue i 0)) p))

  pub going_on : same ≡ true → Going ks vs σ τ par₀ par' queue' (done + 1)
  going_on f = record {
    fair = (tells (g.fair x y ey)).fair;
    rows = λ i h. row f i h (ℕ_discrete i done);
    honest = λ h. let e = g.fair x y ey in ((tells e).honest (g.honest h) (levels h e)).1;
  }

-- no place is left
pub going_yes : {ks vs : List ℕ} {σ : ℕ → Term} {τ : Term → Term} {par₀ par queue : List ℕ} {top done : ℕ} → Going ks vs σ τ par₀ par queue done → Wired ks par queue top → top ≤ done
    → Closed ks vs σ τ par₀ par true
going_yes g w h = record {
  yes = λ _ x y e. let q = w.cover x (omega arith) in rw q.2 at (g.rows q.0 (omega (arith, q.1)) y (rw q.2 e));
  honest = λ _. refl;
}

-- ---- the first pair

pub zero_fair : (ks vs par : List ℕ) → Zero par → Fair ks vs par
zero_fair ks vs par z x y e = absurd (omega (arith, z x))

pub zero_honest : (ks vs : List ℕ) (σ : ℕ → Term) (par : List ℕ) → Zero par → Honest ks vs σ par
zero_honest ks vs σ par z x y t u e = absurd (omega (arith, z x))

module _ (ks vs : List ℕ) (σ : ℕ → Term) (τ : Term → Term) (s : Standing σ τ) (par : List ℕ) (z : Zero par) (par' : List ℕ) (first : Bool) (t u : Term)
    (told : Outcome ks vs σ par par' first (Linked ks vs τ par' t u) (Coincide σ t u)) where
  pub decide_no : first ≡ false → Coincide σ t u → ⊥
  decide_no f e = never_true (sym f ∙ (told.honest (zero_honest ks vs σ par z) e).0)

  module _ (par'' : List ℕ) (keeps : Keeps par' par'') (same : Bool) (closed : Closed ks vs σ τ par' par'' same) (f : first ≡ true) where
    pub decide_yes : same ≡ true → Coincide σ t u
    decide_yes e = joined_same σ τ s ks vs par'' (closed.yes e) t u (linked_keeps par' par'' keeps ks vs τ t u (told.yes f))

    pub decide_apart : same ≡ false → Coincide σ t u → ⊥
    decide_apart e q = never_true (sym e ∙ closed.honest (told.honest (zero_honest ks vs σ par z) q).1)

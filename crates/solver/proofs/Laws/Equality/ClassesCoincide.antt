-- The law behind the classes: where every place that is linked below another has its parts joined, places of one class hold terms that come
-- to the same. Shown to any depth m first: that is what makes a cycle of joins harmless.
use mathlib.Core.List.{List}
use mathlib.Core.Path.{◌≡◌, refl, sym, ap, ap₂, ◌∙◌}
use Prim.Native.Nat.{ℕ, zero, suc, ◌+◌}
use lib.ListN.{length, get_or}
use Rattle.terms.specs.Words.Tokens.{toks}
use Rattle.terms.specs.Term.{Term, Parts, var, node, end, num, sub, items, Held}
use Rattle.terms.specs.Words.Held.{span}
use Rattle.terms.proofs.Laws.Held.HeldLaws.{held_first, span_is, items_injective}
use Rattle.solver.specs.Constrain.{replace, replace_row}
use Rattle.solver.specs.Words.CongruenceClasses.{Standing, Up, here, climb, Pairwise, Linked, same_var, same_code, same_class, Edge, Matched}

-- ---- equal to depth m

-- the same down to m levels
unfoldable pub SameTo : ℕ → Term → Term → Type 0
SameTo zero t u = Unit {0}
SameTo (suc m) (var v) (var w) = v ≡ w
SameTo (suc m) (var v) (node j qs) = ⊥
SameTo (suc m) (node k ps) (var w) = ⊥
SameTo (suc m) (node k ps) (node j qs) = (k ≡ j) × Pairwise (SameTo m) ps qs

module _ (J K : Term → Term → Type 0) (f : (t u : Term) → J t u → K t u) where
  pub rows_map : (ps qs : Parts) → Pairwise J ps qs → Pairwise K ps qs
  unfolding Pairwise
  rows_map end end h = tt
  rows_map end (num m qs) h = absurd h
  rows_map end (sub u qs) h = absurd h
  rows_map (num n ps) end h = absurd h
  rows_map (num n ps) (num m qs) h = (h.0, rows_map ps qs h.1)
  rows_map (num n ps) (sub u qs) h = absurd h
  rows_map (sub t ps) end h = absurd h
  rows_map (sub t ps) (num m qs) h = absurd h
  rows_map (sub t ps) (sub u qs) h = (f t u h.0, rows_map ps qs h.1)

module _ (J : Term → Term → Type 0) where
  pub rows_refl : ((t : Term) → J t t) → (ps : Parts) → Pairwise J ps ps
  unfolding Pairwise
  rows_refl f end = tt
  rows_refl f (num n ps) = (refl, rows_refl f ps)
  rows_refl f (sub t ps) = (f t, rows_refl f ps)

  pub rows_sym : ((t u : Term) → J t u → J u t) → (ps qs : Parts) → Pairwise J ps qs → Pairwise J qs ps
  unfolding Pairwise
  rows_sym f end end h = tt
  rows_sym f end (num m qs) h = absurd h
  rows_sym f end (sub u qs) h = absurd h
  rows_sym f (num n ps) end h = absurd h
  rows_sym f (num n ps) (num m qs) h = (sym h.0, rows_sym f ps qs h.1)
  rows_sym f (num n ps) (sub u qs) h = absurd h
  rows_sym f (sub t ps) end h = absurd h
  rows_sym f (sub t ps) (num m qs) h = absurd h
  rows_sym f (sub t ps) (sub u qs) h = (f t u h.0, rows_sym f ps qs h.1)

  pub rows_trans : ((t u w : Term) → J t u → J u w → J t w) → (ps qs rs : Parts) → Pairwise J ps qs → Pairwise J qs rs → Pairwise J ps rs
  unfolding Pairwise
  rows_trans f end end rs h g = g
  rows_trans f end (num m qs) rs h g = absurd h
  rows_trans f end (sub u qs) rs h g = absurd h
  rows_trans f (num n ps) end rs h g = absurd h
  rows_trans f (num n ps) (num m qs) end h g = absurd g
  rows_trans f (num n ps) (num m qs) (num l rs) h g = (h.0 ∙ g.0, rows_trans f ps qs rs h.1 g.1)
  rows_trans f (num n ps) (num m qs) (sub w rs) h g = absurd g
  rows_trans f (num n ps) (sub u qs) rs h g = absurd h
  rows_trans f (sub t ps) end rs h g = absurd h
  rows_trans f (sub t ps) (num m qs) rs h g = absurd h
  rows_trans f (sub t ps) (sub u qs) end h g = absurd g
  rows_trans f (sub t ps) (sub u qs) (num l rs) h g = absurd g
  rows_trans f (sub t ps) (sub u qs) (sub w rs) h g = (f t u w h.0 g.0, rows_trans f ps qs rs h.1 g.1)

-- rows of replaced terms
module _ (K : Term → Term → Type 0) (f : ℕ → Term) where
  pub rows_subst : (ps qs : Parts) → Pairwise (λ t u. K (replace f t) (replace f u)) ps qs → Pairwise K (replace_row f ps) (replace_row f qs)
  unfolding Pairwise replace
  rows_subst end end h = tt
  rows_subst end (num m qs) h = absurd h
  rows_subst end (sub u qs) h = absurd h
  rows_subst (num n ps) end h = absurd h
  rows_subst (num n ps) (num m qs) h = (h.0, rows_subst ps qs h.1)
  rows_subst (num n ps) (sub u qs) h = absurd h
  rows_subst (sub t ps) end h = absurd h
  rows_subst (sub t ps) (num m qs) h = absurd h
  rows_subst (sub t ps) (sub u qs) h = (h.0, rows_subst ps qs h.1)

pub same_refl : (m : ℕ) (t : Term) → SameTo m t t
unfolding SameTo
same_refl zero t = tt
same_refl (suc m) (var v) = refl
same_refl (suc m) (node k ps) = (refl, rows_refl (SameTo m) (same_refl m) ps)

pub same_sym : (m : ℕ) (t u : Term) → SameTo m t u → SameTo m u t
unfolding SameTo
same_sym zero t u h = tt
same_sym (suc m) (var v) (var w) h = sym h
same_sym (suc m) (var v) (node j qs) h = absurd h
same_sym (suc m) (node k ps) (var w) h = absurd h
same_sym (suc m) (node k ps) (node j qs) h = (sym h.0, rows_sym (SameTo m) (same_sym m) ps qs h.1)

pub same_trans : (m : ℕ) (t u w : Term) → SameTo m t u → SameTo m u w → SameTo m t w
unfolding SameTo
same_trans zero t u w h g = tt
same_trans (suc m) (var v) (var w) (var x) h g = h ∙ g
same_trans (suc m) (var v) (var w) (node j qs) h g = absurd g
same_trans (suc m) (var v) (node j qs) w h g = absurd h
same_trans (suc m) (node k ps) (var w) x h g = absurd h
same_trans (suc m) (node k ps) (node j qs) (var w) h g = absurd g
same_trans (suc m) (node k ps) (node j qs) (node l rs) h g = (h.0 ∙ g.0, rows_trans (SameTo m) (same_trans m) ps qs rs h.1 g.1)

-- the same to every depth is the same
mutual
  unfolding SameTo Pairwise

  pub same_all : (t u : Term) → ((m : ℕ) → SameTo m t u) → t ≡ u
  same_all (var v) (var w) h = ap var (h 1)
  same_all (var v) (node j qs) h = absurd (h 1)
  same_all (node k ps) (var w) h = absurd (h 1)
  same_all (node k ps) (node j qs) h = ap₂ node (h 1).0 (same_rows ps qs (λ m. (h (suc m)).1))

  same_rows : (ps qs : Parts) → ((m : ℕ) → Pairwise (SameTo m) ps qs) → ps ≡ qs
  same_rows end end h = refl
  same_rows end (num m qs) h = absurd (h 0)
  same_rows end (sub u qs) h = absurd (h 0)
  same_rows (num n ps) end h = absurd (h 0)
  same_rows (num n ps) (num m qs) h = ap₂ num (h 0).0 (same_rows ps qs (λ m. (h m).1))
  same_rows (num n ps) (sub u qs) h = absurd (h 0)
  same_rows (sub t ps) end h = absurd (h 0)
  same_rows (sub t ps) (num m qs) h = absurd (h 0)
  same_rows (sub t ps) (sub u qs) h = ap₂ sub (same_all t u (λ m. (h m).0)) (same_rows ps qs (λ m. (h m).1))

-- ---- a place holds one term

pub held_same : (ks vs : List ℕ) (p : ℕ) (t u : Term) → Held ks vs p t → Held ks vs p u → t ≡ u
held_same ks vs p t u h g =
    let a = held_first ks vs p t h in
    let b = held_first ks vs p u g in
    let l : length (items t) ≡ length (items u) = sym (span_is t) ∙ ap₂ span (sym a.0 ∙ b.0) (sym a.1 ∙ b.1) ∙ span_is u in
    items_injective t u (sym h.tokens ∙ ap (toks ks vs p) l ∙ g.tokens)

-- ---- classes

module _ (σ : ℕ → Term) (τ : Term → Term) (s : Standing σ τ) where
  module _ (ks vs par : List ℕ) where
    module _ (m : ℕ) (ih : (x y : ℕ) → get_or par x 0 ≡ y + 1 → (t u : Term) → Held ks vs x t → Held ks vs y u → SameTo m (replace σ t) (replace σ u))
        (fair : (x y : ℕ) → get_or par x 0 ≡ y + 1 → Edge ks vs x y) where
      -- going up changes nothing down to m levels
      up_deep : {a r : ℕ} → Up par a r → (t : Term) → Held ks vs a t → (u : Term) × Held ks vs r u × SameTo m (replace σ t) (replace σ u)
      up_deep here t h = (t, h, same_refl m (replace σ t))
      up_deep (climb {a} {b} e p) t h =
          let g = fair a b e in
          let w = up_deep p (node g.tag g.right) g.at_right in
          (w.0, w.1, same_trans m (replace σ t) (replace σ (node g.tag g.right)) (replace σ w.0) (ih a b e t (node g.tag g.right) h g.at_right) w.2)

      joined_deep : (t u : Term) → Linked ks vs τ par t u → SameTo m (replace σ t) (replace σ u)
      joined_deep t u (same_var v e f) =
          let q : replace σ t ≡ replace σ u = sym (s.tops t) ∙ ap (replace σ) (e ∙ sym f) ∙ s.tops u in
          rw q (same_refl m (replace σ u))
      joined_deep t u (same_code c e f) =
          let q : replace σ t ≡ replace σ u = sym (s.tops t) ∙ ap (replace σ) (e ∙ sym f) ∙ s.tops u in
          rw q (same_refl m (replace σ u))
      joined_deep t u (same_class a b r ha hb pa pb) =
          let x = up_deep pa (τ t) ha in
          let y = up_deep pb (τ u) hb in
          let q : x.0 ≡ y.0 = held_same ks vs r x.0 y.0 x.1 y.1 in
          rw (← s.tops t, ← s.tops u)
          (same_trans m (replace σ (τ t)) (replace σ x.0) (replace σ (τ u)) x.2
          (rw q (same_sym m (replace σ (τ u)) (replace σ y.0) y.2)))

    -- every place that is linked has its parts joined
    module _ (all : (x y : ℕ) → get_or par x 0 ≡ y + 1 → Matched ks vs τ par x y) where
      edges : (x y : ℕ) → get_or par x 0 ≡ y + 1 → Edge ks vs x y
      edges x y e = (all x y e).edge

      link_deep : (m x y : ℕ) → get_or par x 0 ≡ y + 1 → (t u : Term) → Held ks vs x t → Held ks vs y u → SameTo m (replace σ t) (replace σ u)
      unfolding SameTo replace edges
      link_deep zero x y e t u h g = tt
      link_deep (suc m) x y e t u h g =
          let d = all x y e in
          let k = d.edge.tag in
          let ps = d.edge.left in
          let qs = d.edge.right in
          let et : t ≡ node k ps = held_same ks vs x t (node k ps) h d.edge.at_left in
          let eu : u ≡ node k qs = held_same ks vs y u (node k qs) g d.edge.at_right in
          let w : SameTo (suc m) (replace σ (node k ps)) (replace σ (node k qs))
          = (refl, rows_subst (SameTo m) σ ps qs (rows_map (Linked ks vs τ par) (λ a b. SameTo m (replace σ a) (replace σ b)) (joined_deep m (link_deep m) edges) ps qs d.rows)) in
          rw (et, eu) w

      -- THE LAW: terms that are joined are the same, bound variables replaced
      pub joined_same : (t u : Term) → Linked ks vs τ par t u → replace σ t ≡ replace σ u
      joined_same t u j = same_all (replace σ t) (replace σ u) (λ m. joined_deep m (link_deep m) edges t u j)

-- What a term stands for at its top, and how one look-up in the column of ends tells it.
use mathlib.Core.Path.{◌≡◌, refl, sym, ap, subst, ◌∙◌}
use mathlib.Core.List.{List}
use mathlib.Core.Option.{Option, none, some}
use Prim.Native.Nat.{ℕ, zero, suc, ◌<◌}
use native.Mathlib.Omega.{arith}
use lib.ListN.{get_or}
use Rattle.terms.specs.Term.{Term, Parts, var, node, Held}
use Rattle.terms.proofs.Laws.Held.HeldLaws.{head_kind, head_value, held_first}
use Rattle.solver.specs.Constrain.{followed, follow}
use Rattle.solver.specs.Words.Bindings.{HeldWord, HeldWord.placed, HeldWord.coded, HeldBinding, HeldBindings}
use Rattle.solver.specs.Words.ChainRecord.{end_if, chain_ends}

pub follow_node : (n : ℕ) (b : ℕ → Option Term) (k : ℕ) (ps : Parts) → follow n b (node k ps) ≡ node k ps
unfolding follow
follow_node zero b k ps = refl
follow_node (suc n) b k ps = refl

pub free_stays : (n : ℕ) (b : ℕ → Option Term) (v : ℕ) → b v ≡ none → follow n b (var v) ≡ var v
unfolding follow followed
free_stays zero b v p = refl
free_stays (suc n) b v p = rw p refl

-- a term whose token is no variable stands for itself
pub stands_alone : (ks vs : List ℕ) (p n : ℕ) (b : ℕ → Option Term) (t : Term) → Held ks vs p t → (get_or ks p 0 ≡ 1 → ⊥) → follow n b t ≡ t
unfolding head_kind
stands_alone ks vs p n b (var v) h e = absurd (e (held_first ks vs p (var v) h).0)
stands_alone ks vs p n b (node k ps) h e = follow_node n b k ps

-- ---- one look-up in the column of ends

module _ {ks vs ws : List ℕ} (b : ℕ → Option Term) (n p : ℕ) (held : HeldBindings ks vs ws (chain_ends n b)) (at : get_or ks p 0 ≡ 1) where
  -- the term is a variable, and its word tells where its chain ends
  end_told : (t : Term) → Held ks vs p t → (v : ℕ) × (t ≡ var v) × (v ≡ get_or vs p 0)
  unfolding head_kind head_value
  end_told (var v) h = (v, refl, sym (held_first ks vs p (var v) h).1)
  end_told (node k ps) h = absurd (omega (arith, (held_first ks vs p (node k ps) h).0))

  -- by the word: free, bound
  pub end_free : (t : Term) → Held ks vs p t → get_or ws (get_or vs p 0) 0 ≡ 0 → follow n b t ≡ t
  unfolding end_if
  end_free t h e =
      let x = end_told t h in
      let w = get_or ws x.0 0 in
      let z : get_or ws x.0 0 ≡ 0 = ap (λ (i : ℕ). get_or ws i 0) x.2 ∙ e in
      subst (λ (c : Term). follow n b c ≡ c) (sym x.1) (free_stays n b x.0 (go x.0 z (b x.0) refl (held.words x.0)))
    where
      go : (v : ℕ) → get_or ws v 0 ≡ 0 → (o : Option Term) → b v ≡ o → HeldBinding ks vs (end_if (b v) (follow n b (var v))) (get_or ws v 0) → b v ≡ none
      go v z none q g = q
      go v z (some u) q g = by (subst (λ (o : Option Term). HeldBinding ks vs (end_if o (follow n b (var v))) (get_or ws v 0)) q g)
        where
          by : HeldWord ks vs (follow n b (var v)) (get_or ws v 0) → b v ≡ none
          by (placed i e f) = absurd (omega arith)
          by (coded c l e f) = absurd (omega arith)

  pub end_bound : (t : Term) → Held ks vs p t → (get_or ws (get_or vs p 0) 0 ≡ 0 → ⊥) → HeldWord ks vs (follow n b t) (get_or ws (get_or vs p 0) 0)
  unfolding end_if
  end_bound t h e =
      let x = end_told t h in
      subst (λ (i : ℕ). HeldWord ks vs (follow n b t) (get_or ws i 0)) x.2
      (subst (λ (c : Term). HeldWord ks vs (follow n b c) (get_or ws x.0 0)) (sym x.1)
      (go x.0 (λ z. e (sym (ap (λ (i : ℕ). get_or ws i 0) x.2) ∙ z)) (b x.0) refl (held.words x.0)))
    where
      go : (v : ℕ) → (get_or ws v 0 ≡ 0 → ⊥) → (o : Option Term) → b v ≡ o → HeldBinding ks vs (end_if (b v) (follow n b (var v))) (get_or ws v 0)
          → HeldWord ks vs (follow n b (var v)) (get_or ws v 0)
      go v z none q g = absurd (z (subst (λ (o : Option Term). HeldBinding ks vs (end_if o (follow n b (var v))) (get_or ws v 0)) q g))
      go v z (some u) q g = subst (λ (o : Option Term). HeldBinding ks vs (end_if o (follow n b (var v))) (get_or ws v 0)) q g

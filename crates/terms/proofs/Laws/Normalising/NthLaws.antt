-- The i-th of the tokens in a row that pass a test, by `filter` and `nth`: a law of the row for each token gives what is found.
use mathlib.Core.Path.{◌≡◌, refl, sym, subst, ◌∙◌}
use mathlib.Core.Bool.{Bool, true, false}
use mathlib.Core.List.{List, [], ◌∷◌}
use Prim.Native.Nat.{ℕ, suc, ◌+◌, ◌-◌, ◌≤◌}
use native.Mathlib.Omega.{arith}
use lib.ListN.{length}
use denote.Param.Members.{Mut}
use denote.Ref.{Bor}
use Rattle.std.specs.Prelude.{Option, Some, None, MatchOption, ⊤}
use Rattle.std.specs.Fn.{CalledAt}
use Rattle.std.specs.List.{FoldsTo}
use Rattle.std.specs.Iterator.{Yields, SkipsThenYields}
use Rattle.std.specs.Iterator.Adapters.{filter_source, filter_callee, filter_steps}
use Rattle.std.specs.declared.iter.Filter.{Filter}
use Rattle.terms.specs.declared.RowWalk.{RowWalk}
use Rattle.terms.specs.declared.Seen.{Seen}
use Rattle.terms.specs.declared.Token.{Token}
use Rattle.terms.specs.Term.{Parts}
use Rattle.terms.specs.Words.Lent.{shown}
use Rattle.terms.specs.Words.RowsContract.{Moves}
use Rattle.terms.proofs.Laws.Normalising.ScanLaws.{Scan, Came, Walking, came, walk_on}

-- the closure tests the kind, and stays as it is
abbrev pub Tells : {F : Type 0} → Mut F (Bor (ℕ × Token) × Unit {0}) Bool → (ℕ → Bool) → F → Type 0
Tells {F} g test f = (y : ℕ × Token) (b : Bool) (p : F) → CalledAt g f y b p → (p ≡ f) × (b ≡ test y.1.kind)

-- P tells of a row by how many passed the test and how many are wanted: a token that does not pass keeps it, and one that does is counted
abbrev pub Keeps : (ℕ → Bool) → Seen → ℕ → (ℕ → ℕ → ℕ → Parts → Parts → Type 0) → Type 0
Keeps test x h P = (p n e q k v r : ℕ) → Scan (shown x) h e q (P p n) → Came (shown x) e q k v r → test k ≡ false → Scan (shown x) h e r (P p n)

abbrev pub Takes : (ℕ → Bool) → Seen → ℕ → (ℕ → ℕ → ℕ → Parts → Parts → Type 0) → Type 0
Takes test x h P = (p n e q k v r : ℕ) → Scan (shown x) h e q (P p (suc n)) → Came (shown x) e q k v r → test k ≡ true → Scan (shown x) h e r (P (p + 1) n)

module _ {F : Type 0} (g : Mut F (Bor (ℕ × Token) × Unit {0}) Bool) (test : ℕ → Bool) (f : F)
    (told : Tells g test f)
    (x : Seen) (h : ℕ) (P : ℕ → ℕ → ℕ → Parts → Parts → Type 0)
    (pass : Keeps test x h P)
    (take : Takes test x h P) where
  passed : (p n : ℕ) (xs : List (ℕ × Token)) (s t : RowWalk) (j q : F) → j ≡ f → Walking x h s (P p n) → Yields Moves s xs t → FoldsTo (λ p y q. CalledAt g p y false q) j xs q
      → Walking x h t (P p n) × (q ≡ f)
  passed p n [] s t j q a w y c = (subst (λ z. Walking x h z (P p n)) y w, sym c ∙ a)
  passed p n (y ∷ xs) s t j q a w m c =
      let o = told y false c.0 (subst (λ z. CalledAt g z y false c.0) a c.1) in
      passed p n xs m.0 t c.0 q o.0 (walk_on w y.0 y.1 m.0 m.1 (pass p n _ _ _ _ _ w.scan (came x s w.over y.0 y.1 m.0 m.1) (sym o.1))) m.2 c.2

  -- where the walk comes to the next that passes
  pub record Found (p n : ℕ) (r : Option (ℕ × Token)) (t : RowWalk) (q : F) : Type 0 where
    pub at : RowWalk
    pub walk : Walking x h at (P p n)
    pub step : Moves at r t
    pub passes : MatchOption r ⊤ (λ y. test y.1.kind ≡ true)
    pub callee : q ≡ f

  found : (p n : ℕ) (s t : Filter RowWalk F) (r : Option (ℕ × Token)) → filter_callee s ≡ f → Walking x h (filter_source s) (P p n) → filter_steps Moves g s r t
      → Found p n r (filter_source t) (filter_callee t)
  found p n s t None a w m =
      let o = passed p n m.0 (filter_source s) m.2.0 (filter_callee s) m.1 a w m.2.1 m.3 in
      record { at = m.2.0; walk = o.0; step = m.2.2; passes = tt; callee = m.4 ∙ o.1 }
  found p n s t (Some y) a w m =
      let o = passed p n m.0 (filter_source s) m.2.0 (filter_callee s) m.1 a w m.2.1 m.3 in
      let e = told y true (filter_callee t) (subst (λ z. CalledAt g z y true (filter_callee t)) o.1 m.4) in
      record { at = m.2.0; walk = o.0; step = m.2.2; passes = sym e.1; callee = e.0 }

  several : (ys : List (ℕ × Token)) (p n q m : ℕ) (s t : Filter RowWalk F) → q ≡ p + length ys → m ≡ length ys + n → filter_callee s ≡ f → Walking x h (filter_source s) (P p m)
      → Yields (filter_steps Moves g) s ys t → Walking x h (filter_source t) (P q n) × (filter_callee t ≡ f)
  several [] p n q m s t k l a w y =
      let i : m ≡ n = omega arith in
      let j : p ≡ q = omega arith in
      (subst (λ (z : Filter RowWalk F). Walking x h (filter_source z) (P q n)) y (subst (λ z. Walking x h (filter_source s) (P z n)) j (subst (λ z. Walking x h (filter_source s) (P p z)) i w)), subst (λ (z : Filter RowWalk F). filter_callee z ≡ f) y a)
  several (y ∷ ys) p n q m s t k l a w e =
      let i : m ≡ suc (length ys + n) = omega arith in
      let o = found p (suc (length ys + n)) s e.0 (Some y) a (subst (λ z. Walking x h (filter_source s) (P p z)) i w) e.1 in
      several ys (p + 1) n q (length ys + n) e.0 t (omega (arith, k)) refl o.callee
      (walk_on o.walk y.0 y.1 (filter_source e.0) o.step (take _ _ _ _ _ _ _ o.walk.scan (came x o.at o.walk.over y.0 y.1 (filter_source e.0) o.step) o.passes)) e.2

module _ {F : Type 0} (g : Mut F (Bor (ℕ × Token) × Unit {0}) Bool) (test : ℕ → Bool) {f : F} (x : Seen) (h i : ℕ) (P : ℕ → ℕ → ℕ → Parts → Parts → Type 0) {s : Filter RowWalk F} (t : Filter RowWalk F) where
  -- what `nth` found, behind i that passed
  pub nth_found : (y : ℕ × Token) → SkipsThenYields (filter_steps Moves g) s i (Some y) t → filter_callee s ≡ f → Walking x h (filter_source s) (P 0 i)
      → Keeps test x h P
      → Takes test x h P
      → Tells g test f
      → (w : RowWalk) × Walking x h w (P i 0) × Moves w (Some y) (filter_source t) × (test y.1.kind ≡ true)
  nth_found y m a w pass take told =
      let o = several g test f told x h P pass take m.0 0 0 i i s m.1.0 (omega (arith, m.2)) (omega (arith, m.2)) a w m.1.1 in
      let d = found g test f told x h P pass take i 0 m.1.0 t (Some y) o.1 o.0 m.1.2 in
      (d.at, d.walk, d.step, d.passes)

  -- the end that it came to, behind p that passed, and n more were wanted
  pub nth_none : SkipsThenYields (filter_steps Moves g) s i None t → filter_callee s ≡ f → Walking x h (filter_source s) (P 0 i)
      → Keeps test x h P
      → Takes test x h P
      → Tells g test f
      → (p n : ℕ) × (p ≤ i) × (w : RowWalk) × Walking x h w (P p n) × Moves w None (filter_source t)
  nth_none m a w pass take told =
      let o = several g test f told x h P pass take m.0 0 (i - length m.0) (length m.0) i s m.1.0 (omega arith) (omega (arith, m.2)) a w m.1.1 in
      let d = found g test f told x h P pass take (length m.0) (i - length m.0) m.1.0 t None o.1 o.0 m.1.2 in
      (length m.0, i - length m.0, m.2, d.at, d.walk, d.step)

-- `conflicts_with` on rows in the areas.
use mathlib.Core.Path.{◌≡◌, refl, sym, ap, subst, ◌∙◌}
use mathlib.Core.Bool.{Bool, true, false, not, ◌||◌}
use mathlib.Core.List.{List, [], ◌∷◌}
use mathlib.Core.Logic.{◌⊎◌, inl, inr}
use Prim.Native.Nat.{ℕ, suc, ◌+◌, ◌-◌, ◌≤◌, ◌<◌}
use native.Mathlib.Omega.{arith}
use native.Mathlib.Decide.{dec_lt, ℕ_discrete}
use borrow.Author.Tests.{eq-eqb, ne_eqb, eqb-true, lt-ltb, le-ltb}
use lib.Dec.{eqb, ltb}
use lib.ListN.{length, get_or, length-append}
use Rattle.terms.specs.Result.{pick}
use Rattle.terms.specs.Term.{Term, Parts, var, node, end, num, sub, ◌+++◌, items, part_items}
use Rattle.terms.specs.Words.Held.{Held, HeldParts, span}
use Rattle.terms.specs.Shape as shape
use Rattle.terms.specs.Shape.{Shape, layout}
use Rattle.terms.specs.Formed.{Formed, Fit, TakesNumber, TakesTerm, after_number, after_term}
use Rattle.terms.specs.Tree.{same, same_rows}
use Rattle.terms.specs.Questions.{among}
use Rattle.terms.specs.Comparison.{recovery, conflicts_with, rows_conflict}
use Rattle.terms.specs.Words.CompareContract.{Rows}
use Rattle.terms.proofs.Laws.General.Bools.{never_true, never_false, or-true, or_right, or_assoc, or-false, or-none}
use Rattle.terms.proofs.Laws.Held.HeldLaws.{held_first, head_kind, row_num, row_sub, row_end, end_ends, held_sub, items_some}
use Rattle.terms.proofs.Laws.Held.FlatLaws.{join, fit_append, held_enter, held_whole}
use Rattle.terms.proofs.Laws.Held.SameLaws.{span_held}

-- ---- the definition

-- a row that is over takes nothing more
done_number : {A : Type 0} (r : Shape) (n : ℕ) → r ≡ shape.done → TakesNumber r n → A
unfolding TakesNumber
done_number r n e h = absurd (subst (λ (x : Shape). TakesNumber x n) e h)

done_term : {A : Type 0} (r : Shape) → r ≡ shape.done → TakesTerm r → A
unfolding TakesTerm
done_term r e h = absurd (subst (λ (x : Shape). TakesTerm x) e h)

number_term : {A : Type 0} (r : Shape) (n : ℕ) → TakesNumber r n → TakesTerm r → A
unfolding TakesNumber TakesTerm
number_term shape.done n h k = absurd h
number_term (shape.code limit s) n h k = absurd k
number_term (shape.number f s) n h k = absurd k
number_term (shape.term s) n h k = absurd h
number_term (shape.terms s) n h k = absurd k
number_term (shape.members s) n h k = absurd k
number_term (shape.member l least s) n h k = absurd k

-- Two rows of one shape, and then two more: a number that differs tells at once, and else the rows end together.
pub conflict_append : (ps qs x y : Parts) (r : Shape) → Fit r ps → Fit r qs → rows_conflict (ps +++ x) (qs +++ y) ≡ (rows_conflict ps qs || rows_conflict x y)
unfolding Fit conflicts_with
conflict_append end end x y r f g = refl
conflict_append end (num m qs) x y r f g = done_number r m f g.0
conflict_append end (sub u qs) x y r f g = done_term r f g.0
conflict_append (num n ps) end x y r f g = done_number r n g f.0
conflict_append (num n ps) (num m qs) x y r f g = go (eqb n m) refl (conflict_append ps qs x y (after_number r n) f.1)
  where
    go : (b : Bool) → eqb n m ≡ b → (Fit (after_number r n) qs → rows_conflict (ps +++ x) (qs +++ y) ≡ (rows_conflict ps qs || rows_conflict x y))
        → (not b || rows_conflict (ps +++ x) (qs +++ y)) ≡ ((not b || rows_conflict ps qs) || rows_conflict x y)
    go true e ih = ih (subst (λ (k : ℕ). Fit (after_number r k) qs) (sym (eqb-true n m e)) g.1)
    go false e ih = refl
conflict_append (num n ps) (sub u qs) x y r f g = number_term r n f.0 g.0
conflict_append (sub t ps) end x y r f g = done_term r g f.0
conflict_append (sub t ps) (num m qs) x y r f g = number_term r m g.0 f.0
conflict_append (sub t ps) (sub u qs) x y r f g =
    ap (λ (b : Bool). conflicts_with t u || b) (conflict_append ps qs x y (after_term r) f.2 g.2) ∙ sym (or_assoc (conflicts_with t u) (rows_conflict ps qs) (rows_conflict x y))

-- ---- by the first token's kind

-- what a test on three numbers says
pub among_three : (n a b c : ℕ) → among n (a ∷ b ∷ c ∷ []) ≡ true → (n ≡ a) ⊎ ((n ≡ b) ⊎ (n ≡ c))
unfolding among
among_three n a b c h = go (eqb n a) (eqb n b) (eqb n c) refl refl refl h
  where
    go : (x y z : Bool) → eqb n a ≡ x → eqb n b ≡ y → eqb n c ≡ z → (x || (y || (z || false))) ≡ true → (n ≡ a) ⊎ ((n ≡ b) ⊎ (n ≡ c))
    go true y z e f g h = inl (eqb-true n a e)
    go false true z e f g h = inr (inl (eqb-true n b f))
    go false false true e f g h = inr (inr (eqb-true n c g))
    go false false false e f g h = never_true h

pub not_among : (n a b c : ℕ) → among n (a ∷ b ∷ c ∷ []) ≡ false → (n ≡ a → ⊥) × ((n ≡ b → ⊥) × (n ≡ c → ⊥))
unfolding among
not_among n a b c h = (
  λ e. never_false (sym (or-true (eqb n a) _ (eq-eqb n a e)) ∙ h),
  (
    λ e. never_false (sym (or_right (eqb n a) _ (or-true (eqb n b) _ (eq-eqb n b e))) ∙ h),
    λ e. never_false (sym (or_right (eqb n a) _ (or_right (eqb n b) _ (or-true (eqb n c) _ (eq-eqb n c e)))) ∙ h),
  ),
)

-- Unknown and Error by the tag
recovers : (k : ℕ) → (k ≡ 2) ⊎ (k ≡ 3) → recovery k ≡ true
unfolding among
recovers k (inl e) = rw e
recovers k (inr e) = rw e

recovers_not : (k : ℕ) → (k ≡ 2 → ⊥) → (k ≡ 3 → ⊥) → recovery k ≡ false
unfolding among
recovers_not k a b = rw (ne_eqb k 2 a, ne_eqb k 3 b)

-- a term that yields is a variable, or Unknown or Error
yielding : (t : Term) → among (head_kind t) (1 ∷ 4 ∷ 5 ∷ []) ≡ true → (k : ℕ) (ps : Parts) → t ≡ node k ps → recovery k ≡ true
unfolding head_kind
yielding (var v) h k ps e = let z : ◌≡◌ {A = ℕ} 0 1 = cc in absurd (omega arith)
yielding (node j qs) h k ps e =
    let same : j ≡ k = cc in
    go (among_three (suc (suc j)) 1 4 5 h) same
  where
    go : (suc (suc j) ≡ 1) ⊎ ((suc (suc j) ≡ 4) ⊎ (suc (suc j) ≡ 5)) → j ≡ k → recovery k ≡ true
    go (inl z) s = absurd (omega arith)
    go (inr (inl z)) s = recovers k (inl (omega arith))
    go (inr (inr z)) s = recovers k (inr (omega arith))

pub yields_left : (t u : Term) → among (head_kind t) (1 ∷ 4 ∷ 5 ∷ []) ≡ true → conflicts_with t u ≡ false
unfolding conflicts_with
yields_left (var v) u h = refl
yields_left (node k ps) (var w) h = refl
yields_left (node k ps) (node j qs) h = rw (yielding (node k ps) h k ps refl)

pub yields_right : (t u : Term) → among (head_kind u) (1 ∷ 4 ∷ 5 ∷ []) ≡ true → conflicts_with t u ≡ false
unfolding conflicts_with
yields_right (var v) u h = refl
yields_right (node k ps) (var w) h = refl
yields_right (node k ps) (node j qs) h = rw (or_right (recovery k) (recovery j) (yielding (node j qs) h j qs refl))

-- a term that does not yield is a node
pub record Firm (t : Term) : Type 0 where
  pub tag : ℕ
  pub row : Parts
  pub is : t ≡ node tag row
  pub kind : head_kind t ≡ suc (suc tag)
  pub not : recovery tag ≡ false

pub firm : (t : Term) → among (head_kind t) (1 ∷ 4 ∷ 5 ∷ []) ≡ false → Firm t
unfolding head_kind
firm (var v) h = absurd ((not_among 1 1 4 5 h).0 refl)
firm (node k ps) h =
    let n = not_among (suc (suc k)) 1 4 5 h in
    record { tag = k; row = ps; is = refl; kind = refl; not = recovers_not k (λ e. n.1.0 (omega arith)) (λ e. n.1.1 (omega arith)) }

-- two nodes that do not yield
nodes_conflict : (k j : ℕ) (ps qs : Parts) → recovery k ≡ false → recovery j ≡ false
    → conflicts_with (node k ps) (node j qs) ≡ pick (eqb k j) (pick (eqb k 18) (not (same_rows ps qs)) (rows_conflict ps qs)) true
unfolding conflicts_with
nodes_conflict k j ps qs a b = rw (a, b)

same_nodes : (k j : ℕ) (ps qs : Parts) → k ≡ j → same (node k ps) (node j qs) ≡ same_rows ps qs
unfolding same
same_nodes k j ps qs e = rw (eq-eqb k j e)

module _ (t u : Term) (a : Firm t) (b : Firm u) where
  firm_conflict : conflicts_with t u ≡ pick (eqb a.tag b.tag) (pick (eqb a.tag 18) (not (same_rows a.row b.row)) (rows_conflict a.row b.row)) true
  firm_conflict = ap (λ (x : Term). conflicts_with x u) a.is ∙ ap (λ (x : Term). conflicts_with (node a.tag a.row) x) b.is ∙ nodes_conflict a.tag b.tag a.row b.row a.not b.not

  pub kinds_differ : (head_kind t ≡ head_kind u → ⊥) → conflicts_with t u ≡ true
  kinds_differ d = firm_conflict ∙ rw (ne_eqb a.tag b.tag (λ e. d (a.kind ∙ ap (λ (n : ℕ). suc (suc n)) e ∙ sym b.kind)))

  same_tag : head_kind t ≡ head_kind u → a.tag ≡ b.tag
  same_tag e = omega (arith, a.kind, b.kind)

  -- projections, as wholes
  pub projections : head_kind t ≡ head_kind u → head_kind t ≡ 20 → conflicts_with t u ≡ not (same t u)
  projections e p =
      let h : a.tag ≡ 18 = omega (arith, a.kind) in
      firm_conflict ∙ rw (eq-eqb a.tag b.tag (same_tag e), eq-eqb a.tag 18 h)
      (sym (ap not (ap (λ (x : Term). same x u) a.is ∙ ap (λ (x : Term). same (node a.tag a.row) x) b.is ∙ same_nodes a.tag b.tag a.row b.row (same_tag e))))

  -- other nodes, by their rows
  pub nodes_enter : head_kind t ≡ head_kind u → (head_kind t ≡ 20 → ⊥) → conflicts_with t u ≡ rows_conflict a.row b.row
  nodes_enter e p =
      let h : a.tag ≡ 18 → ⊥ = λ z. p (omega (arith, a.kind)) in
      firm_conflict ∙ rw (eq-eqb a.tag b.tag (same_tag e), ne_eqb a.tag 18 h)

-- ---- the steps of the comparison

-- the terms that come next in both rows
pub record Terms (ks vs : List ℕ) (i ae j be : ℕ) (whole : Bool) : Type 0 where
  pub shape : Shape
  pub t : Term
  pub u : Term
  pub ps : Parts
  pub qs : Parts
  pub row_left : HeldParts ks vs i ae (sub t ps)
  pub row_right : HeldParts ks vs j be (sub u qs)
  pub held_left : Held ks vs i t
  pub held_right : Held ks vs j u
  pub formed_left : Formed t
  pub formed_right : Formed u
  pub fit_left : Fit shape ps
  pub fit_right : Fit shape qs
  pub same : whole ≡ (conflicts_with t u || rows_conflict ps qs)

module _ {ks vs : List ℕ} {i ae j be : ℕ} {whole : Bool} (x : Rows ks vs i ae j be whole) (hi : i < ae) (hj : j < be) where
  pub number_term_clash : get_or ks i 0 ≡ 0 → (get_or ks j 0 ≡ 0 → ⊥) → whole ≡ true
  unfolding conflicts_with
  number_term_clash p q =
      let a = row_num ks vs i ae x.left x.held_left hi p in
      let b = row_sub ks vs j be x.right x.held_right hj q in
      x.same ∙ ap (λ (y : Parts). rows_conflict y x.right) a.2 ∙ ap (λ (y : Parts). rows_conflict (num a.0 a.1) y) b.2

  pub term_number_clash : (get_or ks i 0 ≡ 0 → ⊥) → get_or ks j 0 ≡ 0 → whole ≡ true
  unfolding conflicts_with
  term_number_clash p q =
      let a = row_sub ks vs i ae x.left x.held_left hi p in
      let b = row_num ks vs j be x.right x.held_right hj q in
      x.same ∙ ap (λ (y : Parts). rows_conflict y x.right) a.2 ∙ ap (λ (y : Parts). rows_conflict (sub a.0 a.1) y) b.2

  pub numbers_clash : get_or ks i 0 ≡ 0 → get_or ks j 0 ≡ 0 → (get_or vs i 0 ≡ get_or vs j 0 → ⊥) → whole ≡ true
  unfolding conflicts_with
  numbers_clash p q d =
      let a = row_num ks vs i ae x.left x.held_left hi p in
      let b = row_num ks vs j be x.right x.held_right hj q in
      x.same ∙ ap (λ (y : Parts). rows_conflict y x.right) a.2 ∙ ap (λ (y : Parts). rows_conflict (num a.0 a.1) y) b.2
      ∙ or-true (not (eqb a.0 b.0)) (rows_conflict a.1 b.1) (ap not (ne_eqb a.0 b.0 (λ e. d (a.3 ∙ e ∙ sym b.3))))

  pub numbers_onward : get_or ks i 0 ≡ 0 → get_or ks j 0 ≡ 0 → get_or vs i 0 ≡ get_or vs j 0 → Rows ks vs (i + 1) ae (j + 1) be whole
  unfolding conflicts_with Fit
  numbers_onward p q e =
      let a = row_num ks vs i ae x.left x.held_left hi p in
      let b = row_num ks vs j be x.right x.held_right hj q in
      let n : a.0 ≡ b.0 = sym a.3 ∙ e ∙ b.3 in
      let f = subst (λ (y : Parts). Fit x.shape y) a.2 x.fit_left in
      let g = subst (λ (y : Parts). Fit x.shape y) b.2 x.fit_right in
      record {
        shape = after_number x.shape a.0;
        left = a.1;
        right = b.1;
        held_left = a.4;
        held_right = b.4;
        fit_left = f.1;
        fit_right = subst (λ (k : ℕ). Fit (after_number x.shape k) b.1) (sym n) g.1;
        same = x.same ∙ ap (λ (y : Parts). rows_conflict y x.right) a.2 ∙ ap (λ (y : Parts). rows_conflict (num a.0 a.1) y) b.2
            ∙ or-false (not (eqb a.0 b.0)) (rows_conflict a.1 b.1) (ap not (eq-eqb a.0 b.0 n));
      }

module _ {ks vs : List ℕ} {i ae j be : ℕ} {whole : Bool} (x : Rows ks vs i ae j be whole)
    (m : i < ae) (n : j < be) (r : (0 < get_or ks i 0) × (0 < get_or ks j 0)) where
  pub next_terms : Terms ks vs i ae j be whole
  unfolding conflicts_with Fit
  next_terms =
      let a = row_sub ks vs i ae x.left x.held_left m (λ e. omega (arith, r.0)) in
      let b = row_sub ks vs j be x.right x.held_right n (λ e. omega (arith, r.1)) in
      let f = subst (λ (y : Parts). Fit x.shape y) a.2 x.fit_left in
      let g = subst (λ (y : Parts). Fit x.shape y) b.2 x.fit_right in
      record {
        shape = after_term x.shape;
        t = a.0;
        u = b.0;
        ps = a.1;
        qs = b.1;
        row_left = subst (λ (y : Parts). HeldParts ks vs i ae y) a.2 x.held_left;
        row_right = subst (λ (y : Parts). HeldParts ks vs j be y) b.2 x.held_right;
        held_left = a.3;
        held_right = b.3;
        formed_left = f.1;
        formed_right = g.1;
        fit_left = f.2;
        fit_right = g.2;
        same = x.same ∙ ap (λ (y : Parts). rows_conflict y x.right) a.2 ∙ ap (λ (y : Parts). rows_conflict (sub a.0 a.1) y) b.2;
      }

-- the end of the first row
pub rows_over : (ks vs : List ℕ) (i ae j be : ℕ) (whole : Bool) → Rows ks vs i ae j be whole → ae ≤ i → j < be → whole ≡ true
unfolding conflicts_with
rows_over ks vs i ae j be whole x h k = go x.right x.held_right (x.same ∙ ap (λ (y : Parts). rows_conflict y x.right) (row_end ks vs i ae x.left x.held_left h))
  where
    go : (q : Parts) → HeldParts ks vs j be q → whole ≡ rows_conflict end q → whole ≡ true
    go end hq e = absurd (omega (arith, end_ends ks vs j be hq))
    go (num n q) hq e = e
    go (sub u q) hq e = e

pub rows_done : (ks vs : List ℕ) (i ae j be : ℕ) (whole : Bool) → Rows ks vs i ae j be whole → ae ≤ i → be ≤ j → whole ≡ false
unfolding conflicts_with
rows_done ks vs i ae j be whole x h k =
    x.same ∙ ap (λ (y : Parts). rows_conflict y x.right) (row_end ks vs i ae x.left x.held_left h) ∙ ap (λ (y : Parts). rows_conflict end y) (row_end ks vs j be x.right x.held_right k)

-- the second row is over and the first is not
pub rows_short : (ks vs : List ℕ) (i ae j be : ℕ) (whole : Bool) → Rows ks vs i ae j be whole → i < ae → be ≤ j → whole ≡ true
unfolding conflicts_with
rows_short ks vs i ae j be whole x h k = go x.left x.held_left (x.same ∙ ap (λ (y : Parts). rows_conflict x.left y) (row_end ks vs j be x.right x.held_right k))
  where
    go : (q : Parts) → HeldParts ks vs i ae q → whole ≡ rows_conflict q end → whole ≡ true
    go end hq e = absurd (omega (arith, end_ends ks vs i ae hq))
    go (num n q) hq e = e
    go (sub u q) hq e = e

-- the rows go on past the two terms
abbrev pub Past : (ks vs : List ℕ) (i ae j be : ℕ) → ℕ × ℕ → Type 0
Past ks vs i ae j be p = (t u : Term) (ps qs : Parts) → HeldParts ks vs i ae (sub t ps) → HeldParts ks vs j be (sub u qs) → HeldParts ks vs p.0 ae ps × HeldParts ks vs p.1 be qs

module _ {ks vs : List ℕ} {i ae j be : ℕ} {whole : Bool} (x : Terms ks vs i ae j be whole) {m n : ℕ} (em : m ≡ get_or ks i 0) (en : n ≡ get_or ks j 0) where
  kind_left : head_kind x.t ≡ m
  kind_left = sym (em ∙ (held_first ks vs i x.t x.held_left).0)

  kind_right : head_kind x.u ≡ n
  kind_right = sym (en ∙ (held_first ks vs j x.u x.held_right).0)

  -- the terms conflict
  clash : conflicts_with x.t x.u ≡ true → whole ≡ true
  clash h = x.same ∙ or-true (conflicts_with x.t x.u) (rows_conflict x.ps x.qs) h

  -- they do not, and the rows go on after them
  onward : (k l : ℕ) → HeldParts ks vs k ae x.ps → HeldParts ks vs l be x.qs → conflicts_with x.t x.u ≡ false → Rows ks vs k ae l be whole
  onward k l p q h = record {
    shape = x.shape;
    left = x.ps;
    right = x.qs;
    held_left = p;
    held_right = q;
    fit_left = x.fit_left;
    fit_right = x.fit_right;
    same = x.same ∙ or-false (conflicts_with x.t x.u) (rows_conflict x.ps x.qs) h;
  }

  firm_left : among (m) (1 ∷ 4 ∷ 5 ∷ []) ≡ false → Firm x.t
  firm_left a = firm x.t (ap (λ (k : ℕ). among k (1 ∷ 4 ∷ 5 ∷ [])) kind_left ∙ a)

  firm_right : among (n) (1 ∷ 4 ∷ 5 ∷ []) ≡ false → Firm x.u
  firm_right a = firm x.u (ap (λ (k : ℕ). among k (1 ∷ 4 ∷ 5 ∷ [])) kind_right ∙ a)

  -- they do not, and the rows go on past them
  beyond : (p : ℕ × ℕ) → Past ks vs i ae j be p → conflicts_with x.t x.u ≡ false → Rows ks vs p.0 ae p.1 be whole
  beyond p f = let h = f x.t x.u x.ps x.qs x.row_left x.row_right in onward p.0 p.1 h.0 h.1

  pub step_left : among (m) (1 ∷ 4 ∷ 5 ∷ []) ≡ true → (p : ℕ × ℕ) → Past ks vs i ae j be p → Rows ks vs p.0 ae p.1 be whole
  step_left a p f = beyond p f (yields_left x.t x.u (ap (λ (k : ℕ). among k (1 ∷ 4 ∷ 5 ∷ [])) kind_left ∙ a))

  pub step_right : among (n) (1 ∷ 4 ∷ 5 ∷ []) ≡ true → (p : ℕ × ℕ) → Past ks vs i ae j be p → Rows ks vs p.0 ae p.1 be whole
  step_right a p f = beyond p f (yields_right x.t x.u (ap (λ (k : ℕ). among k (1 ∷ 4 ∷ 5 ∷ [])) kind_right ∙ a))

  module _ (a : among (m) (1 ∷ 4 ∷ 5 ∷ []) ≡ false) (b : among (n) (1 ∷ 4 ∷ 5 ∷ []) ≡ false) where
    pub step_kinds : (m ≡ n → ⊥) → whole ≡ true
    step_kinds d = clash (kinds_differ x.t x.u (firm_left a) (firm_right b) (λ e. d (sym kind_left ∙ e ∙ kind_right)))

    module _ (e : m ≡ n) where
      same_kind : head_kind x.t ≡ head_kind x.u
      same_kind = kind_left ∙ e ∙ sym kind_right

      pub step_projections : m ≡ 20 → same x.t x.u ≡ false → whole ≡ true
      step_projections p h = clash (projections x.t x.u (firm_left a) (firm_right b) same_kind (kind_left ∙ p) ∙ ap not h)

      pub step_whole : m ≡ 20 → same x.t x.u ≡ true → (p : ℕ × ℕ) → Past ks vs i ae j be p → Rows ks vs p.0 ae p.1 be whole
      step_whole q h p f = beyond p f (projections x.t x.u (firm_left a) (firm_right b) same_kind (kind_left ∙ q) ∙ ap not h)

      pub step_enter : (m ≡ 20 → ⊥) → Rows ks vs (i + 1) ae (j + 1) be whole
      unfolding Formed
      step_enter p =
          let f = firm_left a in
          let g = firm_right b in
          let h : f.tag ≡ g.tag = omega (arith, f.kind, g.kind, same_kind) in
          let fl = subst (λ (y : Term). Formed y) f.is x.formed_left in
          let fr = subst (λ (y : Term). Formed y) g.is x.formed_right in
          let gr : Fit (layout f.tag) g.row = subst (λ (k : ℕ). Fit (layout k) g.row) (sym h) fr.1 in
          record {
            shape = join (layout f.tag) x.shape;
            left = f.row +++ x.ps;
            right = g.row +++ x.qs;
            held_left = held_enter ks vs i ae f.tag f.row x.ps (subst (λ (y : Term). HeldParts ks vs i ae (sub y x.ps)) f.is x.row_left);
            held_right = held_enter ks vs j be g.tag g.row x.qs (subst (λ (y : Term). HeldParts ks vs j be (sub y x.qs)) g.is x.row_right);
            fit_left = fit_append f.row x.ps (layout f.tag) x.shape fl.1 x.fit_left;
            fit_right = fit_append g.row x.qs (layout f.tag) x.shape gr x.fit_right;
            same =
                x.same
                ∙ ap (λ (y : Bool). y || rows_conflict x.ps x.qs) (nodes_enter x.t x.u f g same_kind (λ z. p (sym kind_left ∙ z)))
                ∙ sym (conflict_append f.row g.row x.ps x.qs (layout f.tag) fl.1 gr);
          }

-- what `skip` tells of the term that comes next in a row
pub passed : (ks vs : List ℕ) (i ae n : ℕ) (t : Term) (ps : Parts) → HeldParts ks vs i ae (sub t ps)
    → (1 ≤ span (get_or ks i 0) (get_or vs i 0) → span (get_or ks i 0) (get_or vs i 0) ≤ ae - i → n ≡ span (get_or ks i 0) (get_or vs i 0)) → HeldParts ks vs (i + n) ae ps
unfolding items
passed ks vs i ae n t ps h p =
    let q = held_sub ks vs i ae t ps h in
    let s = span_held ks vs i t q.0 in
    let e = p (omega (arith, items_some t)) (omega (arith, h.ends, length-append (items t) (part_items ps))) ∙ s in
    subst (λ (k : ℕ). HeldParts ks vs (i + k) ae ps) (sym e) q.1

-- two terms as rows
pub terms_rows : {ks vs : List ℕ} {a b i ie j je : ℕ} (t u : Term) → Held ks vs a t → Held ks vs b u → Formed t → Formed u → i ≡ a → ie ≡ a + length (items t)
    → j ≡ b → je ≡ b + length (items u) → Rows ks vs i ie j je (conflicts_with t u)
unfolding conflicts_with Fit TakesTerm after_term
terms_rows {ks} {vs} t u ht hu ft fu ei en ej em = record {
  shape = shape.term shape.done;
  left = sub t end;
  right = sub u end;
  held_left = held_whole ks vs t ei en ht;
  held_right = held_whole ks vs u ej em hu;
  fit_left = (tt, ft, refl);
  fit_right = (tt, fu, refl);
  same = sym (or-none (conflicts_with t u));
}

-- the first row is over: the test of the second
pub rows_last : (ks vs : List ℕ) (i ae j be : ℕ) (whole : Bool) → Rows ks vs i ae j be whole → ae ≤ i → ltb j be ≡ whole
rows_last ks vs i ae j be whole x h = go (dec_lt j be)
  where
    go : Dec (j < be) → ltb j be ≡ whole
    go (yes k) = lt-ltb j be k ∙ sym (rows_over ks vs i ae j be whole x h k)
    go (no k) = le-ltb j be (omega arith) ∙ sym (rows_done ks vs i ae j be whole x h (omega arith))

-- ---- `conflicts_with` is symmetric

eqb_swap : (a b : ℕ) → eqb a b ≡ eqb b a
eqb_swap a b = go (ℕ_discrete a b)
  where
    go : Dec (a ≡ b) → eqb a b ≡ eqb b a
    go (yes e) = eq-eqb a b e ∙ sym (eq-eqb b a (sym e))
    go (no d) = ne_eqb a b d ∙ sym (ne_eqb b a (λ e. d (sym e)))

or_swap : (a b : Bool) → (a || b) ≡ (b || a)
or_swap true true = refl
or_swap true false = refl
or_swap false true = refl
or_swap false false = refl

mutual
  unfolding same

  same_swap : (t u : Term) → same t u ≡ same u t
  same_swap (var v) (var w) = eqb_swap v w
  same_swap (var v) (node j qs) = refl
  same_swap (node k ps) (var w) = refl
  same_swap (node k ps) (node j qs) = rw (eqb_swap k j, rows_swap ps qs)

  rows_swap : (ps qs : Parts) → same_rows ps qs ≡ same_rows qs ps
  rows_swap end end = refl
  rows_swap end (num m qs) = refl
  rows_swap end (sub u qs) = refl
  rows_swap (num n ps) end = refl
  rows_swap (num n ps) (num m qs) = rw (eqb_swap n m, rows_swap ps qs)
  rows_swap (num n ps) (sub u qs) = refl
  rows_swap (sub t ps) end = refl
  rows_swap (sub t ps) (num m qs) = refl
  rows_swap (sub t ps) (sub u qs) = rw (same_swap t u, rows_swap ps qs)

-- of the tag that decides whether projections are compared, where the tags are the same
tag_swap : (k j : ℕ) (x y : Bool) → pick (eqb k j) (pick (eqb k 18) x y) true ≡ pick (eqb k j) (pick (eqb j 18) x y) true
tag_swap k j x y = go (ℕ_discrete k j)
  where
    go : Dec (k ≡ j) → pick (eqb k j) (pick (eqb k 18) x y) true ≡ pick (eqb k j) (pick (eqb j 18) x y) true
    go (yes e) = rw e
    go (no d) = rw (ne_eqb k j d)

mutual
  unfolding conflicts_with

  pub conflicts_swap : (t u : Term) → conflicts_with t u ≡ conflicts_with u t
  conflicts_swap (var v) (var w) = refl
  conflicts_swap (var v) (node j qs) = refl
  conflicts_swap (node k ps) (var w) = refl
  conflicts_swap (node k ps) (node j qs) =
      ap (λ (b : Bool). pick (recovery k || recovery j) false b) (tag_swap k j (not (same_rows ps qs)) (rows_conflict ps qs))
      ∙ rw (or_swap (recovery k) (recovery j), eqb_swap k j, rows_swap ps qs, rows_conflict_swap ps qs)

  rows_conflict_swap : (ps qs : Parts) → rows_conflict ps qs ≡ rows_conflict qs ps
  rows_conflict_swap end end = refl
  rows_conflict_swap end (num m qs) = refl
  rows_conflict_swap end (sub u qs) = refl
  rows_conflict_swap (num n ps) end = refl
  rows_conflict_swap (num n ps) (num m qs) = rw (eqb_swap n m, rows_conflict_swap ps qs)
  rows_conflict_swap (num n ps) (sub u qs) = refl
  rows_conflict_swap (sub t ps) end = refl
  rows_conflict_swap (sub t ps) (num m qs) = refl
  rows_conflict_swap (sub t ps) (sub u qs) = rw (conflicts_swap t u, rows_conflict_swap ps qs)

-- Two rows walked in step: what is left of both tells whether their shapes agree.
use mathlib.Core.Bool.{Bool, true, false, not, ◌&&◌, ◌||◌}
use mathlib.Core.List.{List, ◌∷◌}
use mathlib.Core.Path.{◌≡◌, refl, sym, ap, ap₂, ◌∙◌}
use Prim.Native.Nat.{ℕ, suc, ◌+◌, ◌≤◌, ◌<◌}
use native.Mathlib.Decide.{ℕ_discrete}
use native.Mathlib.Omega.{arith}
use borrow.Author.Tests.{eq-eqb, ne_eqb, eqb-true}
use lib.Dec.{eqb}
use lib.ListN.{length, get_or}
use Rattle.terms.specs.Result.{pick}
use Rattle.terms.specs.Term.{Term, Parts, node, end, num, sub, items, Held}
use Rattle.terms.specs.declared.Part.{Part}
use Rattle.terms.specs.Words.Held.{HeldParts, span}
use Rattle.terms.specs.Words.PairsContract.{NumberFirst, TermFirst, Unlike, no_left, no_right, number_term, term_number}
use Rattle.terms.specs.Tree.{nums, subs, same, same_rows}
use Rattle.terms.proofs.Laws.General.Bools.{never_true, never_false}
use Rattle.terms.proofs.Laws.Held.HeldLaws.{head_kind, span_is, items_some, held_first, held_node, row_end, row_num, row_sub, end_ends}
use Rattle.terms.proofs.Laws.Held.PairLaws.{first_number, row_term}
use Rattle.solver.specs.Shapes.{Notion, loose, exact, blank_row, blank, unmarked, read, same_shape}
use Rattle.solver.specs.Shapes.{notion}
use Rattle.solver.specs.Words.PendingContract.{agree, PartEnd}
use Rattle.solver.proofs.Laws.Resolving.AskLaws.{two_up}

-- the shapes of two rows agree; where it is free, a number that begins the row does not count
unfoldable pub like_rows : Bool → Parts → Parts → Bool
like_rows f ps qs = same_rows (pick f (unmarked (blank_row ps)) (blank_row ps)) (pick f (unmarked (blank_row qs)) (blank_row qs))

pub like_end : (f : Bool) → like_rows f end end ≡ true
unfolding like_rows blank_row unmarked same
like_end true = refl
like_end false = refl

like_num : (f : Bool) (n m : ℕ) (ps qs : Parts) → like_rows f (num n ps) (num m qs) ≡ ((f || eqb n m) && like_rows false ps qs)
unfolding like_rows blank_row unmarked same
like_num true n m ps qs = refl
like_num false n m ps qs = refl

pub like_sub : (f : Bool) (t u : Term) (ps qs : Parts) → like_rows f (sub t ps) (sub u qs) ≡ like_rows false ps qs
unfolding like_rows blank_row unmarked same
like_sub true t u ps qs = refl
like_sub false t u ps qs = refl

like_num_sub : (f : Bool) (n : ℕ) (u : Term) (ps qs : Parts) → like_rows f (num n ps) (sub u qs) ≡ false
unfolding like_rows blank_row unmarked same
like_num_sub true n u ps qs = refl
like_num_sub false n u ps qs = refl

like_sub_num : (f : Bool) (t : Term) (m : ℕ) (ps qs : Parts) → like_rows f (sub t ps) (num m qs) ≡ false
unfolding like_rows blank_row unmarked same
like_sub_num true t m ps qs = refl
like_sub_num false t m ps qs = refl

pub like_long : (f : Bool) (ps : Parts) → (ps ≡ end → ⊥) → like_rows f ps end ≡ false
unfolding like_rows blank_row unmarked same
like_long f end h = absurd (h refl)
like_long true (num n ps) h = refl
like_long false (num n ps) h = refl
like_long true (sub t ps) h = refl
like_long false (sub t ps) h = refl

pub like_short : (f : Bool) (qs : Parts) → (qs ≡ end → ⊥) → like_rows f end qs ≡ false
unfolding like_rows blank_row unmarked same
like_short f end h = absurd (h refl)
like_short true (num n qs) h = refl
like_short false (num n qs) h = refl
like_short true (sub t qs) h = refl
like_short false (sub t qs) h = refl

-- a row that agrees with none is none
pub like_over : (f : Bool) (qs : Parts) → like_rows f end qs ≡ true → qs ≡ end
like_over f end h = refl
like_over f (num m qs) h = never_false (sym h ∙ like_short f (num m qs) (λ e. let z : ◌≡◌ {A = ℕ} 0 1 = cc in omega arith))
like_over f (sub u qs) h = never_false (sym h ∙ like_short f (sub u qs) (λ e. let z : ◌≡◌ {A = ℕ} 0 1 = cc in omega arith))

-- ---- of nodes

and_split : (a b : Bool) → (a && b) ≡ true → (a ≡ true) × (b ≡ true)
and_split true true h = (refl, refl)
and_split true false h = never_true h
and_split false b h = never_true h

pub shape_node : (n : Notion) (k : ℕ) (ps qs : Parts) → same_shape n (node k ps) (node k qs) ≡ like_rows (n k) ps qs
unfolding same_shape read blank like_rows same
shape_node n k ps qs = rw (eq-eqb k k refl)

pub shape_other : (n : Notion) (k j : ℕ) (ps qs : Parts) → (k ≡ j → ⊥) → same_shape n (node k ps) (node j qs) ≡ false
unfolding same_shape read blank same
shape_other n k j ps qs h = rw (ne_eqb k j h)

-- nodes of one shape have one tag, and rows that agree
pub shape_like : (n : Notion) (k j : ℕ) (ps qs : Parts) → same_shape n (node k ps) (node j qs) ≡ true → (k ≡ j) × (like_rows (n k) ps qs ≡ true)
shape_like n k j ps qs h = go (ℕ_discrete k j)
  where
    go : Dec (k ≡ j) → (k ≡ j) × (like_rows (n k) ps qs ≡ true)
    go (yes e) = (e, sym (shape_node n k ps qs) ∙ ap (λ (x : ℕ). same_shape n (node k ps) (node x qs)) e ∙ h)
    go (no e) = never_false (sym h ∙ shape_other n k j ps qs e)

pub like_num_rest : (f : Bool) (n m : ℕ) (ps qs : Parts) → like_rows f (num n ps) (num m qs) ≡ true → like_rows false ps qs ≡ true
like_num_rest f n m ps qs h = (and_split (f || eqb n m) (like_rows false ps qs) (sym (like_num f n m ps qs) ∙ h)).1

-- rows that agree have as many terms; and the same numbers, but for the first
pub like_subs : (f : Bool) (ps qs : Parts) → like_rows f ps qs ≡ true → length (subs ps) ≡ length (subs qs)
unfolding subs
like_subs f end end h = refl
like_subs f end (num m qs) h = never_false (sym h ∙ like_short f (num m qs) (λ e. let z : ◌≡◌ {A = ℕ} 0 1 = cc in omega arith))
like_subs f end (sub u qs) h = never_false (sym h ∙ like_short f (sub u qs) (λ e. let z : ◌≡◌ {A = ℕ} 0 1 = cc in omega arith))
like_subs f (num n ps) end h = never_false (sym h ∙ like_long f (num n ps) (λ e. let z : ◌≡◌ {A = ℕ} 0 1 = cc in omega arith))
like_subs f (num n ps) (num m qs) h = like_subs false ps qs (and_split (f || eqb n m) (like_rows false ps qs) (sym (like_num f n m ps qs) ∙ h)).1
like_subs f (num n ps) (sub u qs) h = never_false (sym h ∙ like_num_sub f n u ps qs)
like_subs f (sub t ps) end h = never_false (sym h ∙ like_long f (sub t ps) (λ e. let z : ◌≡◌ {A = ℕ} 0 1 = cc in omega arith))
like_subs f (sub t ps) (num m qs) h = never_false (sym h ∙ like_sub_num f t m ps qs)
like_subs f (sub t ps) (sub u qs) h = ap suc (like_subs false ps qs (sym (like_sub f t u ps qs) ∙ h))

like_nums : (ps qs : Parts) → like_rows false ps qs ≡ true → nums ps ≡ nums qs
unfolding nums
like_nums end end h = refl
like_nums end (num m qs) h = never_false (sym h ∙ like_short false (num m qs) (λ e. let z : ◌≡◌ {A = ℕ} 0 1 = cc in omega arith))
like_nums end (sub u qs) h = never_false (sym h ∙ like_short false (sub u qs) (λ e. let z : ◌≡◌ {A = ℕ} 0 1 = cc in omega arith))
like_nums (num n ps) end h = never_false (sym h ∙ like_long false (num n ps) (λ e. let z : ◌≡◌ {A = ℕ} 0 1 = cc in omega arith))
like_nums (num n ps) (num m qs) h =
    let s = and_split (eqb n m) (like_rows false ps qs) (sym (like_num false n m ps qs) ∙ h) in
    ap₂ ◌∷◌ (eqb-true n m s.0) (like_nums ps qs s.1)
like_nums (num n ps) (sub u qs) h = never_false (sym h ∙ like_num_sub false n u ps qs)
like_nums (sub t ps) end h = never_false (sym h ∙ like_long false (sub t ps) (λ e. let z : ◌≡◌ {A = ℕ} 0 1 = cc in omega arith))
like_nums (sub t ps) (num m qs) h = never_false (sym h ∙ like_sub_num false t m ps qs)
like_nums (sub t ps) (sub u qs) h = like_nums ps qs (sym (like_sub false t u ps qs) ∙ h)

pub like_second : (f : Bool) (ps qs : Parts) → like_rows f ps qs ≡ true → get_or (nums ps) 1 0 ≡ get_or (nums qs) 1 0
unfolding nums
like_second f end end h = refl
like_second f end (num m qs) h = never_false (sym h ∙ like_short f (num m qs) (λ e. let z : ◌≡◌ {A = ℕ} 0 1 = cc in omega arith))
like_second f end (sub u qs) h = never_false (sym h ∙ like_short f (sub u qs) (λ e. let z : ◌≡◌ {A = ℕ} 0 1 = cc in omega arith))
like_second f (num n ps) end h = never_false (sym h ∙ like_long f (num n ps) (λ e. let z : ◌≡◌ {A = ℕ} 0 1 = cc in omega arith))
like_second f (num n ps) (num m qs) h =
    ap (λ (l : List ℕ). get_or l 0 0) (like_nums ps qs (and_split (f || eqb n m) (like_rows false ps qs) (sym (like_num f n m ps qs) ∙ h)).1)
like_second f (num n ps) (sub u qs) h = never_false (sym h ∙ like_num_sub f n u ps qs)
like_second f (sub t ps) end h = never_false (sym h ∙ like_long f (sub t ps) (λ e. let z : ◌≡◌ {A = ℕ} 0 1 = cc in omega arith))
like_second f (sub t ps) (num m qs) h = never_false (sym h ∙ like_sub_num f t m ps qs)
like_second f (sub t ps) (sub u qs) h = ap (λ (l : List ℕ). get_or l 1 0) (like_nums ps qs (sym (like_sub f t u ps qs) ∙ h))

pub term_span : (ks vs : List ℕ) (p : ℕ) (t : Term) → Held ks vs p t → span (get_or ks p 0) (get_or vs p 0) ≡ length (items t)
term_span ks vs p t h = let f = held_first ks vs p t h in ap₂ span f.0 f.1 ∙ span_is t

-- where a node ends
pub node_end : (ks vs : List ℕ) (a r : ℕ) (t : Term) → PartEnd ks vs a (length ks) r → Held ks vs a t → r ≡ a + length (items t)
node_end ks vs a r t w h =
    let s = term_span ks vs a t h in
    w.is (omega (arith, items_some t)) (omega (arith, h.within)) ∙ ap (λ (x : ℕ). a + x) s

pub node_row : (ks vs : List ℕ) (a r k : ℕ) (ps : Parts) → PartEnd ks vs a (length ks) r → Held ks vs a (node k ps) → HeldParts ks vs (a + 1) r ps
node_row ks vs a r k ps w h = rw (node_end ks vs a r (node k ps) w h) (held_node ks vs a k ps h)

-- ---- two rows that go on with different things

goes_on : {ks vs : List ℕ} {i e : ℕ} {ps : Parts} → HeldParts ks vs i e ps → i < e → ps ≡ end → ⊥
goes_on {ks} {vs} {i} {e} h l z = omega (arith, end_ends ks vs i e (rw z at h))

pub unlike_rows : {ks vs : List ℕ} {a b : Part} (f : Bool) {ps qs : Parts} → HeldParts ks vs a.from a.end ps → HeldParts ks vs b.from b.end qs → Unlike ks a b
    → like_rows f ps qs ≡ false
unlike_rows {ks} {vs} {a} {b} f {ps} {qs} hp hq (no_left h k) =
    ap (λ (l : Parts). like_rows f l qs) (row_end ks vs a.from a.end ps hp h) ∙ like_short f qs (goes_on hq k)
unlike_rows {ks} {vs} {a} {b} f {ps} {qs} hp hq (no_right h k) = ap (like_rows f ps) (row_end ks vs b.from b.end qs hq k) ∙ like_long f ps (goes_on hp h)
unlike_rows {ks} {vs} {a} {b} f {ps} {qs} hp hq (number_term h k m n) =
    let p = row_num ks vs a.from a.end ps hp h m in
    let q = row_sub ks vs b.from b.end qs hq k n in
    ap₂ (like_rows f) p.2 q.2 ∙ like_num_sub f p.0 q.0 p.1 q.1
unlike_rows {ks} {vs} {a} {b} f {ps} {qs} hp hq (term_number h k m n) =
    let p = row_sub ks vs a.from a.end ps hp h m in
    let q = row_num ks vs b.from b.end qs hq k n in
    ap₂ (like_rows f) p.2 q.2 ∙ like_sub_num f p.0 q.0 p.1 q.1

-- ---- the walk of `same_shape`

-- what is left of two rows decides
pub record Walking (ks vs : List ℕ) (i ae j be : ℕ) (f₀ : Bool) (ps qs : Parts) (f : Bool) : Type 0 where
  pub left : Parts
  pub right : Parts
  pub held_left : HeldParts ks vs i ae left
  pub held_right : HeldParts ks vs j be right
  pub like : like_rows f₀ ps qs ≡ like_rows f left right

abbrev pub Walks : (ks vs : List ℕ) (a b : ℕ) (f₀ : Bool) (i ie j je : ℕ) (f : Bool) → Type 0
Walks ks vs a b f₀ i ie j je f = (k l : ℕ) (ps qs : Parts) → Held ks vs a (node k ps) → Held ks vs b (node l qs) → Walking ks vs i ie j je f₀ ps qs f

-- the answer for the rows
abbrev pub Tells : (ks vs : List ℕ) (a b : ℕ) (f₀ r : Bool) → Type 0
Tells ks vs a b f₀ r = (k l : ℕ) (ps qs : Parts) → Held ks vs a (node k ps) → Held ks vs b (node l qs) → r ≡ like_rows f₀ ps qs

pub walks_start : {ks vs : List ℕ} {a b : ℕ} {f : Bool} {ae be : ℕ} → PartEnd ks vs a (length ks) ae → PartEnd ks vs b (length ks) be
    → Walks ks vs a b f (a + 1) ae (b + 1) be f
walks_start {ks} {vs} {a} {b} {ae = ae} {be = be} ea eb k l ps qs ha hb =
    record { left = ps; right = qs; held_left = node_row ks vs a ae k ps ea ha; held_right = node_row ks vs b be l qs eb hb; like = refl }

module _ {ks vs : List ℕ} {a b : ℕ} {f₀ : Bool} {x y : Part} {f : Bool} (w : Walks ks vs a b f₀ x.from x.end y.from y.end f) where
  pub walks_over : x.end ≤ x.from → y.end ≤ y.from → Tells ks vs a b f₀ true
  walks_over g h l m ps qs hp hq =
      let z = w l m ps qs hp hq in
      sym (z.like ∙ ap₂ (like_rows f) (row_end ks vs x.from x.end z.left z.held_left g) (row_end ks vs y.from y.end z.right z.held_right h) ∙ like_end f)

  pub walks_unlike : Unlike ks x y → Tells ks vs a b f₀ false
  walks_unlike u l m ps qs hp hq = let z = w l m ps qs hp hq in sym (z.like ∙ unlike_rows f z.held_left z.held_right u)

  module _ {i j c d : ℕ} (g : NumberFirst ks x i c) (h : NumberFirst ks y j d) where
    free_or_same : (m n : ℕ) → get_or vs i 0 ≡ m → get_or vs j 0 ≡ n → agree f (get_or ks i 0) (get_or vs i 0) (get_or ks j 0) (get_or vs j 0) ≡ (f || eqb m n)
    unfolding agree
    free_or_same m n e o =
        let k : get_or ks i 0 ≡ 0 = ap (λ (z : ℕ). get_or ks z 0) g.0 ∙ g.2 in
        let l : get_or ks j 0 ≡ 0 = ap (λ (z : ℕ). get_or ks z 0) h.0 ∙ h.2 in
        rw (k, l, e, o) refl

    module _ {r : Bool} (told : r ≡ agree f (get_or ks i 0) (get_or vs i 0) (get_or ks j 0) (get_or vs j 0)) where
      pub walks_differ : r ≡ false → Tells ks vs a b f₀ false
      walks_differ e l m ps qs hp hq =
          let z = w l m ps qs hp hq in
          let p = first_number z.held_left (omega arith) g in
          let q = first_number z.held_right (omega arith) h in
          sym (z.like ∙ ap₂ (like_rows f) p.is q.is ∙ like_num f p.value q.value p.rest q.rest ∙ ap (λ (b : Bool). b && like_rows false p.rest q.rest) (sym (free_or_same p.value q.value p.reads q.reads) ∙ sym told ∙ e))

      pub walks_number : r ≡ true → Walks ks vs a b f₀ c x.end d y.end false
      walks_number e l m ps qs hp hq =
          let z = w l m ps qs hp hq in
          let p = first_number z.held_left (omega arith) g in
          let q = first_number z.held_right (omega arith) h in
          record {
            left = p.rest;
            right = q.rest;
            held_left = p.behind;
            held_right = q.behind;
            like = z.like ∙ ap₂ (like_rows f) p.is q.is ∙ like_num f p.value q.value p.rest q.rest ∙ ap (λ (b : Bool). b && like_rows false p.rest q.rest) (sym (free_or_same p.value q.value p.reads q.reads) ∙ sym told ∙ e);
          }

  pub walks_terms : {s t : Part} {c d : ℕ} → TermFirst ks vs x s c → TermFirst ks vs y t d → Walks ks vs a b f₀ c x.end d y.end false
  walks_terms g h l m ps qs hp hq =
      let z = w l m ps qs hp hq in
      let p = row_term z.held_left g in
      let q = row_term z.held_right h in
      record {
        left = p.rest;
        right = q.rest;
        held_left = p.behind;
        held_right = q.behind;
        like = z.like ∙ ap₂ (like_rows f) p.is q.is ∙ like_sub f p.term q.term p.rest q.rest;
      }

-- ---- the answer for the nodes

free_is : (strict : Bool) (k kind : ℕ) → kind ≡ suc (suc k) → (not strict && (eqb kind 12 || eqb kind 13)) ≡ notion strict k
unfolding loose exact
free_is true k kind e = refl
free_is false k kind e = rw e (ap₂ ◌||◌ (two_up k 10) (two_up k 11))

pub node_kind : (ks vs : List ℕ) (a k : ℕ) (ps : Parts) → Held ks vs a (node k ps) → get_or ks a 0 ≡ suc (suc k)
unfolding head_kind
node_kind ks vs a k ps h = (held_first ks vs a (node k ps) h).0

abbrev pub Shaped : (ks vs : List ℕ) (a b : ℕ) (strict r : Bool) → Type 0
Shaped ks vs a b strict r = (k j : ℕ) (ps qs : Parts) → Held ks vs a (node k ps) → Held ks vs b (node j qs) → r ≡ same_shape (notion strict) (node k ps) (node j qs)

module _ {ks vs : List ℕ} {a b : ℕ} (strict : Bool) where
  pub heads_differ : (get_or ks a 0 ≡ get_or ks b 0 → ⊥) → Shaped ks vs a b strict false
  heads_differ h k j ps qs ha hb = sym (shape_other (notion strict) k j ps qs (λ e. h (node_kind ks vs a k ps ha ∙ ap (λ (x : ℕ). suc (suc x)) e ∙ sym (node_kind ks vs b j qs hb))))

  pub shape_told : get_or ks a 0 ≡ get_or ks b 0 → {f₀ : Bool} → f₀ ≡ (not strict && (eqb (get_or ks a 0) 12 || eqb (get_or ks a 0) 13)) → {r : Bool}
      → Tells ks vs a b f₀ r → Shaped ks vs a b strict r
  shape_told h {f₀} ef {r} t k j ps qs ha hb =
      let ek : k ≡ j = omega (arith, node_kind ks vs a k ps ha, node_kind ks vs b j qs hb) in
      let e : f₀ ≡ notion strict k = ef ∙ free_is strict k (get_or ks a 0) (node_kind ks vs a k ps ha) in
      t k j ps qs ha hb
      ∙ ap (λ (x : Bool). like_rows x ps qs) e ∙ sym (shape_node (notion strict) k ps qs) ∙ ap (λ (x : ℕ). same_shape (notion strict) (node k ps) (node x qs)) ek

-- ---- two parts by their tokens

module _ (f : Bool) (k v j w : ℕ) where
  pub agree_term : (k ≡ 0 → ⊥) → not (eqb j 0) ≡ agree f k v j w
  unfolding agree
  agree_term h = rw (ne_eqb k 0 h)

  module _ (h : k ≡ 0) where
    pub agree_mixed : (j ≡ 0 → ⊥) → false ≡ agree f k v j w
    unfolding agree
    agree_mixed g = rw (h, ne_eqb j 0 g)

    module _ (g : j ≡ 0) where
      pub agree_free : f ≡ true → true ≡ agree f k v j w
      unfolding agree
      agree_free e = rw (h, g, e)

      pub agree_number : f ≡ false → eqb v w ≡ agree f k v j w
      unfolding agree
      agree_number e = rw (h, g, e)

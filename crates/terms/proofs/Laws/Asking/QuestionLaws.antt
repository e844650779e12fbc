-- The questions on tokens.
use mathlib.Core.Path.{◌≡◌, refl, sym, ap, subst, ◌∙◌}
use mathlib.Core.Bool.{Bool, true, false, not, ◌&&◌, ◌||◌}
use mathlib.Core.Logic.{◌⊎◌, inl, inr}
use mathlib.Core.List.{List, [], ◌∷◌}
use Prim.Native.Nat.{ℕ, zero, suc, ◌+◌, ◌-◌, ◌≤◌, ◌<◌}
use native.Mathlib.Decide.{ℕ_discrete}
use native.Mathlib.Omega.{arith}
use borrow.Author.Tests.{eq-eqb, ne_eqb, lt-ltb}
use lib.Dec.{eqb}
use lib.ListN.{length, get_or}
use Rattle.terms.specs.Parser.{Result, got, refused, bind}
use Rattle.terms.specs.Term.{Term, Parts, var, node, end, num, sub, ◌+++◌, items, Subs}
use Rattle.terms.specs.Words.Held.{Held, HeldParts, span}
use Rattle.terms.specs.Shape as shape
use Rattle.terms.specs.Shape.{Shape, layout}
use Rattle.terms.specs.Formed.{Formed, Fit, TakesNumber, TakesTerm, after_number, after_term}
use Rattle.terms.specs.Tree.{nums, row, tag}
use Rattle.terms.specs.Questions.{Parameter, contains, is_empty, first, second, among, counted_by, counted, entered_by, meets, meets_row, is_concrete, is_resolved_in, Question, number_of_question}
use Rattle.terms.specs.declared.Question.TheVariants.{IsNever, IsInteger, IsConcrete, IsUnresolved, ContainsUnknown, ContainsSelfType, ContainsProjection, IsResolvedIn}
use Rattle.terms.specs.Parameters.{parameter, parameters, index_in, is_found}
use Rattle.terms.specs.Words.QuestionsContract.{tag_of, word, Asking}
use Rattle.terms.proofs.Laws.General.Bools.{or-true, or_right, or-none, or_assoc, or-false}
use Rattle.terms.proofs.Laws.Held.HeldLaws.{held_first, head_kind, held_num, held_sub, row_num, row_sub, row_end}
use Rattle.terms.proofs.Laws.Held.FlatLaws.{held_enter, held_whole}
use Rattle.terms.proofs.Laws.Format.ShapeLaws.{More, some_done}
use Rattle.terms.proofs.Laws.Format.ParameterLaws.{found_contains}
use Rattle.terms.proofs.Laws.Asking.ConflictLaws.{passed}
use Rattle.std.specs.Prelude.{Option, Some, None, is_some}

-- ---- tags

pub tag_kind : (t : Term) → tag_of (head_kind t) ≡ tag t
unfolding tag_of head_kind tag
tag_kind (var v) = refl
tag_kind (node k ps) = refl

pub tag_few : (k : ℕ) → k < 2 → k ≡ tag_of k
unfolding tag_of
tag_few zero h = refl
tag_few (suc zero) h = refl
tag_few (suc (suc k)) h = absurd (omega arith)

pub tag_node : (k : ℕ) → 2 ≤ k → k - 2 ≡ tag_of k
unfolding tag_of
tag_node zero h = absurd (omega arith)
tag_node (suc zero) h = absurd (omega arith)
tag_node (suc (suc k)) h = omega arith

-- ---- which terms count

-- a number is none of a list's, or is one of them
abbrev pub Apart : ℕ → List ℕ → Type 0
Apart n [] = Unit
Apart n (m ∷ ms) = (n ≡ m → ⊥) × Apart n ms

abbrev pub Among : ℕ → List ℕ → Type 0
Among n [] = ⊥
Among n (m ∷ ms) = (n ≡ m) ⊎ Among n ms

pub among_out : (n : ℕ) (ms : List ℕ) → (Among n ms → ⊥) → among n ms ≡ false
unfolding among
among_out n [] h = refl
among_out n (m ∷ ms) h = rw (ne_eqb n m (λ e. h (inl e))) (among_out n ms (λ a. h (inr a)))

pub among_in : (n : ℕ) (ms : List ℕ) → (Apart n ms → ⊥) → among n ms ≡ true
unfolding among
among_in n [] h = absurd (h tt)
among_in n (m ∷ ms) h = go (ℕ_discrete n m) (λ d. among_in n ms (λ a. h (d, a)))
  where
    go : Dec (n ≡ m) → ((n ≡ m → ⊥) → among n ms ≡ true) → (eqb n m || among n ms) ≡ true
    go (yes e) f = rw (eq-eqb n m e)
    go (no d) f = or_right (eqb n m) (among n ms) (f d)

module _ (ps : List Parameter) (k a b : ℕ) where
  pub failing : among k (1 ∷ 2 ∷ 3 ∷ 19 ∷ []) ≡ true → true ≡ counted_by ps 7 k a b
  unfolding counted_by
  failing h = rw h

  pub projected : k ≡ 18 → counted_by ps 7 k a b ≡ is_empty ps
  unfolding counted_by among
  projected e = rw e

  pub binder : k ≡ 17 → counted_by ps 7 k a b ≡ not (contains ps (record { owner = a; position = b }))
  unfolding counted_by among
  binder e = rw e (or-none (not (contains ps (record { owner = a; position = b }))))

  pub known : among k (1 ∷ 2 ∷ 3 ∷ 19 ∷ []) ≡ false → (k ≡ 18 → ⊥) → (k ≡ 17 → ⊥) → false ≡ counted_by ps 7 k a b
  unfolding counted_by
  known h e f = rw (h, ne_eqb k 18 e, ne_eqb k 17 f)

-- ---- parameters

-- there are as many as were counted
pub no_parameters : (s : List ℕ) (count at : ℕ) (ps : List Parameter) (n : ℕ) → parameters s count at ≡ got ps n → eqb count 0 ≡ is_empty ps
unfolding parameters
no_parameters s zero at ps n e = go at ps n e
  where
    go : (at : ℕ) (ps : List Parameter) (n : ℕ) → ◌≡◌ {A = Result (List Parameter)} (got [] at) (got ps n) → true ≡ is_empty ps
    go at [] n e = refl
    go at (p ∷ ps) n e = let z : ◌≡◌ {A = ℕ} 0 1 = cc in absurd (omega arith)
no_parameters s (suc c) at ps n e = ne_eqb (suc c) 0 (λ z. omega arith) ∙ go (parameter s at) ps n e
  where
    never : (c : ℕ) (ps : List Parameter) (n : ℕ) → ◌≡◌ {A = Result (List Parameter)} (refused c) (got ps n) → false ≡ is_empty ps
    never c ps n e = let z : ◌≡◌ {A = ℕ} 0 1 = cc in absurd (omega arith)

    some : (p : Parameter) (qs : List Parameter) (m : ℕ) (ps : List Parameter) (n : ℕ) → ◌≡◌ {A = Result (List Parameter)} (got (p ∷ qs) m) (got ps n) → false ≡ is_empty ps
    some p qs m [] n e = let z : ◌≡◌ {A = ℕ} 0 1 = cc in absurd (omega arith)
    some p qs m (q ∷ ps) n e = refl

    inner : (p : Parameter) (r : Result (List Parameter)) (ps : List Parameter) (n : ℕ) → bind r (λ qs m. got (p ∷ qs) m) ≡ got ps n → false ≡ is_empty ps
    inner p (got qs m) ps n e = some p qs m ps n e
    inner p (refused c) ps n e = never c ps n e

    go : (r : Result Parameter) (ps : List Parameter) (n : ℕ) → bind r (λ p m. bind (parameters s c m) (λ qs o. got (p ∷ qs) o)) ≡ got ps n → false ≡ is_empty ps
    go (got p m) ps n e = inner p (parameters s c m) ps n e
    go (refused c) ps n e = never c ps n e

-- what the search tells
pub found_there : (found : Result (List Parameter)) (ps : List Parameter) (n i : ℕ) (p : Parameter) → found ≡ got ps n → Some i ≡ index_in found p → contains ps p ≡ true
found_there found ps n i p e h = sym (found_contains ps p) ∙ ap is_found (sym (h ∙ ap (λ (r : Result (List Parameter)). index_in r p) e))

pub found_nowhere : (found : Result (List Parameter)) (ps : List Parameter) (n : ℕ) (p : Parameter) → found ≡ got ps n → None ≡ index_in found p → contains ps p ≡ false
found_nowhere found ps n p e h = sym (found_contains ps p) ∙ ap is_found (sym (h ∙ ap (λ (r : Result (List Parameter)). index_in r p) e))

-- what `is_none` says of it
pub absent : (found : Result (List Parameter)) (ps : List Parameter) (n : ℕ) (p : Parameter) → found ≡ got ps n
    → (o : Option ℕ) → o ≡ index_in found p → (b : Bool) → is_some o ≡ not b → b ≡ not (contains ps p)
absent found ps n p e (Some i) h true k = absurd (cc)
absent found ps n p e (Some i) h false k = sym (ap not (found_there found ps n i p e h))
absent found ps n p e None h true k = sym (ap not (found_nowhere found ps n p e h))
absent found ps n p e None h false k = absurd (cc)

-- ---- entering

pub entered_most : (q k : ℕ) → 2 ≤ q → (q ≡ 4 → ⊥) → true ≡ entered_by q k
unfolding entered_by
entered_most zero k h d = absurd (omega arith)
entered_most (suc zero) k h d = absurd (omega arith)
entered_most (suc (suc zero)) k h d = refl
entered_most (suc (suc (suc zero))) k h d = refl
entered_most (suc (suc (suc (suc zero)))) k h d = absurd (d refl)
entered_most (suc (suc (suc (suc (suc q))))) k h d = refl

-- the same of a question
pub entered_question : (q : Question) (k : ℕ) → (q ≡ IsNever → ⊥) → (q ≡ IsInteger → ⊥) → (q ≡ ContainsUnknown → ⊥) → true ≡ entered_by (number_of_question q) k
unfolding entered_by
entered_question IsNever k a b d = absurd (a refl)
entered_question IsInteger k a b d = absurd (b refl)
entered_question IsConcrete k a b d = refl
entered_question IsUnresolved k a b d = refl
entered_question ContainsUnknown k a b d = absurd (d refl)
entered_question ContainsSelfType k a b d = refl
entered_question ContainsProjection k a b d = refl
entered_question IsResolvedIn k a b d = refl

-- ---- the numbers after a head

pub number_inside : (ks vs : List ℕ) (i e n : ℕ) (ps : Parts) → HeldParts ks vs i e (num n ps) → i < e
unfolding items
number_inside ks vs i e n ps h = omega (arith, h.ends)

-- only a Builtin and a Generic are asked for their numbers
blind : (ps : List Parameter) (q k a b c d : ℕ) → (k ≡ 4 → ⊥) → (k ≡ 17 → ⊥) → counted_by ps q k a b ≡ counted_by ps q k c d
unfolding counted_by
blind ps zero k a b c d x y = rw (ne_eqb k 4 x)
blind ps (suc zero) k a b c d x y = rw (ne_eqb k 4 x)
blind ps (suc (suc zero)) k a b c d x y = refl
blind ps (suc (suc (suc zero))) k a b c d x y = refl
blind ps (suc (suc (suc (suc zero)))) k a b c d x y = refl
blind ps (suc (suc (suc (suc (suc zero))))) k a b c d x y = refl
blind ps (suc (suc (suc (suc (suc (suc zero)))))) k a b c d x y = refl
blind ps (suc (suc (suc (suc (suc (suc (suc q))))))) k a b c d x y = rw (ne_eqb k 17 y)

-- a Builtin is asked for one
blind_second : (ps : List Parameter) (q k a b d : ℕ) → k ≡ 4 → counted_by ps q k a b ≡ counted_by ps q k a d
unfolding counted_by
blind_second ps zero k a b d e = refl
blind_second ps (suc zero) k a b d e = refl
blind_second ps (suc (suc zero)) k a b d e = refl
blind_second ps (suc (suc (suc zero))) k a b d e = refl
blind_second ps (suc (suc (suc (suc zero)))) k a b d e = refl
blind_second ps (suc (suc (suc (suc (suc zero))))) k a b d e = refl
blind_second ps (suc (suc (suc (suc (suc (suc zero)))))) k a b d e = refl
blind_second ps (suc (suc (suc (suc (suc (suc (suc q))))))) k a b d e = rw e

pub word_in : (vs : List ℕ) (i e : ℕ) → i < e → word vs i e ≡ get_or vs i 0
word_in vs i e h = rw (lt-ltb i e h)

-- the row of a Builtin is its code, that of a Generic its owner and its position
pub builtin_row : (ps : Parts) → Fit (layout 4) ps → (c : ℕ) × (ps ≡ num c end)
unfolding Fit TakesTerm TakesNumber after_number More
builtin_row end f = absurd (some_done (shape.code 32 shape.done) tt f)
builtin_row (num c end) f = (c, refl)
builtin_row (num c (num n ps)) f = absurd f.1.0
builtin_row (num c (sub t ps)) f = absurd f.1.0
builtin_row (sub t ps) f = absurd f.0

generic_row : (ps : Parts) → Fit (layout 17) ps → (o : ℕ) × (q : ℕ) × (ps ≡ num o (num q end))
unfolding Fit TakesTerm TakesNumber after_number More
generic_row end f = absurd (some_done (shape.number shape.definition (shape.number shape.ordinary shape.done)) tt f)
generic_row (num o end) f = absurd (some_done (shape.number shape.ordinary shape.done) tt f.1)
generic_row (num o (num q end)) f = (o, q, refl)
generic_row (num o (num q (num n ps))) f = absurd f.1.1.0
generic_row (num o (num q (sub t ps))) f = absurd f.1.1.0
generic_row (num o (sub t ps)) f = absurd f.1.0
generic_row (sub t ps) f = absurd f.0

module _ (ks vs : List ℕ) (p e : ℕ) (rest : Parts) where
  -- the first number after a head whose row begins with one
  number_behind : (k n : ℕ) (ps : Parts) → HeldParts ks vs p e (sub (node k (num n ps)) rest) → (word vs (p + 1) e ≡ n) × HeldParts ks vs (p + 2) e (ps +++ rest)
  unfolding items
  number_behind k n ps h =
      let r = held_enter ks vs p e k (num n ps) rest h in
      let s = held_num ks vs (p + 1) e n (ps +++ rest) r in
      let two : p + 1 + 1 ≡ p + 2 = omega arith in
      (word_in vs (p + 1) e (number_inside ks vs (p + 1) e n (ps +++ rest) r) ∙ s.1, subst (λ (i : ℕ). HeldParts ks vs i e (ps +++ rest)) two s.2)

  -- what the two words after a head say of a term, as far as the question asks
  pub told_counts : (qs : List Parameter) (q : ℕ) (t : Term) → Formed t → HeldParts ks vs p e (sub t rest)
      → counted_by qs q (tag t) (word vs (p + 1) e) (word vs (p + 2) e) ≡ counted qs q t
  unfolding Formed tag first second nums row
  told_counts qs q (var v) f h = blind qs q 1 _ _ _ _ (λ e. omega arith) (λ e. omega arith)
  told_counts qs q (node k ps) f h = go (ℕ_discrete k 4) (ℕ_discrete k 17)
    where
      go : Dec (k ≡ 4) → Dec (k ≡ 17) → counted_by qs q k (word vs (p + 1) e) (word vs (p + 2) e) ≡ counted_by qs q k (get_or (nums ps) 0 0) (get_or (nums ps) 1 0)
      go (yes x) y =
          let r = builtin_row ps (subst (λ (j : ℕ). Fit (layout j) ps) x f.1) in
          let s = number_behind k r.0 end (subst (λ (z : Parts). HeldParts ks vs p e (sub (node k z) rest)) r.1 h) in
          ap (λ (a : ℕ). counted_by qs q k a (word vs (p + 2) e)) s.0
          ∙ blind_second qs q k r.0 (word vs (p + 2) e) (get_or (nums ps) 1 0) x
          ∙ ap (λ (z : Parts). counted_by qs q k (get_or (nums z) 0 0) (get_or (nums ps) 1 0)) (sym r.1)
      go (no x) (yes y) =
          let r = generic_row ps (subst (λ (j : ℕ). Fit (layout j) ps) y f.1) in
          let s = number_behind k r.0 (num r.1 end) (subst (λ (z : Parts). HeldParts ks vs p e (sub (node k z) rest)) r.2 h) in
          let u = held_num ks vs (p + 2) e r.1 (end +++ rest) s.1 in
          let w : word vs (p + 2) e ≡ r.1 = word_in vs (p + 2) e (number_inside ks vs (p + 2) e r.1 (end +++ rest) s.1) ∙ u.1 in
          ap (λ (a : ℕ). counted_by qs q k a (word vs (p + 2) e)) s.0 ∙ ap (λ (b : ℕ). counted_by qs q k r.0 b) w
          ∙ ap (λ (z : Parts). counted_by qs q k (get_or (nums z) 0 0) (get_or (nums z) 1 0)) (sym r.2)
      go (no x) (no y) = blind qs q k _ _ _ _ x y

-- ---- the steps of the walk

module _ (C E : Term → Bool) where
  meets_append : (ps qs : Parts) → meets_row C E (ps +++ qs) ≡ (meets_row C E ps || meets_row C E qs)
  unfolding meets
  meets_append end qs = refl
  meets_append (num n ps) qs = meets_append ps qs
  meets_append (sub t ps) qs = ap (λ (b : Bool). meets C E t || b) (meets_append ps qs) ∙ sym (or_assoc (meets C E t) (meets_row C E ps) (meets_row C E qs))

  meets_counts : (t : Term) → C t ≡ true → meets C E t ≡ true
  unfolding meets
  meets_counts (var v) c = c
  meets_counts (node k ps) c = or-true (C (node k ps)) (E (node k ps) && meets_row C E ps) c

  meets_passed : (t : Term) → C t ≡ false → E t ≡ false → meets C E t ≡ false
  unfolding meets
  meets_passed (var v) c m = c
  meets_passed (node k ps) c m = rw (c, m)

  -- the terms of a row that fits are formed
  subs_append : (ps qs : Parts) (r : Shape) → Fit r ps → Subs Formed qs → Subs Formed (ps +++ qs)
  unfolding Fit Subs
  subs_append end qs r f s = s
  subs_append (num n ps) qs r f s = subs_append ps qs (after_number r n) f.1 s
  subs_append (sub t ps) qs r f s = (f.1, subs_append ps qs (after_term r) f.2 s)

module _ {ks vs : List ℕ} {p e : ℕ} {C E : Term → Bool} {whole : Bool} (x : Asking ks vs p e C E whole) where
  pub ask_number : p < e → get_or ks p 0 ≡ 0 → Asking ks vs (p + 1) e C E whole
  unfolding meets Subs
  ask_number h k =
      let a = row_num ks vs p e x.row x.held h k in
      record {
        row = a.1;
        held = a.4;
        formed = subst (λ (y : Parts). Subs Formed y) a.2 x.formed;
        same = x.same ∙ ap (λ (y : Parts). meets_row C E y) a.2;
      }

  pub ask_end : e ≤ p → false ≡ whole
  unfolding meets
  ask_end h = sym (x.same ∙ ap (λ (y : Parts). meets_row C E y) (row_end ks vs p e x.row x.held h))

-- a term comes next
pub record Term-next (ks vs : List ℕ) (p e : ℕ) (C E : Term → Bool) (whole : Bool) : Type 0 where
  pub term : Term
  pub rest : Parts
  pub held : HeldParts ks vs p e (sub term rest)
  pub here : Held ks vs p term
  pub formed : Formed term
  pub others : Subs Formed rest
  pub same : whole ≡ (meets C E term || meets_row C E rest)

module _ {ks vs : List ℕ} {p e : ℕ} {C E : Term → Bool} {whole : Bool} where
  enter : (t : Term) (rest : Parts) → HeldParts ks vs p e (sub t rest) → Formed t → Subs Formed rest → whole ≡ (meets C E t || meets_row C E rest)
      → C t ≡ false → E t ≡ true → Asking ks vs (p + 1) e C E whole
  unfolding meets Formed items
  enter (var v) rest h f s same c n = record {
    row = rest;
    held = (held_sub ks vs p e (var v) rest h).1;
    formed = s;
    same = same ∙ or-false (C (var v)) (meets_row C E rest) c;
  }
  enter (node k ps) rest h f s same c n = record {
    row = ps +++ rest;
    held = held_enter ks vs p e k ps rest h;
    formed = subs_append C E ps rest (layout k) f.1 s;
    same = same ∙ rw (c, n) (sym (meets_append C E ps rest));
  }

  pub ask_term : Asking ks vs p e C E whole → p < e → (get_or ks p 0 ≡ 0 → ⊥) → Term-next ks vs p e C E whole
  unfolding meets Subs
  ask_term x h k =
      let a = row_sub ks vs p e x.row x.held h k in
      let f = subst (λ (y : Parts). Subs Formed y) a.2 x.formed in
      record {
        term = a.0;
        rest = a.1;
        held = subst (λ (y : Parts). HeldParts ks vs p e y) a.2 x.held;
        here = a.3;
        formed = f.0;
        others = f.1;
        same = x.same ∙ ap (λ (y : Parts). meets_row C E y) a.2;
      }

  pub ask_counts : (x : Term-next ks vs p e C E whole) → C x.term ≡ true → true ≡ whole
  ask_counts x c = sym (x.same ∙ or-true (meets C E x.term) (meets_row C E x.rest) (meets_counts C E x.term c))

  -- it does not count, and its row is entered
  pub ask_enter : (x : Term-next ks vs p e C E whole) → C x.term ≡ false → E x.term ≡ true → Asking ks vs (p + 1) e C E whole
  ask_enter x c n = enter x.term x.rest x.held x.formed x.others x.same c n

  -- it does not count, and is passed over
  pub ask_pass : (x : Term-next ks vs p e C E whole) {n : ℕ} → C x.term ≡ false → E x.term ≡ false
      → (1 ≤ span (get_or ks p 0) (get_or vs p 0) → span (get_or ks p 0) (get_or vs p 0) ≤ e - p → n ≡ span (get_or ks p 0) (get_or vs p 0)) → Asking ks vs (p + n) e C E whole
  ask_pass x {n} c m s = record {
    row = x.rest;
    held = passed ks vs p e n x.term x.rest x.held s;
    formed = x.others;
    same = x.same ∙ or-false (meets C E x.term) (meets_row C E x.rest) (meets_passed C E x.term c m);
  }

  -- the tag that was told of its head
  pub head_tag : (x : Term-next ks vs p e C E whole) {k : ℕ} → k ≡ tag_of (get_or ks p 0) → k ≡ tag x.term
  head_tag x h = h ∙ ap tag_of (held_first ks vs p x.term x.here).0 ∙ tag_kind x.term

-- r says whether the term counts, by its tag and the two words after its head
pub counts_told : {ks vs : List ℕ} {p e : ℕ} (qs : List Parameter) (q : ℕ) {E : Term → Bool} {whole : Bool} (x : Term-next ks vs p e (counted qs q) E whole) {k a b : ℕ} {r : Bool}
    → k ≡ tag_of (get_or ks p 0) → a ≡ word vs (p + 1) e → b ≡ word vs (p + 2) e → r ≡ counted_by qs q k a b → counted qs q x.term ≡ r
counts_told {ks} {vs} {p} {e} qs q x h f g i = sym (told_counts ks vs p e x.rest qs q x.term x.formed x.held) ∙ rw (← head_tag x h, ← f, ← g) (sym i)

-- a term as a row
pub ask_one : (C E : Term → Bool) {ks vs : List ℕ} {i p e : ℕ} (t : Term) → Held ks vs p t → i ≡ p → e ≡ p + length (items t) → Formed t → Asking ks vs i e C E (meets C E t)
unfolding meets Subs
ask_one C E {ks} {vs} t h f g w = record { row = sub t end; held = held_whole ks vs t f g h; formed = (w, tt); same = sym (or-none (meets C E t)) }

-- ---- `is_concrete` is `is_resolved_in` of nothing

same_tags : (k a b : ℕ) → counted_by [] 2 k a b ≡ counted_by [] 7 k a b
unfolding counted_by among contains
same_tags k a b = go (eqb k 1) (eqb k 2) (eqb k 3) (eqb k 17) (eqb k 18) (eqb k 19)
  where
    go : (p q r x y z : Bool) → (p || (q || (r || (x || (y || (z || false)))))) ≡ ((p || (q || (r || (z || false)))) || (x && true || y && true))
    go true q r x y z = refl
    go false true r x y z = refl
    go false false true x y z = refl
    go false false false true true true = refl
    go false false false true true false = refl
    go false false false true false true = refl
    go false false false true false false = refl
    go false false false false true true = refl
    go false false false false true false = refl
    go false false false false false true = refl
    go false false false false false false = refl

module _ (C D E : Term → Bool) (same : (t : Term) → C t ≡ D t) where
  mutual
    unfolding meets

    meets_same : (t : Term) → meets C E t ≡ meets D E t
    meets_same (var v) = same (var v)
    meets_same (node k ps) = rw (same (node k ps), rows_same ps)

    rows_same : (ps : Parts) → meets_row C E ps ≡ meets_row D E ps
    rows_same end = refl
    rows_same (num n ps) = rows_same ps
    rows_same (sub t ps) = rw (meets_same t, rows_same ps)

pub concrete_resolved : (t : Term) → is_concrete t ≡ is_resolved_in [] t
unfolding entered_by
concrete_resolved t = ap not (meets_same (counted [] 2) (counted [] 7) (λ u. true) (λ u. same_tags (tag u) (first u) (second u)) t)

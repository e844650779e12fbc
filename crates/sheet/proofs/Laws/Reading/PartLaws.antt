-- One field: what is read and kept of it, and its spot.
use mathlib.Core.Path.{◌≡◌, refl, sym, ap, subst, ◌∙◌}
use mathlib.Core.List.{List}
use mathlib.Core.Logic.{◌⊎◌, inl, inr}
use Prim.Native.Nat.{ℕ, zero, suc, ◌+◌, ◌*◌, ◌≤◌, ◌<◌}
use native.Mathlib.Omega.{arith}
use borrow.Author.Tests.{lt-ltb, le-ltb}
use lib.ListN.{length, get_or}
use Rattle.std.specs.Prelude.{⊤, Ok, Err}
use Rattle.std.specs.declared.result.Result as rust
use Rattle.solver.specs.TermTypes as kinds
use Rattle.solver.specs.TermTypes.{PartKind, Place, Refusal, Step, Parameter, Rule}
use Rattle.solver.specs.Terms.Outcomes.{step_of}
use Rattle.solver.specs.Terms.ListsContract.{ListKept}
use Rattle.solver.specs.Terms.Parser.{Result, Parser, got, refused, bind, number}
use Rattle.solver.specs.Terms.Tokens.{Area}
use Rattle.solver.specs.Terms.Term.{Term, Parts, node, items, part_items, size, sizes}
use Rattle.solver.specs.Terms.Tree.{row}
use Rattle.solver.specs.Terms.Shape as shape
use Rattle.solver.specs.Terms.Shape.{ceiling}
use Rattle.solver.specs.Terms.Reading as reading
use Rattle.solver.specs.Terms.ReadContract.{Room, RoomAfter, answer, kept, contents}
use Rattle.solver.specs.Terms.ReaderContract.{part, nodes_of}
use Rattle.solver.specs.Terms.Substitution.{Entry, Receiver}
use Rattle.solver.specs.Terms.Parameters.{parameters, past}
use Rattle.solver.specs.Terms.Rows as rows
use Rattle.solver.specs.Terms.Rows.{entry_row, receiver_row, argument_row, answer_of, kept_of}
use Rattle.solver.proofs.Terms.NumberBoundLaws.{number_bounds}
use Rattle.solver.proofs.Terms.FieldLaws.{code_end, code_listed, code_unlisted}
use Rattle.sheet.specs.declared.FieldSpot.{FieldSpot}
use Rattle.sheet.specs.declared.Sort.{Sort}
use Rattle.sheet.specs.declared.Sort.TheVariants as sorts
use Rattle.sheet.specs.Fields as fields
use Rattle.sheet.specs.Fields.{Field, value, bounded, tree, bare, entered, received, named, listed, levels, nodes}
use Rattle.sheet.specs.Words.FieldLayout.{sort_of, plain_of, part_of, listing_of, moved, field_items, Free, Ample, PartDone, FieldDone, ReadOnly, value_field, list_field, FieldRead, Spotted, Unread}
use Rattle.sheet.specs.Words.FieldsContract.{NumberRead}
use Rattle.sheet.proofs.Laws.Reading.StoredLaws.{stored_none, stored_kept}
use Rattle.sheet.proofs.Laws.Reading.FieldLaws.{parts_of, same_value, parameters_found}

-- ---- how many

module _ (s : List ℕ) (t : Parser Term) where
  entries_many : (k at : ℕ) (es : List Entry) (n : ℕ) → rows.entries s t k at ≡ got es n → length es ≡ k
  unfolding rows.entries
  entries_many zero at es n e = rw (← (same_value e))
  entries_many (suc k) at es n e =
      let v = parts_of (number s (ceiling shape.definition) at) _ es n e in
      let w = parts_of (number s (ceiling shape.ordinary) v.1) _ es n v.3 in
      let u = parts_of (t w.1) _ es n w.3 in
      let r = parts_of (rows.entries s t k u.1) _ es n u.3 in
      rw (← (same_value r.3)) (ap suc (entries_many k u.1 r.0 r.1 r.2))

  receivers_many : (k at : ℕ) (rs : List Receiver) (n : ℕ) → rows.receivers s t k at ≡ got rs n → length rs ≡ k
  unfolding rows.receivers
  receivers_many zero at rs n e = rw (← (same_value e))
  receivers_many (suc k) at rs n e =
      let v = parts_of (number s (ceiling shape.definition) at) _ rs n e in
      let u = parts_of (t v.1) _ rs n v.3 in
      let r = parts_of (rows.receivers s t k u.1) _ rs n u.3 in
      rw (← (same_value r.3)) (ap suc (receivers_many k u.1 r.0 r.1 r.2))

  arguments_many : (k at : ℕ) (ts : List Term) (n : ℕ) → rows.arguments s t k at ≡ got ts n → length ts ≡ k
  unfolding rows.arguments
  arguments_many zero at ts n e = rw (← (same_value e))
  arguments_many (suc k) at ts n e =
      let u = parts_of (t at) _ ts n e in
      let r = parts_of (rows.arguments s t k u.1) _ ts n u.3 in
      rw (← (same_value r.3)) (ap suc (arguments_many k u.1 r.0 r.1 r.2))

-- ---- tokens that are kept

module _ (s : List ℕ) (ws : List Rule) (issued : ℕ) (p : Place) (d e : Area) (f : Free p.top d) (n : ℕ) (r : Step) (room : RoomAfter s r) where
  term_part : r ≡ answer p (reading.term s issued levels p.at) size → e ≡ kept s p (reading.term s issued levels p.at) size d
      → PartDone s ws n (part_of s issued sorts.Term n p.at) p d e r
  unfolding part_of fields.field field_items nodes
  term_part er ee = go (reading.term s issued levels p.at) er ee
    where
      go : (x : Result Term) → r ≡ answer p x size → e ≡ kept s p x size d → PartDone s ws n (bind x (λ t m. got (tree t) m)) p d e r
      go (got t m) er ee = let q = rw er at room in rw er (tree t, refl, stored_kept p _ d f e (items t) (size t) refl refl refl ee, q.inside, refl)
      go (refused c) er ee = rw er (refl, ee ∙ f _)

  nominal_part : r ≡ answer p (reading.bare s issued levels p.at) contents → e ≡ kept s p (reading.bare s issued levels p.at) contents d
      → PartDone s ws n (part_of s issued sorts.Nominal n p.at) p d e r
  unfolding part_of fields.field fields.nominal_field field_items nodes reading.bare row
  nominal_part er ee = go (reading.row s (reading.term s issued levels) (shape.nominal shape.done) p.at) er ee
    where
      go : (x : Result Parts) → r ≡ answer p (bind x (λ ps m. got (node 20 ps) m)) contents → e ≡ kept s p (bind x (λ ps m. got (node 20 ps) m)) contents d
          → PartDone s ws n (bind (bind (bind x (λ ps m. got (node 20 ps) m)) (λ t m. got (row t) m)) (λ ps m. got (bare ps) m)) p d e r
      go (got ps m) er ee = let q = rw er at room in rw er (bare ps, refl, stored_kept p _ d f e (items (node 20 ps)) (sizes ps) refl refl refl ee, q.inside, refl)
      go (refused c) er ee = rw er (refl, ee ∙ f _)

  -- a term or a nominal, as the reader was asked
  pub either_part : (a : Sort) (b : PartKind) → ((a ≡ sorts.Term) × (b ≡ kinds.Term)) ⊎ ((a ≡ sorts.Nominal) × (b ≡ kinds.BareNominal))
      → r ≡ answer p (part b s issued levels p.at) (nodes_of b) → e ≡ kept s p (part b s issued levels p.at) (nodes_of b) d → PartDone s ws n (part_of s issued a n p.at) p d e r
  either_part a b (inl x) er ee = rw x.0 (term_part (rw x.1 at er) (rw x.1 at ee))
  either_part a b (inr x) er ee = rw x.0 (nominal_part (rw x.1 at er) (rw x.1 at ee))

  entries_part : r ≡ answer_of entry_row p (rows.entries s (reading.term s issued levels) n p.at) → e ≡ kept_of entry_row s p (rows.entries s (reading.term s issued levels) n p.at) d
      → PartDone s ws n (part_of s issued sorts.Entries n p.at) p d e r
  unfolding part_of field_items nodes
  entries_part er ee = go (rows.entries s (reading.term s issued levels) n p.at) (entries_many s (reading.term s issued levels) n p.at) er ee
    where
      go : (x : Result (List Entry)) → ((es : List Entry) (m : ℕ) → x ≡ got es m → length es ≡ n) → r ≡ answer_of entry_row p x → e ≡ kept_of entry_row s p x d
          → PartDone s ws n (bind x (λ es m. got (entered es) m)) p d e r
      go (got es m) c er ee =
          let q = rw er at room in
          rw er (entered es, refl, stored_kept p _ d f e (part_items (entry_row es)) (sizes (entry_row es)) refl refl refl ee, q.inside, (sym (c es m refl), refl, refl))
      go (refused c) h er ee = rw er (refl, ee ∙ f _)

  receivers_part : r ≡ answer_of receiver_row p (rows.receivers s (reading.term s issued levels) n p.at) → e ≡ kept_of receiver_row s p (rows.receivers s (reading.term s issued levels) n p.at) d
      → PartDone s ws n (bind (rows.receivers s (reading.term s issued levels) n p.at) (λ rs m. got (received rs) m)) p d e r
  unfolding field_items nodes
  receivers_part er ee = go (rows.receivers s (reading.term s issued levels) n p.at) (receivers_many s (reading.term s issued levels) n p.at) er ee
    where
      go : (x : Result (List Receiver)) → ((rs : List Receiver) (m : ℕ) → x ≡ got rs m → length rs ≡ n) → r ≡ answer_of receiver_row p x → e ≡ kept_of receiver_row s p x d
          → PartDone s ws n (bind x (λ rs m. got (received rs) m)) p d e r
      go (got rs m) c er ee =
          let q = rw er at room in
          rw er (received rs, refl, stored_kept p _ d f e (part_items (receiver_row rs)) (sizes (receiver_row rs)) refl refl refl ee, q.inside, (sym (c rs m refl), refl, refl))
      go (refused c) h er ee = rw er (refl, ee ∙ f _)

  arguments_part : r ≡ answer_of argument_row p (rows.arguments s (reading.term s issued levels) n p.at) → e ≡ kept_of argument_row s p (rows.arguments s (reading.term s issued levels) n p.at) d
      → PartDone s ws n (part_of s issued sorts.Arguments n p.at) p d e r
  unfolding part_of field_items nodes
  arguments_part er ee = go (rows.arguments s (reading.term s issued levels) n p.at) (arguments_many s (reading.term s issued levels) n p.at) er ee
    where
      go : (x : Result (List Term)) → ((ts : List Term) (m : ℕ) → x ≡ got ts m → length ts ≡ n) → r ≡ answer_of argument_row p x → e ≡ kept_of argument_row s p x d
          → PartDone s ws n (bind x (λ ts m. got (listed ts) m)) p d e r
      go (got ts m) c er ee =
          let q = rw er at room in
          rw er (listed ts, refl, stored_kept p _ d f e (part_items (argument_row ts)) (sizes (argument_row ts)) refl refl refl ee, q.inside, (sym (c ts m refl), refl, refl))
      go (refused c) h er ee = rw er (refl, ee ∙ f _)

-- a list, told by its sort
module _ (s : List ℕ) (ws : List Rule) (issued : ℕ) (p : Place) (d e : Area) (f : Free p.top d) (n : ℕ) (r : Step) (room : RoomAfter s r) where
  pub list_part : (a : Sort) → (a ≡ sorts.Term → ⊥) → (a ≡ sorts.Nominal → ⊥) → ListKept (listing_of a) s issued levels n p d e r → PartDone s ws n (part_of s issued a n p.at) p d e r
  unfolding part_of
  list_part sorts.Term g h x = absurd (g refl)
  list_part sorts.Nominal g h x = absurd (h refl)
  list_part sorts.Entries g h x = entries_part s ws issued p d e f n r room x.says x.areas
  list_part sorts.Arguments g h x = arguments_part s ws issued p d e f n r room x.says x.areas
  list_part a g h x = receivers_part s ws issued p d e f n r room x.says x.areas

-- where something was read there is room after it
pub room_after : (s : List ℕ) (r : rust.Result ⊤ Refusal) (p : Place) → Room s p → RoomAfter s (step_of r p)
room_after s (Ok u) p h = h
room_after s (Err e) p h = tt

-- a list after its count
pub list_field_lem : (s : List ℕ) (ws : List Rule) (at : ℕ) (found whole : Result Field) (p : Place) (d e : Area) (r : FieldRead) → whole ≡ found → FieldDone s ws found (moved p at) d e r
    → FieldDone s ws whole p d e r
list_field_lem s ws at found whole p d e (Spotted z q) h (f, is, y, inside, laid) =
    (f, h ∙ is, record { whole = y.whole; only = y.only; free = y.free; limit = y.limit; tokens = y.tokens; counts = y.counts }, inside, laid)
list_field_lem s ws at found whole p d e (Unread c) h x = (h ∙ x.0, x.1)

-- ---- fields without tokens

module _ (s : List ℕ) (p : Place) (inside : p.at ≤ length s) where
  pub value_yes : (most v n : ℕ) (x : FieldSpot) → got v n ≡ number s most p.at → x.value ≡ v → ReadOnly s (value_field s most p.at) p (Spotted x (moved p n))
  unfolding field_items nodes
  value_yes most v n x e h ws d f =
      (value v, rw (← e), stored_none p (moved p n) d f refl refl refl, (number_bounds most s p.at v n inside (sym e)).inside, h)

  pub value_no : (most c : ℕ) → refused c ≡ number s most p.at → ReadOnly s (value_field s most p.at) p (Unread c)
  value_no most c e ws d f = (rw (← e), refl)

  pub code_none : length s ≤ p.at → ReadOnly s (fields.field s 0 fields.code p.at) p (Unread 1)
  unfolding fields.field
  code_none h ws d f = (rw (← (code_end s p.at 32 h)), refl)

  pub code_no : p.at < length s → 32 ≤ get_or s p.at 0 → ReadOnly s (fields.field s 0 fields.code p.at) p (Unread 2)
  unfolding fields.field
  code_no h k ws d f = (rw (← (code_unlisted s p.at 32 h k)), refl)

  pub code_yes : p.at < length s → get_or s p.at 0 < 32 → (x : FieldSpot) → x.value ≡ get_or s p.at 0 → ReadOnly s (fields.field s 0 fields.code p.at) p (Spotted x (moved p (p.at + 1)))
  unfolding fields.field field_items nodes
  code_yes h k x e ws d f =
      (value (get_or s p.at 0), rw (← (code_listed s p.at 32 h k)), stored_none p (moved p (p.at + 1)) d f refl refl refl, omega arith, e)

  pub bound_none : length s ≤ p.at → ReadOnly s (fields.field s 0 fields.bound p.at) p (Unread 1)
  unfolding fields.field
  bound_none h ws d f = (rw (le-ltb p.at (length s) h), refl)

  -- a sign, and then two numbers
  module _ (h : p.at < length s) where
    pub bound_high : (c : ℕ) → refused c ≡ number s (ceiling shape.ordinary) (p.at + 1) → ReadOnly s (fields.field s 0 fields.bound p.at) p (Unread c)
    unfolding fields.field
    bound_high c e ws d f = (rw (lt-ltb p.at (length s) h, ← e), refl)

    module _ (v m : ℕ) (e : got v m ≡ number s (ceiling shape.ordinary) (p.at + 1)) where
      pub bound_low : (c : ℕ) → refused c ≡ number s (ceiling shape.ordinary) m → ReadOnly s (fields.field s 0 fields.bound p.at) p (Unread c)
      unfolding fields.field
      bound_low c i ws d f = (rw (lt-ltb p.at (length s) h, ← e, ← i), refl)

      pub bound_yes : (w n : ℕ) (x : FieldSpot) → got w n ≡ number s (ceiling shape.ordinary) m → x.value ≡ v * 4294967296 + w → x.place ≡ get_or s p.at 0
          → ReadOnly s (fields.field s 0 fields.bound p.at) p (Spotted x (moved p n))
      unfolding fields.field field_items nodes
      bound_yes w n x i ev ep ws d f =
          let b = number_bounds (ceiling shape.ordinary) s (p.at + 1) v m (omega arith) (sym e) in (
            bounded (get_or s p.at 0) (v * 4294967296 + w),
            rw (lt-ltb p.at (length s) h, ← e, ← i),
            stored_none p (moved p n) d f refl refl refl,
            (number_bounds (ceiling shape.ordinary) s m w n b.inside (sym i)).inside,
            (ev, ep),
          )

  pub parameters_count : (c : ℕ) → refused c ≡ number s (ceiling shape.ordinary) p.at → ReadOnly s (fields.field s 0 fields.parameters p.at) p (Unread c)
  unfolding fields.field
  parameters_count c e ws d f = (rw (← e), refl)

  module _ (n m : ℕ) (e : got n m ≡ number s (ceiling shape.ordinary) p.at) where
    pub parameters_no : (c : ℕ) → refused c ≡ past n (parameters s n m) → ReadOnly s (fields.field s 0 fields.parameters p.at) p (Unread c)
    unfolding fields.field
    parameters_no c h ws d f = (rw (← e) (go (parameters s n m) h), refl)
      where
        go : (x : Result (List Parameter)) → refused c ≡ past n x → bind x (λ ps k. got (named ps) k) ≡ refused c
        go (got ps k) h = absurd (let z : ◌≡◌ {A = ℕ} 0 1 = cc in omega arith)
        go (refused b) h = let z : b ≡ c = cc in rw z

    pub parameters_yes : (count next : ℕ) (x : FieldSpot) → got count next ≡ past n (parameters s n m) → x.value ≡ n → x.place ≡ m
        → ReadOnly s (fields.field s 0 fields.parameters p.at) p (Spotted x (moved p next))
    unfolding fields.field field_items nodes
    parameters_yes count next x h ev ep ws d f = go (parameters s n m) refl h
      where
        go : (y : Result (List Parameter)) → parameters s n m ≡ y → got count next ≡ past n y → FieldDone s ws (fields.field s 0 fields.parameters p.at) p d d (Spotted x (moved p next))
        go (got ps k) w h =
            let z : k ≡ next = cc in
            let found = parameters_found s n m ps k w in
            let here : bind (parameters s n m) (λ ps j. got (named ps) j) ≡ got (named ps) next = rw w (rw z) in
            let there : parameters s x.value x.place ≡ got ps k = rw (ev, ep) w in (
              named ps,
              rw (← e) here,
              stored_none p (moved p next) d f refl refl refl,
              omega (arith, found.2 (number_bounds (ceiling shape.ordinary) s p.at n m inside (sym e)).inside),
              (ev ∙ sym found.0, (k, there)),
            )
        go (refused b) w h = absurd (let z : ◌≡◌ {A = ℕ} 0 1 = cc in omega arith)

-- ---- a number that was read, and the place after it

-- the position moved twice
pub moved_again : (p q : Place) → q ≡ moved p q.at → (n : ℕ) → moved q n ≡ moved p n
moved_again p q e n = ap (λ (z : Place). moved z n) e

pub moved_twice : (p q r : Place) (n : ℕ) → q ≡ moved (moved p n) q.at → r ≡ moved q r.at → r ≡ moved p r.at
moved_twice p q r n e f = f ∙ ap (λ (z : Place). moved z r.at) e

pub read_moved : (s : List ℕ) (found : Result Field) (p : Place) (x : FieldSpot) (n : ℕ) (z : Place) → z ≡ moved p n → ReadOnly s found p (Spotted x (moved p n)) → ReadOnly s found p (Spotted x z)
read_moved s found p x n z e h = subst (λ (w : Place). ReadOnly s found p (Spotted x w)) (sym e) h

pub ample_moved : (s : List ℕ) (p : Place) (n at : ℕ) → Ample s p → got n at ≡ number s (ceiling shape.ordinary) p.at → Ample s (moved p at)
ample_moved s p n at a e =
    let b = number_bounds (ceiling shape.ordinary) s p.at n at a.inside (sym e) in
    record { inside = b.inside; tokens = omega (arith, a.tokens, b.after); counts = omega (arith, a.counts, b.after) }

module _ (s : List ℕ) (p q : Place) (v : ℕ) (x : NumberRead s p (Ok v) q) where
  pub number_small : p.at ≤ length s → (v ≤ 4294967295) × (q.at ≤ length s)
  number_small inside = let b = number_bounds (ceiling shape.ordinary) s p.at v q.at inside (sym x.is) in (b.small, b.inside)

  pub ample_after : Ample s p → Ample s q
  ample_after a = subst (Ample s) (sym x.place) (ample_moved s p v q.at a x.is)

  pub list_after : (ws : List Rule) (issued : ℕ) (k : Sort) (d e : Area) (r : FieldRead) → FieldDone s ws (part_of s issued k v q.at) q d e r → FieldDone s ws (list_field s issued k p.at) p d e r
  list_after ws issued k d e r y =
      list_field_lem s ws q.at (part_of s issued k v q.at) (list_field s issued k p.at) p d e r (rw (← x.is))
      (subst (λ (z : Place). FieldDone s ws (part_of s issued k v q.at) z d e r) x.place y)

-- ---- by their sorts

module _ (s : List ℕ) (issued : ℕ) (a : Sort) (at : ℕ) where
  -- a term, a nominal and a receiver
  pub plain_tree : (a ≡ sorts.Term) ⊎ ((a ≡ sorts.Nominal) ⊎ (a ≡ sorts.Receiver)) → fields.field s issued (plain_of a) at ≡ part_of s issued a 1 at
  unfolding plain_of sort_of part_of fields.field
  plain_tree (inl e) = rw e refl
  plain_tree (inr (inl e)) = rw e refl
  plain_tree (inr (inr e)) = rw e refl

  -- lists
  pub plain_list : (a ≡ sorts.Entries) ⊎ ((a ≡ sorts.Receivers) ⊎ ((a ≡ sorts.Arguments) ⊎ (a ≡ sorts.Rules))) → fields.field s issued (plain_of a) at ≡ list_field s issued a at
  unfolding plain_of sort_of part_of fields.field
  plain_list (inl e) = rw e refl
  plain_list (inr (inl e)) = rw e refl
  plain_list (inr (inr (inl e))) = rw e refl
  plain_list (inr (inr (inr e))) = rw e refl

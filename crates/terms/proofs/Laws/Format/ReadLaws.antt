-- What each reading function answers, from what its parts answer, on plain values. `d` is the areas at entry; `e`, `f`, `g` and `h` are
-- the areas after each part in turn; `t` is the parser of the terms inside.
use mathlib.Core.Path.{◌≡◌, refl, sym, ap, ◌∙◌}
use mathlib.Core.Bool.{Bool, true, false, not, ◌&&◌}
use mathlib.Core.List.{List}
use Prim.Native.Nat.{ℕ, zero, suc, ◌+◌, ◌-◌, ◌≤◌, ◌<◌}
use native.Mathlib.Numerals.{sub-one}
use native.Mathlib.Omega.{arith}
use borrow.Author.Tests.{eqb-true, lt-ltb, le-ltb}
use lib.Dec.{eqb}
use lib.ListN.{length, get_or}
use Rattle.std.specs.Prelude.{Option, Some, None}
use Rattle.terms.specs.declared.Fields.{Fields}
use Rattle.terms.specs.declared.Place.{Place}
use Rattle.terms.specs.Words.ReadContract.{Step}
use Rattle.terms.specs.Words.ReadContract.{Next, Stopped}
use Rattle.terms.specs.Parser.{Result, Parser, got, refused, number}
use Rattle.terms.specs.Words.Tokens.{Area}
use Rattle.terms.specs.Term.{Term, Parts, end, num, sub, ◌+++◌, items, part_items, size, sizes}
use Rattle.terms.specs.Shape as shape
use Rattle.terms.specs.Shape.{Shape, Sort, Meaning, kind_of, nominal, plain, ceiling, definition, ordinary}
use Rattle.terms.specs.Reading.{code, count, rising, variable, many, pairs, row, kinded, term, bare}
use Rattle.terms.specs.Words.RowPieces.{termless, coded, numbered, fields, listed}
use Rattle.terms.specs.Words.ReadContract.{Wrote, TermDone, PartsDone, ValueDone, after, seq, into, onto, Valued, Unvalued}
use Rattle.terms.proofs.Laws.General.Bools.{never_true}
use Rattle.terms.proofs.Laws.Format.ValueLaws.{value_plain}
use Rattle.terms.proofs.Laws.Format.ReadSequenceLaws.{wrote_none, wrote_num, wrote_sub, then_wrote, items_append, sizes_append, after_done, none_done, noded}
use Rattle.terms.proofs.Laws.Format.RowPieceLaws.{after_end, after_after, seq_end, seq_ext, seq_seq, into_ext, into_seq, one_seq, row_terms, many_more, row_plain}

-- ---- what was read so far is stored, and the rest is still to come

pub record SoFar (s : List ℕ) (whole rest : Result Parts) (p : Place) (d e : Area) (q : Place) : Type 0 where
  pub parts : Parts
  pub found : whole ≡ after parts rest
  pub wrote : Wrote s p d e (part_items parts) (sizes parts) q

pub so_far_start : {s : List ℕ} {whole : Result Parts} {p : Place} {d : Area} → p.at ≤ length s → SoFar s whole whole p d d p
unfolding items size
so_far_start {s} {whole} {p} {d} h = record { parts = end; found = after_end whole; wrote = wrote_none s p d h }

module _ {s : List ℕ} {whole rest : Result Parts} {p q : Place} {d e : Area} where
  pub so_far_done : SoFar s whole rest p d e q → (f : Area) (r : Step) → PartsDone s rest q e f r → PartsDone s whole p d f r
  so_far_done x f r y = rw x.found (after_done s p d e x.parts q x.wrote f rest r y)

  -- a further row ps
  pub so_far_more : (ps : Parts) {f : Area} {u : Place} → SoFar s whole (after ps rest) p d e q → Wrote s q e f (part_items ps) (sizes ps) u → SoFar s whole rest p d f u
  so_far_more ps {f} {u} x w = record {
    parts = x.parts +++ ps;
    found = x.found ∙ sym (after_after x.parts ps rest);
    wrote = rw (items_append x.parts ps, sizes_append x.parts ps) (then_wrote s p d e _ _ q x.wrote f _ _ u w);
  }

module _ {s : List ℕ} {whole : Result Parts} {p q : Place} {d e : Area} where
  -- nothing is left
  pub so_far_end : SoFar s whole (got end q.at) p d e q → PartsDone s whole p d e (Next q)
  so_far_end x = so_far_done x e (Next q) (none_done s q e x.wrote.inside)

  -- a part of the rest, and what follows it
  pub seq_read : (r : Result Parts) (k : Parser Parts) {f : Area} {u : Place} → SoFar s whole (seq r k) p d e q → PartsDone s r q e f (Next u) → SoFar s whole (k u.at) p d f u
  seq_read r k x y = so_far_more y.0 (rw y.1 at x) y.2

  pub seq_refused : (r : Result Parts) (k : Parser Parts) (f : Area) {c : ℕ} → SoFar s whole (seq r k) p d e q → PartsDone s r q e f (Stopped c) → PartsDone s whole p d f (Stopped c)
  seq_refused r k f {c} x y = so_far_done x f (Stopped c) (simp y.0, y.1)

  -- a number
  module _ (most : ℕ) (r : Result ℕ) (k : ℕ → Parser Parts) (x : SoFar s whole (into r k) p d e q) where
    into_read : {f : Area} {v : ℕ} {u : Place} → ValueDone most s r q e f (Valued v u) → SoFar s whole (k v u.at) p d f u
    into_read {f} {v} {u} y = so_far_more (num v end) (rw y.0 at x) (wrote_num s q e f v u y.2)

    into_refused : (f : Area) {c : ℕ} → ValueDone most s r q e f (Unvalued c) → PartsDone s whole p d f (Stopped c)
    into_refused f {c} y = so_far_done x f (Stopped c) (simp y.0, y.1)

  -- a term
  module _ (r : Result Term) (k : Parser Parts) (x : SoFar s whole (onto r k) p d e q) where
    pub onto_read : {f : Area} {u : Place} → TermDone s r q e f (Next u) → SoFar s whole (k u.at) p d f u
    onto_read {f} {u} y = so_far_more (sub y.0 end) (rw y.1 at x) (wrote_sub s q e f y.0 u y.2)

    pub onto_refused : (f : Area) {c : ℕ} → TermDone s r q e f (Stopped c) → PartsDone s whole p d f (Stopped c)
    onto_refused f {c} y = so_far_done x f (Stopped c) (simp y.0, y.1)

-- a nominal inside a longer row is the nominal and then the rest
pub row_nominal : (s : List ℕ) (t : Parser Term) (r : Shape) (at : ℕ) → row s t (nominal r) at ≡ seq (row s t (nominal shape.done) at) (row s t r)
unfolding row
row_nominal s t r at =
    into_ext (number s (ceiling definition) at) (λ v. row s t (shape.terms (shape.members r))) (λ v n. seq (row s t (shape.terms (shape.members shape.done)) n) (row s t r)) (λ v n.
    row_terms s t (shape.members r) n
    ∙ seq_ext (listed s t true n) (row s t (shape.members r)) (λ m. seq (row s t (shape.members shape.done) m) (row s t r)) (λ m.
    into_ext (count s m) (λ v k. seq (pairs s t v 0 k) (row s t r)) (λ v k. seq (seq (pairs s t v 0 k) (row s t shape.done)) (row s t r))
    (λ v k. rw (seq_end (pairs s t v 0 k)))
    ∙ sym (into_seq (count s m) (λ v k. seq (pairs s t v 0 k) (row s t shape.done)) (row s t r)))
    ∙ sym (seq_seq (listed s t true n) (row s t (shape.members shape.done)) (row s t r))
    ∙ ap (λ (x : Result Parts). seq x (row s t r)) (sym (row_terms s t (shape.members shape.done) n)))
    ∙ sym (into_seq (number s (ceiling definition) at) (λ v. row s t (shape.terms (shape.members shape.done))) (row s t r))

-- ---- the parts of a row, each read or refused

module _ {s : List ℕ} (t : Parser Term) (r : Shape) {whole : Result Parts} {p q : Place} {d e : Area} where
  -- a number
  module _ (b : Sort) (x : SoFar s whole (row s t (shape.number b r) q.at) p d e q) where
    pub number_read : {f : Area} {v : ℕ} {u : Place} → ValueDone (ceiling b) s (rising s (ceiling b) 0 q.at) q e f (Valued v u) → SoFar s whole (row s t r u.at) p d f u
    unfolding row
    number_read {f} {v} {u} y = into_read (ceiling b) (number s (ceiling b) q.at) (λ v. row s t r) x (value_plain s q e f (ceiling b) (ceiling b) (Valued v u) y)

    pub number_refused : (f : Area) {c : ℕ} → ValueDone (ceiling b) s (rising s (ceiling b) 0 q.at) q e f (Unvalued c) → PartsDone s whole p d f (Stopped c)
    unfolding row
    number_refused f {c} y = into_refused (ceiling b) (number s (ceiling b) q.at) (λ v. row s t r) x f (value_plain s q e f (ceiling b) (ceiling b) (Unvalued c) y)

  -- a term
  module _ (x : SoFar s whole (row s t (shape.term r) q.at) p d e q) where
    pub term_read : {f : Area} {u : Place} → TermDone s (t q.at) q e f (Next u) → SoFar s whole (row s t r u.at) p d f u
    unfolding row
    term_read y = onto_read (t q.at) (row s t r) x y

    pub term_refused : (f : Area) {c : ℕ} → TermDone s (t q.at) q e f (Stopped c) → PartsDone s whole p d f (Stopped c)
    unfolding row
    term_refused f y = onto_refused (t q.at) (row s t r) x f y

  -- a nominal
  module _ (x : SoFar s whole (row s t (nominal r) q.at) p d e q) where
    pub nominal_read : {f : Area} {u : Place} → PartsDone s (row s t (nominal shape.done) q.at) q e f (Next u) → SoFar s whole (row s t r u.at) p d f u
    nominal_read y = seq_read (row s t (nominal shape.done) q.at) (row s t r) (rw (row_nominal s t r q.at) at x) y

    pub nominal_refused : (f : Area) {c : ℕ} → PartsDone s (row s t (nominal shape.done) q.at) q e f (Stopped c) → PartsDone s whole p d f (Stopped c)
    nominal_refused f y = seq_refused (row s t (nominal shape.done) q.at) (row s t r) f (rw (row_nominal s t r q.at) at x) y

  -- a count
  module _ (x : SoFar s whole (row s t (shape.terms r) q.at) p d e q) where
    pub count_read : {f : Area} {n : ℕ} {u : Place} → ValueDone (ceiling ordinary) s (rising s (ceiling ordinary) 0 q.at) q e f (Valued n u)
        → SoFar s whole (seq (many s t n u.at) (row s t r)) p d f u
    unfolding row
    count_read {f} {n} {u} y = into_read (ceiling ordinary) (count s q.at) (λ n m. seq (many s t n m) (row s t r)) x (value_plain s q e f (ceiling ordinary) (ceiling ordinary) (Valued n u) y)

    pub count_refused : (f : Area) {c : ℕ} → ValueDone (ceiling ordinary) s (rising s (ceiling ordinary) 0 q.at) q e f (Unvalued c) → PartsDone s whole p d f (Stopped c)
    unfolding row
    count_refused f {c} y = into_refused (ceiling ordinary) (count s q.at) (λ n m. seq (many s t n m) (row s t r)) x f (value_plain s q e f (ceiling ordinary) (ceiling ordinary) (Unvalued c) y)

  -- as many terms as were counted
  module _ (n : ℕ) (x : SoFar s whole (seq (many s t n q.at) (row s t r)) p d e q) where
    pub many_read : {f : Area} {u : Place} → PartsDone s (many s t n q.at) q e f (Next u) → SoFar s whole (row s t r u.at) p d f u
    many_read y = seq_read (many s t n q.at) (row s t r) x y

    pub many_refused : (f : Area) {c : ℕ} → PartsDone s (many s t n q.at) q e f (Stopped c) → PartsDone s whole p d f (Stopped c)
    many_refused f y = seq_refused (many s t n q.at) (row s t r) f x y

    pub many_none : n ≤ 0 → SoFar s whole (row s t r q.at) p d e q
    unfolding many
    many_none h = let z : n ≡ 0 = omega arith in rw (after_end (row s t r q.at)) (rw z at x)

-- the last part of a row
module _ {s : List ℕ} (t : Parser Term) {whole : Result Parts} {p q : Place} {d e : Area} where
  pub many_last : (n : ℕ) → SoFar s whole (seq (many s t n q.at) (row s t shape.done)) p d e q → (f : Area) (r : Step) → PartsDone s (many s t n q.at) q e f r → PartsDone s whole p d f r
  unfolding row
  many_last n x f r y = so_far_done (rw (seq_end (many s t n q.at)) at x) f r y

  module _ (x : SoFar s whole (row s t (shape.members shape.done) q.at) p d e q) where
    pub members_read : {f : Area} {n : ℕ} {u : Place} → ValueDone (ceiling ordinary) s (rising s (ceiling ordinary) 0 q.at) q e f (Valued n u) → SoFar s whole (pairs s t n 0 u.at) p d f u
    unfolding row
    members_read {f} {n} {u} y =
        rw (seq_end (pairs s t n 0 u.at)) at (into_read (ceiling ordinary) (count s q.at) (λ n m. seq (pairs s t n 0 m) (row s t shape.done)) x (value_plain s q e f (ceiling ordinary) (ceiling ordinary) (Valued n u) y))

    pub members_refused : (f : Area) {c : ℕ} → ValueDone (ceiling ordinary) s (rising s (ceiling ordinary) 0 q.at) q e f (Unvalued c) → PartsDone s whole p d f (Stopped c)
    unfolding row
    members_refused f {c} y = into_refused (ceiling ordinary) (count s q.at) (λ n m. seq (pairs s t n 0 m) (row s t shape.done)) x f (value_plain s q e f (ceiling ordinary) (ceiling ordinary) (Unvalued c) y)

-- ---- the loops

-- `left` more terms
module _ {s : List ℕ} (t : Parser Term) (left : ℕ) {whole : Result Parts} {p q : Place} {d e : Area} (x : SoFar s whole (many s t left q.at) p d e q) where
  pub terms_end : left ≤ 0 → PartsDone s whole p d e (Next q)
  unfolding many
  terms_end h = let z : left ≡ 0 = omega arith in so_far_end (rw z at x)

  -- one of them
  a_term : 0 < left → SoFar s whole (onto (t q.at) (many s t (left - 1))) p d e q
  unfolding many
  a_term h = let z : left ≡ suc (left - 1) = omega arith in rw z at x

  pub terms_read : 0 < left → {f : Area} {u : Place} → TermDone s (t q.at) q e f (Next u) → SoFar s whole (many s t (left - 1) u.at) p d f u
  terms_read h y = onto_read (t q.at) (many s t (left - 1)) (a_term h) y

  pub terms_refused : 0 < left → (f : Area) {c : ℕ} → TermDone s (t q.at) q e f (Stopped c) → PartsDone s whole p d f (Stopped c)
  terms_refused h f y = onto_refused (t q.at) (many s t (left - 1)) (a_term h) f y

-- what follows a member's number
abbrev after_member : (s : List ℕ) → Parser Term → ℕ → ℕ → Parser Parts
after_member s t left m n = onto (t n) (pairs s t (left - 1) (m + 1))

-- `left` more members, of `least` at least
module _ {s : List ℕ} (t : Parser Term) (least left : ℕ) {whole : Result Parts} {p q : Place} {d e : Area} (x : SoFar s whole (pairs s t left least q.at) p d e q) where
  pub pairs_end : left ≤ 0 → PartsDone s whole p d e (Next q)
  unfolding pairs
  pairs_end h = let z : left ≡ 0 = omega arith in so_far_end (rw z at x)

  -- a member: its number, and then its term
  a_member : 0 < left → SoFar s whole (into (rising s (ceiling definition) least q.at) (after_member s t left)) p d e q
  unfolding pairs
  a_member h = let z : left ≡ suc (left - 1) = omega arith in rw z at x

  pub member_refused : 0 < left → (f : Area) {c : ℕ} → ValueDone (ceiling definition) s (rising s (ceiling definition) least q.at) q e f (Unvalued c) → PartsDone s whole p d f (Stopped c)
  member_refused h f y = into_refused (ceiling definition) (rising s (ceiling definition) least q.at) (after_member s t left) (a_member h) f y

  module _ (h : 0 < left) {f : Area} {m : ℕ} {u : Place} (y : ValueDone (ceiling definition) s (rising s (ceiling definition) least q.at) q e f (Valued m u)) where
    named : SoFar s whole (onto (t u.at) (pairs s t (left - 1) (m + 1))) p d f u
    named = into_read (ceiling definition) (rising s (ceiling definition) least q.at) (after_member s t left) (a_member h) y

    pub pairs_read : {g : Area} {w : Place} → TermDone s (t u.at) u f g (Next w) → SoFar s whole (pairs s t (left - 1) (m + 1) w.at) p d g w
    pairs_read v = onto_read (t u.at) (pairs s t (left - 1) (m + 1)) named v

    pub pairs_refused : (g : Area) {c : ℕ} → TermDone s (t u.at) u f g (Stopped c) → PartsDone s whole p d g (Stopped c)
    pairs_refused g v = onto_refused (t u.at) (pairs s t (left - 1) (m + 1)) named g v

-- ---- the fields of a plain row

module _ {s : List ℕ} (k : Parser Parts) {whole : Result Parts} {p q : Place} {d e : Area} where
  -- a code, where there is one
  module _ (codes : Option ℕ) (x : SoFar s whole (seq (coded s codes q.at) k) p d e q) where
    pub code_none : codes ≡ None → SoFar s whole (k q.at) p d e q
    unfolding coded
    code_none z = rw (after_end (k q.at)) (rw z at x)

    module _ {limit : ℕ} (z : codes ≡ Some limit) where
      here : SoFar s whole (into (code s limit q.at) (λ v. k)) p d e q
      unfolding coded
      here = rw (← one_seq (code s limit q.at) k) (rw z at x)

      pub code_read : {f : Area} {v : ℕ} {u : Place} → ValueDone 255 s (code s limit q.at) q e f (Valued v u) → SoFar s whole (k u.at) p d f u
      code_read y = into_read 255 (code s limit q.at) (λ v. k) here y

      pub code_refused : (f : Area) {c : ℕ} → ValueDone 255 s (code s limit q.at) q e f (Unvalued c) → PartsDone s whole p d f (Stopped c)
      code_refused f y = into_refused 255 (code s limit q.at) (λ v. k) here f y

  -- a number, where it is wanted
  module _ (most : ℕ) (wanted : Bool) (x : SoFar s whole (seq (numbered s most wanted q.at) k) p d e q) where
    pub numbered_none : wanted ≡ false → SoFar s whole (k q.at) p d e q
    unfolding numbered
    numbered_none z = rw (after_end (k q.at)) (rw z at x)

    module _ (z : wanted ≡ true) where
      there : SoFar s whole (into (number s most q.at) (λ v. k)) p d e q
      unfolding numbered
      there = rw (← one_seq (number s most q.at) k) (rw z at x)

      pub numbered_read : {f : Area} {v : ℕ} {u : Place} → ValueDone most s (rising s most 0 q.at) q e f (Valued v u) → SoFar s whole (k u.at) p d f u
      numbered_read {f} {v} {u} y = into_read most (number s most q.at) (λ v. k) there (value_plain s q e f most most (Valued v u) y)

      pub numbered_refused : (f : Area) {c : ℕ} → ValueDone most s (rising s most 0 q.at) q e f (Unvalued c) → PartsDone s whole p d f (Stopped c)
      numbered_refused f {c} y = into_refused most (number s most q.at) (λ v. k) there f (value_plain s q e f most most (Unvalued c) y)

-- the fields are a code and two numbers
pub fields_start : {s : List ℕ} (k : Fields) (p : Place) {d : Area} → p.at ≤ length s
    → SoFar s (fields s k p.at) (seq (coded s k.codes p.at) (λ n. seq (numbered s (ceiling definition) k.first n) (λ m. seq (numbered s (ceiling ordinary) k.second m) (λ i. got end i)))) p d d p
unfolding fields
fields_start {s} k p h =
    let two : Parser Parts = numbered s (ceiling ordinary) k.second in
    let one : Parser Parts = numbered s (ceiling definition) k.first in
    rw (seq_ext (coded s k.codes p.at) (λ n. seq (one n) (λ m. seq (two m) (λ i. got end i))) (λ n. seq (one n) two) (λ n. seq_ext (one n) (λ m. seq (two m) (λ i. got end i)) two (λ m. seq_end (two m))))
    (so_far_start h)

-- ---- a plain row: fields, and then terms

-- a row without terms counts none and has none
termless_parts : (c : Bool) (n : ℕ) → (not c && eqb n 0) ≡ true → (c ≡ false) × (n ≡ 0)
termless_parts true n z = never_true z
termless_parts false n z = (refl, eqb-true n 0 z)

module _ (s : List ℕ) (t : Parser Term) (k : Fields) where
  -- what follows the fields
  abbrev rest : Parser Parts
  rest n = seq (listed s t k.counted n) (many s t k.terms)

  pub plain_no : (p : Place) (d e : Area) {c : ℕ} → PartsDone s (fields s k p.at) p d e (Stopped c) → PartsDone s (row s t (plain k) p.at) p d e (Stopped c)
  plain_no p d e {c} x = rw (row_plain s t k p.at) (simp x.0, x.1)

  module _ {p q : Place} {d e : Area} (x : PartsDone s (fields s k p.at) p d e (Next q)) where
    -- the fields are read
    after_fields : SoFar s (row s t (plain k) p.at) (rest q.at) p d e q
    after_fields = record { parts = x.0; found = rw (row_plain s t k p.at, x.1); wrote = x.2 }

    -- no count: the terms are still to come
    pub plain_uncounted : k.counted ≡ false → SoFar s (row s t (plain k) p.at) (many s t (0 + k.terms) q.at) p d e q
    unfolding listed
    plain_uncounted z =
        let m : 0 + k.terms ≡ k.terms = omega arith in
        let h : rest q.at ≡ many s t (0 + k.terms) q.at = rw (z, m) (sym (after_end (many s t k.terms q.at))) in
        rw h at after_fields

    -- a count, and then as many terms and the others
    counted : k.counted ≡ true → SoFar s (row s t (plain k) p.at) (into (count s q.at) (λ n. many s t (n + k.terms))) p d e q
    unfolding listed
    counted z =
        let h : rest q.at ≡ into (count s q.at) (λ n. many s t (n + k.terms)) =
        rw z (into_seq (count s q.at) (many s t) (many s t k.terms) ∙ into_ext (count s q.at) (λ v n. seq (many s t v n) (many s t k.terms)) (λ n. many s t (n + k.terms)) (λ v n. sym (many_more s t v k.terms n))) in
        rw h at after_fields

    pub plain_counted : k.counted ≡ true → {f : Area} {n : ℕ} {u : Place} → ValueDone (ceiling ordinary) s (rising s (ceiling ordinary) 0 q.at) q e f (Valued n u)
        → SoFar s (row s t (plain k) p.at) (many s t (n + k.terms) u.at) p d f u
    plain_counted z {f} {n} {u} y = into_read (ceiling ordinary) (count s q.at) (λ n. many s t (n + k.terms)) (counted z) (value_plain s q e f (ceiling ordinary) (ceiling ordinary) (Valued n u) y)

    pub plain_stop : k.counted ≡ true → (f : Area) {c : ℕ} → ValueDone (ceiling ordinary) s (rising s (ceiling ordinary) 0 q.at) q e f (Unvalued c) → PartsDone s (row s t (plain k) p.at) p d f (Stopped c)
    plain_stop z f {c} y = into_refused (ceiling ordinary) (count s q.at) (λ n. many s t (n + k.terms)) (counted z) f (value_plain s q e f (ceiling ordinary) (ceiling ordinary) (Unvalued c) y)

    -- a plain row without terms is its fields
    pub plain_fields : termless k ≡ true → PartsDone s (row s t (plain k) p.at) p d e (Next q)
    unfolding many
    plain_fields z = let y = termless_parts k.counted k.terms z in terms_end t (0 + k.terms) (plain_uncounted y.0) (omega (arith, y.1))

-- ---- a term: what its tag stands for

pub levels_none : (s : List ℕ) (issued levels at : ℕ) → levels ≡ 0 → term s issued levels at ≡ refused 4
unfolding term
levels_none s issued levels at z = rw z

module _ (s : List ℕ) (issued : ℕ) where
  pub term_end : (levels at : ℕ) → (levels ≡ 0 → ⊥) → length s ≤ at → term s issued levels at ≡ refused 1
  unfolding term
  term_end zero at z h = absurd (z refl)
  term_end (suc l) at z h = simp (le-ltb at (length s) h)

  pub term_kind : (levels at : ℕ) → (levels ≡ 0 → ⊥) → at < length s → (k : Meaning) → k ≡ kind_of (get_or s at 0)
      → term s issued levels at ≡ kinded s (term s issued (levels - 1)) issued (get_or s at 0) k (at + 1)
  unfolding term
  term_kind zero at z h k e = absurd (z refl)
  term_kind (suc l) at z h k e = simp (lt-ltb at (length s) h, ← e, sub-one)

  module _ (levels at : ℕ) (z : levels ≡ 0 → ⊥) (h : at < length s) where
    pub term_variable : shape.variable ≡ kind_of (get_or s at 0) → term s issued levels at ≡ variable s issued (at + 1)
    unfolding kinded
    term_variable e = term_kind levels at z h shape.variable e

    pub term_row : (r : Shape) → shape.row r ≡ kind_of (get_or s at 0) → term s issued levels at ≡ noded (get_or s at 0) (row s (term s issued (levels - 1)) r (at + 1))
    unfolding kinded
    term_row r e = term_kind levels at z h (shape.row r) e

    pub term_unlisted : shape.unlisted ≡ kind_of (get_or s at 0) → term s issued levels at ≡ refused 2
    unfolding kinded
    term_unlisted e = term_kind levels at z h shape.unlisted e

-- a bare nominal is the row of a nominal under the tag 20
pub bare_row : (s : List ℕ) (issued levels at : ℕ) → bare s issued levels at ≡ noded 20 (row s (term s issued levels) (nominal shape.done) at)
unfolding bare
bare_row s issued levels at = refl

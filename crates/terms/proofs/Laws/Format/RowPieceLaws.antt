-- A row is its pieces one after another.
use mathlib.Core.Path.{◌≡◌, refl, sym, ap, ◌∙◌}
use mathlib.Core.Bool.{Bool, true, false}
use mathlib.Core.List.{List}
use Prim.Native.Nat.{ℕ, zero, suc, ◌+◌}
use native.Mathlib.Omega.{arith}
use Rattle.std.specs.Prelude.{Option, Some, None}
use Rattle.terms.specs.declared.Fields.{Fields}
use Rattle.terms.specs.Parser.{Result, Parser, got, refused, bind, number}
use Rattle.terms.specs.Term.{Term, Parts, end, num, sub, ◌+++◌}
use Rattle.terms.specs.Shape as shape
use Rattle.terms.specs.Shape.{Shape, Sort, definition, ordinary, ceiling, with_code, with_number, with_count, many_terms, plain}
use Rattle.terms.specs.Reading.{code, count, many, row}
use Rattle.terms.specs.Words.RowPieces.{coded, numbered, fields, listed}
use Rattle.terms.specs.Words.ReadContract.{after, seq, into, onto}

-- ---- rows one after another

append_end : (ps : Parts) → ps +++ end ≡ ps
append_end end = refl
append_end (num n ps) = ap (λ (qs : Parts). num n qs) (append_end ps)
append_end (sub t ps) = ap (λ (qs : Parts). sub t qs) (append_end ps)

append_append : (ps qs rs : Parts) → (ps +++ qs) +++ rs ≡ ps +++ (qs +++ rs)
append_append end qs rs = refl
append_append (num n ps) qs rs = ap (λ (us : Parts). num n us) (append_append ps qs rs)
append_append (sub t ps) qs rs = ap (λ (us : Parts). sub t us) (append_append ps qs rs)

pub after_after : (ps qs : Parts) (r : Result Parts) → after (ps +++ qs) r ≡ after ps (after qs r)
after_after ps qs (got rs n) = ap (λ (us : Parts). got us n) (append_append ps qs rs)
after_after ps qs (refused c) = refl

pub after_end : (r : Result Parts) → r ≡ after end r
after_end (got rs n) = refl
after_end (refused c) = refl

pub seq_end : (r : Result Parts) → seq r (λ n. got end n) ≡ r
seq_end (got rs n) = ap (λ (us : Parts). got us n) (append_end rs)
seq_end (refused c) = refl

pub seq_ext : (r : Result Parts) (k l : Parser Parts) → ((n : ℕ) → k n ≡ l n) → seq r k ≡ seq r l
seq_ext (got ps n) k l h = ap (λ (x : Result Parts). after ps x) (h n)
seq_ext (refused c) k l h = refl

pub after_seq : (ps : Parts) (r : Result Parts) (k : Parser Parts) → seq (after ps r) k ≡ after ps (seq r k)
after_seq ps (got qs n) k = after_after ps qs (k n)
after_seq ps (refused c) k = refl

pub seq_seq : (r : Result Parts) (k l : Parser Parts) → seq (seq r k) l ≡ seq r (λ n. seq (k n) l)
seq_seq (got ps n) k l = after_seq ps (k n) l
seq_seq (refused c) k l = refl

-- terms, where what follows is the same
onto_ext : (r : Result Term) (k l : Parser Parts) → ((n : ℕ) → k n ≡ l n) → onto r k ≡ onto r l
onto_ext (got t n) k l h = ap (λ (x : Result Parts). after (sub t end) x) (h n)
onto_ext (refused c) k l h = refl

pub into_ext : (r : Result ℕ) (k l : ℕ → Parser Parts) → ((v n : ℕ) → k v n ≡ l v n) → into r k ≡ into r l
into_ext (got v n) k l h = ap (λ (x : Result Parts). after (num v end) x) (h v n)
into_ext (refused c) k l h = refl

-- a count with its row, and then another
pub into_seq : (r : Result ℕ) (k : ℕ → Parser Parts) (l : Parser Parts) → seq (into r k) l ≡ into r (λ v n. seq (k v n) l)
into_seq (got v n) k l = after_seq (num v end) (k v n) l
into_seq (refused c) k l = refl

-- a term with its row, and then another
pub onto_seq : (r : Result Term) (k l : Parser Parts) → seq (onto r k) l ≡ onto r (λ n. seq (k n) l)
onto_seq (got t n) k l = after_seq (sub t end) (k n) l
onto_seq (refused c) k l = refl

-- a member with its term and its row, and then another
pub pairs_seq : (r : Result ℕ) (p : Parser Term) (k : ℕ → Parser Parts) (l : Parser Parts)
    → seq (into r (λ v n. onto (p n) (k v))) l ≡ into r (λ v n. onto (p n) (λ m. seq (k v m) l))
pairs_seq r p k l = into_seq r (λ v n. onto (p n) (k v)) l ∙ into_ext r (λ v n. seq (onto (p n) (k v)) l) (λ v n. onto (p n) (λ m. seq (k v m) l)) (λ v n. onto_seq (p n) (k v) l)

-- a number alone, and then a row
pub one_seq : (r : Result ℕ) (l : Parser Parts) → seq (bind r (λ v n. got (num v end) n)) l ≡ into r (λ v. l)
one_seq (got v n) l = refl
one_seq (refused c) l = refl

module _ (s : List ℕ) (p : Parser Term) (r : Shape) (at : ℕ) where
  -- ---- the row of each shape

  pub row_number : (f : Sort) → row s p (shape.number f r) at ≡ into (number s (ceiling f) at) (λ v. row s p r)
  unfolding row
  row_number f = refl

  pub row_terms : row s p (shape.terms r) at ≡ seq (listed s p true at) (row s p r)
  unfolding row listed
  row_terms = sym (into_seq (count s at) (λ v n. many s p v n) (row s p r))

  -- ---- plain rows

  pub row_code : (codes : Option ℕ) → row s p (with_code codes r) at ≡ seq (coded s codes at) (row s p r)
  unfolding row coded
  row_code None = after_end (row s p r at)
  row_code (Some limit) = sym (one_seq (code s limit at) (row s p r))

  pub row_id : (f : Sort) (wanted : Bool) → row s p (with_number f wanted r) at ≡ seq (numbered s (ceiling f) wanted at) (row s p r)
  unfolding row numbered
  row_id f true = sym (one_seq (number s (ceiling f) at) (row s p r))
  row_id f false = after_end (row s p r at)

  pub row_count : (wanted : Bool) → row s p (with_count wanted r) at ≡ seq (listed s p wanted at) (row s p r)
  unfolding listed
  row_count true = row_terms
  row_count false = after_end (row s p r at)

module _ (s : List ℕ) (p : Parser Term) where
  pub row_many : (n at : ℕ) → row s p (many_terms n shape.done) at ≡ many s p n at
  unfolding row many many_terms
  row_many zero at = refl
  row_many (suc n) at = onto_ext (p at) (row s p (many_terms n shape.done)) (many s p n) (row_many n)

  -- n terms and then k
  pub many_more : (n k at : ℕ) → many s p (n + k) at ≡ seq (many s p n at) (many s p k)
  unfolding many
  many_more zero k at = let h : 0 + k ≡ k = omega arith in rw h (after_end (many s p k at))
  many_more (suc n) k at =
      let h : suc n + k ≡ suc (n + k) = omega arith in
      rw h (onto_ext (p at) (many s p (n + k)) (λ m. seq (many s p n m) (many s p k)) (many_more n k) ∙ sym (onto_seq (p at) (many s p n) (many s p k)))

  -- the fields, the terms that are counted, and the others
  pub row_plain : (f : Fields) (at : ℕ) → row s p (plain f) at ≡ seq (fields s f at) (λ n. seq (listed s p f.counted n) (many s p f.terms))
  unfolding fields
  row_plain f at =
      let t : Shape = many_terms f.terms shape.done in
      let b : Shape = with_count f.counted t in
      let rest : Parser Parts = λ n. seq (listed s p f.counted n) (many s p f.terms) in
      let counted : (n : ℕ) → row s p b n ≡ rest n = λ n. row_count s p t n f.counted ∙ seq_ext (listed s p f.counted n) (row s p t) (many s p f.terms) (row_many f.terms) in
      let one : Parser Parts = numbered s (ceiling definition) f.first in
      let two : Parser Parts = numbered s (ceiling ordinary) f.second in
      let second : (n : ℕ) → row s p (with_number ordinary f.second b) n ≡ seq (two n) rest =
      λ n. row_id s p b n ordinary f.second ∙ seq_ext (two n) (row s p b) rest counted in
      let first : (n : ℕ) → row s p (with_number definition f.first (with_number ordinary f.second b)) n ≡ seq (one n) (λ m. seq (two m) rest) =
      λ n. row_id s p (with_number ordinary f.second b) n definition f.first ∙ seq_ext (one n) (row s p (with_number ordinary f.second b)) (λ m. seq (two m) rest) second in
      row_code s p (with_number definition f.first (with_number ordinary f.second b)) at f.codes
      ∙ seq_ext (coded s f.codes at) (row s p (with_number definition f.first (with_number ordinary f.second b))) (λ n. seq (seq (one n) two) rest)
      (λ n. first n ∙ sym (seq_seq (one n) two rest))
      ∙ sym (seq_seq (coded s f.codes at) (λ n. seq (one n) two) rest)

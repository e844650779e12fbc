-- Lists read record by record and kept as rows.
use mathlib.Core.Path.{◌≡◌, refl, sym, ap, ◌∙◌}
use mathlib.Core.Bool.{Bool, true, false}
use mathlib.Core.List.{List, ◌∷◌}
use Prim.Native.Nat.{ℕ, zero, suc, ◌-◌, ◌≤◌, ◌<◌}
use native.Mathlib.Omega.{arith}
use lib.ListN.{length}
use Rattle.terms.specs.declared.Fields.{Fields}
use Rattle.terms.specs.declared.Place.{Place}
use Rattle.terms.specs.Words.ReadContract.{Step}
use Rattle.terms.specs.Words.ReadContract.{Next, Stopped}
use Rattle.terms.specs.Parser.{Result, Parser, got, refused, bind, number}
use Rattle.terms.specs.Words.Tokens.{Area}
use Rattle.terms.specs.Term.{Term, Parts, end, num, sub, part_items, sizes, ◌+++◌}
use Rattle.terms.specs.Shape.{definition, ordinary, ceiling}
use Rattle.terms.specs.Words.RowPieces.{coded, numbered, fields}
use Rattle.terms.specs.Words.ReadContract.{TermDone, PartsDone, Cleared, after, seq, onto}
use Rattle.terms.specs.Substitution.{Entry, Receiver}
use Rattle.terms.specs.Rows.{entries, receivers, arguments, entry_row, receiver_row, argument_row, keys, single, records, answer_of, kept_of}
use Rattle.terms.proofs.Laws.Format.KeepTermLaws.{done_next, done_stop}
use Rattle.terms.proofs.Laws.Format.RowPieceLaws.{after_end, seq_seq}
use Rattle.terms.proofs.Laws.Format.ReadLaws.{SoFar, so_far_start, so_far_end, seq_read, seq_refused, onto_read, onto_refused}

-- ---- one record: its numbers, and then its term

pub record_start : {s : List ℕ} (t : Parser Term) (first second : Bool) (p : Place) {d : Area} → p.at ≤ length s
    → SoFar s (single s t (keys first second) p.at) (seq (numbered s (ceiling definition) first p.at) (λ n. seq (numbered s (ceiling ordinary) second n) (λ m. onto (t m) (got end)))) p d d p
unfolding single fields coded
record_start {s} t first second p h =
    let one : Parser Parts = numbered s (ceiling definition) first in
    let two : Parser Parts = numbered s (ceiling ordinary) second in
    let last : Parser Parts = λ m. onto (t m) (got end) in
    let e : single s t (keys first second) p.at ≡ seq (one p.at) (λ n. seq (two n) last) =
    ap (λ (r : Result Parts). seq r last) (sym (after_end (seq (one p.at) two))) ∙ seq_seq (one p.at) two last in
    rw (← e) (so_far_start h)

pub record_term : {s : List ℕ} (t : Parser Term) {whole : Result Parts} {p q : Place} {d e : Area} → SoFar s whole (onto (t q.at) (got end)) p d e q
    → (f : Area) (r : Step) → TermDone s (t q.at) q e f r → PartsDone s whole p d f r
record_term t {q = q} x f (Next u) y = so_far_end (onto_read (t q.at) (got end) x y)
record_term t {q = q} x f (Stopped c) y = onto_refused (t q.at) (got end) x f y

-- ---- the loop: `left` more records

module _ {s : List ℕ} (t : Parser Term) (f : Fields) (left : ℕ) {whole : Result Parts} {p q : Place} {d e : Area} (x : SoFar s whole (records s t f left q.at) p d e q) where
  pub records_end : left ≤ 0 → PartsDone s whole p d e (Next q)
  unfolding records
  records_end h = let z : left ≡ 0 = omega arith in so_far_end (rw z at x)

  -- one of them
  a_record : 0 < left → SoFar s whole (seq (single s t f q.at) (records s t f (left - 1))) p d e q
  unfolding records
  a_record h = let z : left ≡ suc (left - 1) = omega arith in rw z at x

  pub records_read : 0 < left → {g : Area} {u : Place} → PartsDone s (single s t f q.at) q e g (Next u) → SoFar s whole (records s t f (left - 1) u.at) p d g u
  records_read h y = seq_read (single s t f q.at) (records s t f (left - 1)) (a_record h) y

  pub records_refused : 0 < left → (g : Area) {c : ℕ} → PartsDone s (single s t f q.at) q e g (Stopped c) → PartsDone s whole p d g (Stopped c)
  records_refused h g y = seq_refused (single s t f q.at) (records s t f (left - 1)) g (a_record h) y

-- ---- a row kept, or nothing

module _ (s : List ℕ) (found : Result Parts) (p : Place) (d e : Area) where
  pub row_kept : (r : Step) (f : Area) → PartsDone s found p d e r → Cleared p (length s - p.at) e f r → f ≡ kept_of (λ ps. ps) s p found d
  row_kept (Next q) f x c = rw x.1 (done_next part_items sizes s found p d e q f x c)
  row_kept (Stopped c) f x y = rw x.0 (done_stop part_items sizes s found p d e c f x y)

-- ---- the lists, as rows

-- the row of a list that was read
abbrev pub rowed : {A : Type 0} → (A → Parts) → Result A → Result Parts
rowed f (got a n) = got (f a) n
rowed f (refused c) = refused c

module _ {A : Type 0} (row : A → Parts) (s : List ℕ) (p : Place) (d : Area) where
  answer_rowed : (found : Result A) → answer_of (λ ps. ps) p (rowed row found) ≡ answer_of row p found
  answer_rowed (got a n) = refl
  answer_rowed (refused c) = refl

  kept_rowed : (found : Result A) → kept_of (λ ps. ps) s p (rowed row found) d ≡ kept_of row s p found d
  kept_rowed (got a n) = refl
  kept_rowed (refused c) = refl

  -- records that are the rows of a list
  pub list_answer : (found : Result A) (rs : Result Parts) (r : Step) → rs ≡ rowed row found → r ≡ answer_of (λ ps. ps) p rs → r ≡ answer_of row p found
  list_answer found rs r e h = (rw e at h) ∙ answer_rowed found

  pub list_kept : (found : Result A) (rs : Result Parts) (f : Area) → rs ≡ rowed row found → f ≡ kept_of (λ ps. ps) s p rs d → f ≡ kept_of row s p found d
  list_kept found rs f e h = (rw e at h) ∙ kept_rowed found

-- one more before a list: its row ps before the list's row
more : {A : Type 0} (row : A → Parts) (cons : A → A) (ps : Parts) → ((a : A) → row (cons a) ≡ ps +++ row a) → (found : Result A) (x : Result Parts) → x ≡ rowed row found
    → after ps x ≡ rowed row (bind found (λ a n. got (cons a) n))
more row cons ps h (got a n) x e = rw e (ap (λ (qs : Parts). got qs n) (sym (h a)))
more row cons ps h (refused c) x e = rw e

-- a term, and then the rest
module _ {A : Type 0} (row : A → Parts) (cons : Term → A → A) (before : Parts) (h : (u : Term) (a : A) → row (cons u a) ≡ (before +++ sub u end) +++ row a)
    (xs : Parser A) (ps : Parser Parts) (ih : (n : ℕ) → ps n ≡ rowed row (xs n)) where
  term_more : (r : Result Term) → seq (after before (bind r (λ u n. got (sub u end) n))) ps ≡ rowed row (bind r (λ u n. bind (xs n) (λ a m. got (cons u a) m)))
  term_more (got u n) = more row (cons u) (before +++ sub u end) (h u) (xs n) (ps n) (ih n)
  term_more (refused c) = refl

-- a number alone, as a row
abbrev numeral : Result ℕ → Result Parts
numeral r = bind r (λ v n. got (num v end) n)

module _ (s : List ℕ) (t : Parser Term) where
  pub arguments_read : (n at : ℕ) → records s t (keys false false) n at ≡ rowed argument_row (arguments s t n at)
  unfolding records single fields coded numbered arguments argument_row
  arguments_read zero at = refl
  arguments_read (suc n) at = (term_more argument_row (λ u l. u ∷ l) end (λ u l. refl) (arguments s t n) (records s t (keys false false) n) (arguments_read n) (t at))

  -- an owner, and then a term and the rest
  owner_more : (r : Result ℕ) (xs : Parser (List Receiver)) (ps : Parser Parts) → ((n : ℕ) → ps n ≡ rowed receiver_row (xs n))
      → seq (seq (bind (seq (numeral r) (λ n. got end n)) (λ qs m. got (end +++ qs) m)) (λ n. bind (t n) (λ u m. got (sub u end) m))) ps
      ≡ rowed receiver_row (bind r (λ o n. bind (t n) (λ u m. bind (xs m) (λ l k. got (record { owner = o; term = u } ∷ l) k))))
  unfolding receiver_row
  owner_more (got o n) xs ps ih = term_more receiver_row (λ u l. record { owner = o; term = u } ∷ l) (num o end) (λ u l. refl) xs ps ih (t n)
  owner_more (refused c) xs ps ih = refl

  pub receivers_read : (n at : ℕ) → records s t (keys true false) n at ≡ rowed receiver_row (receivers s t n at)
  unfolding records single fields coded numbered receivers receiver_row
  receivers_read zero at = refl
  receivers_read (suc n) at = (owner_more (number s (ceiling definition) at) (receivers s t n) (records s t (keys true false) n) (receivers_read n))

  -- an owner and a position, and then a term and the rest
  module _ (xs : Parser (List Entry)) (ps : Parser Parts) (ih : (n : ℕ) → ps n ≡ rowed entry_row (xs n)) where
    position_more : (o : ℕ) (r : Result ℕ)
        → seq (seq (bind (after (num o end) (numeral r)) (λ qs m. got (end +++ qs) m)) (λ n. bind (t n) (λ u m. got (sub u end) m))) ps
        ≡ rowed entry_row (bind r (λ q n. bind (t n) (λ u m. bind (xs m) (λ l k. got (record { parameter = record { owner = o; position = q }; term = u } ∷ l) k))))
    unfolding entry_row
    position_more o (got q n) = term_more entry_row (λ u l. record { parameter = record { owner = o; position = q }; term = u } ∷ l) (num o (num q end)) (λ u l. refl) xs ps ih (t n)
    position_more o (refused c) = refl

    entry_more : (r : Result ℕ) (k : Parser ℕ)
        → seq (seq (bind (seq (numeral r) (λ n. numeral (k n))) (λ qs m. got (end +++ qs) m)) (λ n. bind (t n) (λ u m. got (sub u end) m))) ps
        ≡ rowed entry_row (bind r (λ o n. bind (k n) (λ q m. bind (t m) (λ u i. bind (xs i) (λ l j. got (record { parameter = record { owner = o; position = q }; term = u } ∷ l) j)))))
    entry_more (got o n) k = position_more o (k n)
    entry_more (refused c) k = refl

  pub entries_read : (n at : ℕ) → records s t (keys true true) n at ≡ rowed entry_row (entries s t n at)
  unfolding records single fields coded numbered entries entry_row
  entries_read zero at = refl
  entries_read (suc n) at =
      (entry_more (entries s t n) (records s t (keys true true) n) (entries_read n) (number s (ceiling definition) at) (number s (ceiling ordinary)))

-- What an order of the session tells is made of its fields: of numbers and bounds, or of its terms, which are formed, issued and all of its nodes.
use mathlib.Core.Path.{◌≡◌, refl, ap, subst, ◌∙◌}
use mathlib.Core.Bool.{Bool, true, false}
use mathlib.Core.List.{List, [], ◌∷◌}
use mathlib.Core.Logic.{inl, inr}
use mathlib.Core.Option.{Option, none, some}
use Prim.Native.Nat.{ℕ, zero, suc, ◌+◌, ◌≤◌, ◌<◌}
use native.Mathlib.Omega.{arith}
use borrow.Author.Tests.{lt-ltb}
use lib.Dec.{eqb}
use Rattle.solver.specs.Terms.Result.{pick}
use Rattle.solver.specs.Terms.Term.{Term, size}
use Rattle.solver.specs.Terms.Formed.{Formed}
use Rattle.solver.proofs.Terms.Bools.{never_true}
use Rattle.solver.proofs.Terms.KindTableLaws.{both_true}
use Rattle.solver.specs.Families.{Bound, Request, requested, request_of}
use Rattle.solver.specs.Demand3.{RequestMade}
use Rattle.solver.specs.Session.{Limits, Session, issued}
use Rattle.solver.specs.Orders as orders
use Rattle.solver.specs.Orders.{Command, order, known}
use Rattle.solver.proofs.Laws.Definition.FamilyLaws.{range_made}
use Rattle.solver.proofs.Laws.Definition.SolverInvariantLaws.{within_known}
use Rattle.sheet.specs.Fields as fields
use Rattle.sheet.specs.Fields.{FieldSort, Field, value, tree, nodes, all_nodes, nth, number_of, number_at, term_of}
use Rattle.sheet.specs.OrderTable as rows
use Rattle.sheet.specs.OrderTable.{refusal, Act, tells, answers, Row, between, asking, session_orders, row_in, layout, known_by}
use Rattle.sheet.specs.Sheet.{table, answer_of, solve, perform, step}
use Rattle.sheet.specs.Words.FieldsFormed.{FormedFields}
use Rattle.sheet.specs.Words.OrderGiven.{OfSort, FitsLayout}
use Rattle.sheet.specs.Words.FieldLayout.{is_number, numeric, is_tokenless, tokenless, field_items, all_items}
use Rattle.sheet.proofs.Laws.Reading.OrderTableLaws.{none-some, session_row}

-- ---- fields that are numbers

number_is : (a : FieldSort) (f : Field) → is_number a ≡ true → OfSort a f → (n : ℕ) × (f ≡ value n)
unfolding is_number
number_is fields.ordinary f n h = h
number_is fields.code f n h = (h.0, h.1)
number_is a f n h = never_true n

-- those among the first m fields
pub numbers_are : (m : ℕ) (l : List FieldSort) (fs : List Field) → numeric m l ≡ true → FitsLayout l fs → (i : ℕ) → i < m → (n : ℕ) × (nth i fs ≡ value n)
unfolding numeric FitsLayout nth
numbers_are m [] [] n h i j = (0, refl)
numbers_are m [] (f ∷ fs) n h i j = absurd h
numbers_are m (a ∷ l) [] n h i j = absurd h
numbers_are zero (a ∷ l) (f ∷ fs) n h i j = absurd (omega arith)
numbers_are (suc m) (a ∷ l) (f ∷ fs) n h zero j = number_is a f (both_true (is_number a) (numeric m l) n).0 h.0
numbers_are (suc m) (a ∷ l) (f ∷ fs) n h (suc i) j = numbers_are m l fs (both_true (is_number a) (numeric m l) n).1 h.1 i (omega arith)

-- ---- fields without tokens

field-none : (a : FieldSort) (f : Field) → is_tokenless a ≡ true → OfSort a f → (nodes f ≡ 0) × (field_items f ≡ [])
unfolding is_tokenless nodes field_items
field-none fields.bound f n h = rw h.2 (refl, refl)
field-none a f n h = let x = number_is a f n h in rw x.1 (refl, refl)

pub tokenless_none : (l : List FieldSort) (fs : List Field) → tokenless l ≡ true → FitsLayout l fs → (all_nodes fs ≡ 0) × (all_items fs ≡ [])
unfolding tokenless FitsLayout all_nodes all_items
tokenless_none [] [] n h = (refl, refl)
tokenless_none [] (f ∷ fs) n h = absurd h
tokenless_none (a ∷ l) [] n h = absurd h
tokenless_none (a ∷ l) (f ∷ fs) n h =
    let t = both_true (is_tokenless a) (tokenless l) n in
    let x = field-none a f t.0 h.0 in
    let y = tokenless_none l fs t.1 h.1 in
    (omega (arith, x.0, y.0), rw x.1 y.1)

-- ---- terms

pub one_term : (fs : List Field) → FitsLayout (fields.term ∷ []) fs → (t : Term) × (fs ≡ tree t ∷ [])
unfolding FitsLayout
one_term [] h = absurd h
one_term (f ∷ []) h = (h.0.0, ap (λ (g : Field). g ∷ []) h.0.1)
one_term (f ∷ (g ∷ fs)) h = absurd h.1

pub two_terms : (fs : List Field) → FitsLayout (fields.ordinary ∷ fields.term ∷ fields.term ∷ []) fs → (n : ℕ) × (t : Term) × (u : Term) × (fs ≡ value n ∷ tree t ∷ tree u ∷ [])
unfolding FitsLayout
two_terms [] h = absurd h
two_terms (f ∷ []) h = absurd h.1
two_terms (f ∷ (g ∷ [])) h = absurd h.1.1
two_terms (f ∷ (g ∷ (i ∷ []))) h = (h.0.0, h.1.0.0, h.1.1.0.0, rw (h.0.1, h.1.0.1, h.1.1.0.1) refl)
two_terms (f ∷ (g ∷ (i ∷ (j ∷ fs)))) h = absurd h.1.1.1

pub second_code : (l : List FieldSort) (fs : List Field) → FitsLayout (fields.ordinary ∷ fields.code ∷ l) fs → number_at 1 fs < 32
unfolding FitsLayout nth number_of
second_code l [] h = absurd h
second_code l (f ∷ []) h = absurd h.1
second_code l (f ∷ (g ∷ fs)) h = rw h.1.0.1 h.1.0.2

-- ---- an order of the session

-- what reading gives: formed terms, and what is requested is what a fallback, which is a builtin's code, or a range requests
abbrev pub FormedCommand : Command → Type 0
FormedCommand (orders.variable site slot) = Unit {0}
FormedCommand (orders.number site r) = RequestMade r × (r.fallback < 32)
FormedCommand (orders.hole site) = Unit {0}
FormedCommand (orders.defer t) = Formed t
FormedCommand (orders.pair d k t u) = Formed t × Formed u
FormedCommand (orders.resolving t) = Formed t
FormedCommand orders.numbers = Unit {0}
FormedCommand orders.nevers = Unit {0}
FormedCommand orders.revision = Unit {0}
FormedCommand (orders.unread r) = Unit {0}

-- f makes the command of fields of the layout l
pub record Made (l : List FieldSort) (f : List Field → Command) : Type 0 where
  -- its terms are formed, and what it requests is what a fallback or a range requests
  pub read : (n : ℕ) (fs : List Field) → FitsLayout l fs → FormedFields n fs → FormedCommand (f fs)
  -- with more nodes than the limit it is refused
  pub crowded : (lim : Limits) (z : Session) (fs : List Field) → FitsLayout l fs → FormedFields (issued z) fs → z.kept ≤ lim.nodes → lim.nodes < z.kept + all_nodes fs
      → solve lim z (f fs) ≡ record { session = z; answer = refusal 7 }

-- one without tokens has no node
uncrowded : {A : Type 0} (l : List FieldSort) → tokenless l ≡ true → (lim : Limits) (z : Session) (fs : List Field) → FitsLayout l fs → z.kept ≤ lim.nodes → lim.nodes < z.kept + all_nodes fs → A
uncrowded l n lim z fs fit g h = absurd (omega (arith, (tokenless_none l fs n fit).0))

variable_made : Made (layout rows.variable) (λ fs. orders.variable (number_at 0 fs) (number_at 1 fs))
unfolding layout tokenless is_tokenless is_number nth number_of
variable_made = record { read = λ n fs fit formed. tt; crowded = λ lim z fs fit formed g h. uncrowded (layout rows.variable) refl lim z fs fit g h }

number_made : Made (layout rows.number_variable) (λ fs. orders.number (number_at 0 fs) (requested (number_at 1 fs)))
unfolding layout tokenless is_tokenless is_number nth number_of
number_made = record {
  read = λ n fs fit formed. (inl refl, second_code [] fs fit);
  crowded = λ lim z fs fit formed g h. uncrowded (layout rows.number_variable) refl lim z fs fit g h;
}

-- what a range requests
between_made : (c : ℕ) (x y : Option Bound) (r : Request) → between c x y ≡ some r → RequestMade r × (r.fallback ≡ c)
unfolding between
between_made c none y r e = none-some e
between_made c (some low) none r e = none-some e
between_made c (some low) (some high) r e =
    let f = (range_made c low high r e).0 in
    (inr (low, high, ap (λ (d : ℕ). request_of d low high) f ∙ e), f)

asking_made : (site c : ℕ) (x y : Option Bound) → c < 32 → FormedCommand (asking site (between c x y))
unfolding asking
asking_made site c x y l = go (between c x y) refl
  where
    go : (o : Option Request) → between c x y ≡ o → FormedCommand (asking site o)
    go none e = tt
    go (some r) e = let m = between_made c x y r e in (m.0, omega (arith, m.1))

range_variable_made : Made (layout rows.range_variable) (λ fs. asking (number_at 0 fs) (between (number_at 1 fs) (fields.bound_at 2 fs) (fields.bound_at 3 fs)))
unfolding layout tokenless is_tokenless is_number
range_variable_made = record {
  read = λ n fs fit formed. asking_made (number_at 0 fs) (number_at 1 fs) (fields.bound_at 2 fs) (fields.bound_at 3 fs) (second_code (fields.bound ∷ fields.bound ∷ []) fs fit);
  crowded = λ lim z fs fit formed g h. uncrowded (layout rows.range_variable) refl lim z fs fit g h;
}

hole_made : Made (layout rows.annotation_hole) (λ fs. orders.hole (number_at 0 fs))
unfolding layout tokenless is_tokenless is_number nth number_of
hole_made = record { read = λ n fs fit formed. tt; crowded = λ lim z fs fit formed g h. uncrowded (layout rows.annotation_hole) refl lim z fs fit g h }

-- without fields
bare_made : (c : Command) → FormedCommand c → Made [] (λ fs. c)
unfolding tokenless
bare_made c r = record { read = λ n fs fit formed. r; crowded = λ lim z fs fit formed g h. uncrowded [] refl lim z fs fit g h }

defer_made : Made (layout rows.defer_never) (λ fs. orders.defer (fields.term_at 0 fs))
unfolding layout tokenless is_tokenless is_number nth term_of FormedFields all_nodes nodes order answer_of
defer_made = record {
  read = λ n fs fit formed. let t = one_term fs fit in let g = rw t.1 at formed in rw t.1 g.0.formed;
  crowded = λ lim z fs fit formed k h.
      let t = one_term fs fit in
      let g = rw t.1 at formed in
      let i : lim.nodes < z.kept + size t.0 = omega (arith, rw t.1 at h) in
      rw (t.1, within_known z t.0 g.0.below, lt-ltb lim.nodes (z.kept + size t.0) i) refl;
}

resolve_made : Made (layout rows.resolve) (λ fs. orders.resolving (fields.term_at 0 fs))
unfolding layout tokenless is_tokenless is_number nth term_of FormedFields all_nodes nodes order answer_of
resolve_made = record {
  read = λ n fs fit formed. let t = one_term fs fit in let g = rw t.1 at formed in rw t.1 g.0.formed;
  crowded = λ lim z fs fit formed k h.
      let t = one_term fs fit in
      let g = rw t.1 at formed in
      let i : lim.nodes < z.kept + size t.0 = omega (arith, rw t.1 at h) in
      rw (t.1, within_known z t.0 g.0.below, lt-ltb lim.nodes (z.kept + size t.0) i) refl;
}

pair_made : (d : Bool) → Made (fields.ordinary ∷ fields.term ∷ fields.term ∷ []) (λ fs. orders.pair d (number_at 0 fs) (fields.term_at 1 fs) (fields.term_at 2 fs))
unfolding layout tokenless is_tokenless is_number nth term_of number_of FormedFields all_nodes nodes order answer_of
pair_made d = record {
  read = λ n fs fit formed. let t = two_terms fs fit in let g = rw t.3 at formed in rw t.3 (g.1.0.formed, g.1.1.0.formed);
  crowded = λ lim z fs fit formed k h.
      let t = two_terms fs fit in
      let g = rw t.3 at formed in
      let i : lim.nodes < z.kept + (size t.1 + size t.2) = omega (arith, rw t.3 at h) in
      rw (t.3, within_known z t.1 g.1.0.below, within_known z t.2 g.1.1.0.below, lt-ltb lim.nodes (z.kept + (size t.1 + size t.2)) i) refl;
}

-- ---- every order

abbrev pub MadeBy : List FieldSort → Act → Type 0
MadeBy l (tells f) = Made l f
MadeBy l (answers f) = Unit {0}

abbrev All : List Row → Type 0
All [] = Unit {0}
All (r ∷ rs) = MadeBy (layout r) r.act × All rs

all_made : All session_orders
unfolding session_orders layout
all_made =
    (variable_made, (number_made, (hole_made, (defer_made, (pair_made false, (resolve_made, (bare_made orders.numbers tt, (bare_made orders.nevers tt, (bare_made orders.revision tt, (range_variable_made, (pair_made true, tt)))))))))))

found : (rs : List Row) → All rs → (k : ℕ) (r : Row) → row_in rs k ≡ some r → MadeBy (layout r) r.act
unfolding row_in
found [] x k r e = let z : ◌≡◌ {A = ℕ} 0 1 = cc in absurd (omega arith)
found (a ∷ rs) x k r e = go (eqb k a.number) (found rs x.1 k r) e
  where
    go : (b : Bool) → (row_in rs k ≡ some r → MadeBy (layout r) r.act) → pick b (some a) (row_in rs k) ≡ some r → MadeBy (layout r) r.act
    go true more e = let f : a ≡ r = cc in subst (λ (q : Row). MadeBy (layout q) q.act) f x.0
    go false more e = more e

pub session_made : (k : ℕ) (r : Row) → row_in session_orders k ≡ some r → MadeBy (layout r) r.act
session_made = found session_orders all_made

pub row_made : (k : ℕ) (r : Row) → row_in table k ≡ some r → MadeBy (layout r) r.act
row_made k r e = go r.act refl
  where
    go : (a : Act) → r.act ≡ a → MadeBy (layout r) r.act
    go (tells f) h = session_made k r (session_row k r f e h)
    go (answers f) h = rw h tt

-- ---- refusal 7

pub crowds : (lim : Limits) (z : Session) (k : ℕ) (r : Row) → row_in table k ≡ some r → z.kept ≤ lim.nodes → (fs : List Field) → FitsLayout (layout r) fs → FormedFields (rows.known r (issued z)) fs
    → lim.nodes < z.kept + all_nodes fs → step lim z r fs ≡ record { session = z; answer = refusal 7 }
unfolding step rows.known
crowds lim z k r e g fs fit formed h = go r.act (row_made k r e) formed
  where
    go : (a : Act) → MadeBy (layout r) a → FormedFields (known_by a (issued z)) fs → perform lim z fs a ≡ record { session = z; answer = refusal 7 }
    go (tells f) m w = m.crowded lim z fs fit w g h
    go (answers f) m w = rw (lt-ltb lim.nodes (z.kept + all_nodes fs) h) refl

-- The table of orders: what holds of every row is a test that is computed over the table.
use mathlib.Core.Path.{◌≡◌, refl, sym, ap, ◌∙◌}
use mathlib.Core.Bool.{Bool, true, false, not, ◌&&◌, ◌||◌}
use mathlib.Core.List.{List, [], ◌∷◌, ◌++◌}
use mathlib.Core.Logic.{◌⊎◌, inl, inr}
use mathlib.Core.Option.{Option, none, some}
use Prim.Native.Nat.{ℕ, ◌+◌, ◌≤◌, ◌<◌}
use native.Mathlib.Decide.{ℕ_discrete}
use native.Mathlib.Omega.{arith}
use borrow.Author.Tests.{eqb-true, eq-eqb, ne_eqb, leb-true}
use lib.Dec.{eqb, leb}
use lib.ListN.{length}
use Rattle.solver.specs.Terms.Result.{pick}
use Rattle.solver.proofs.Terms.Bools.{never_true, never_false}
use Rattle.solver.proofs.Terms.KindTableLaws.{both_true}
use Rattle.sheet.specs.Fields as fields
use Rattle.sheet.specs.Fields.{FieldSort, Field}
use Rattle.solver.specs.Orders.{Command}
use Rattle.sheet.specs.OrderTable.{Answer, Act, tells, answers, Row, session_orders, row_in, layout}
use Rattle.sheet.specs.Operations.{operations}
use Rattle.sheet.specs.Sheet.{table}
use Rattle.sheet.specs.Words.FieldLayout.{is_number, numeric, is_tokenless, tokenless, Plain, Plains, Leading, spares, spare}
use Rattle.sheet.specs.Words.OrderKinds.{answers_by, is_operation, Among, plain_orders, numbers_of}

-- ---- rows

some_same : {A : Type 0} {a b : A} → some a ≡ some b → a ≡ b
some_same e = cc

pub none-some : {A B : Type 0} {a : A} → ◌≡◌ {A = Option A} none (some a) → B
none-some e = let z : ◌≡◌ {A = ℕ} 0 1 = cc in absurd (omega arith)

-- a test that every row passes
unfoldable pub all : (Row → Bool) → List Row → Bool
all f [] = true
all f (r ∷ rs) = f r && all f rs

pub row_passes : (f : Row → Bool) (rs : List Row) → all f rs ≡ true → (k : ℕ) (r : Row) → row_in rs k ≡ some r → f r ≡ true
unfolding all row_in
row_passes f [] h k r e = none-some e
row_passes f (x ∷ rs) h k r e = go (eqb k x.number) (row_passes f rs (both_true (f x) (all f rs) h).1 k r) e
  where
    go : (b : Bool) → (row_in rs k ≡ some r → f r ≡ true) → pick b (some x) (row_in rs k) ≡ some r → f r ≡ true
    go true more e = let g : x ≡ r = some_same e in rw (← g) (both_true (f x) (all f rs) h).0
    go false more e = more e

pub row_number : (rs : List Row) (k : ℕ) (r : Row) → row_in rs k ≡ some r → k ≡ r.number
unfolding row_in
row_number [] k r e = none-some e
row_number (x ∷ rs) k r e = go (eqb k x.number) refl (row_number rs k r) e
  where
    go : (b : Bool) → eqb k x.number ≡ b → (row_in rs k ≡ some r → k ≡ r.number) → pick b (some x) (row_in rs k) ≡ some r → k ≡ r.number
    go true h more e = let g : x ≡ r = some_same e in eqb-true k x.number h ∙ ap (λ (y : Row). y.number) g
    go false h more e = more e

-- a number that is none of some, each asked after the one before it: A is what was known before
abbrev pub NoneOf : Type 0 → List ℕ → ℕ → Type 0
NoneOf A [] k = A
NoneOf A (n ∷ ns) k = NoneOf (A × (k ≡ n → ⊥)) ns k

none_before : (A : Type 0) (ns : List ℕ) (k : ℕ) → NoneOf A ns k → A
none_before A [] k h = h
none_before A (n ∷ ns) k h = (none_before (A × (k ≡ n → ⊥)) ns k h).0

-- no row has it
row-none : (A : Type 0) (rs : List Row) (k : ℕ) → NoneOf A (numbers_of rs) k → row_in rs k ≡ none
unfolding row_in
row-none A [] k h = refl
row-none A (x ∷ rs) k h =
    ap (λ (b : Bool). pick b (some x) (row_in rs k)) (ne_eqb k x.number (none_before (A × (k ≡ x.number → ⊥)) (numbers_of rs) k h).1)
    ∙ row-none (A × (k ≡ x.number → ⊥)) rs k h

-- rows after others
pub rows_before : (rs ss : List Row) (k : ℕ) (r : Row) → row_in rs k ≡ some r → row_in (rs ++ ss) k ≡ some r
unfolding row_in
rows_before [] ss k r e = none-some e
rows_before (x ∷ rs) ss k r e = go (eqb k x.number) (rows_before rs ss k r) e
  where
    go : (b : Bool) → (row_in rs k ≡ some r → row_in (rs ++ ss) k ≡ some r) → pick b (some x) (row_in rs k) ≡ some r → pick b (some x) (row_in (rs ++ ss) k) ≡ some r
    go true more e = e
    go false more e = more e

pub rows_behind : (rs ss : List Row) (k : ℕ) → row_in rs k ≡ none → row_in (rs ++ ss) k ≡ row_in ss k
unfolding row_in
rows_behind [] ss k e = refl
rows_behind (x ∷ rs) ss k e = go (eqb k x.number) (rows_behind rs ss k) e
  where
    go : (b : Bool) → (row_in rs k ≡ none → row_in (rs ++ ss) k ≡ row_in ss k) → pick b (some x) (row_in rs k) ≡ none → pick b (some x) (row_in (rs ++ ss) k) ≡ row_in ss k
    go true more e = none-some (sym e)
    go false more e = more e

-- every listed order passes a test that the table passes
pub every_row : (f : Row → Bool) → all f table ≡ true → (k : ℕ) (r : Row) → row_in table k ≡ some r → f r ≡ true
every_row f h k r e = row_passes f table h k r e

-- a number that the table has not
pub unlisted : (k : ℕ) → NoneOf (Unit {0}) (numbers_of table) k → row_in table k ≡ none
unlisted k h = row-none (Unit {0}) table k h

-- ---- layouts

pub layout_short : (k : ℕ) (r : Row) → row_in table k ≡ some r → length (layout r) ≤ 5
unfolding table session_orders operations all layout
layout_short k r e = leb-true (length (layout r)) 5 (every_row (λ (r : Row). leb (length (layout r)) 5) refl k r e)

-- no rules
unfoldable plain_sort_lem : FieldSort → Bool
plain_sort_lem fields.rules = false
plain_sort_lem a = true

unfoldable plain_sorts_lem : List FieldSort → Bool
plain_sorts_lem [] = true
plain_sorts_lem (a ∷ l) = plain_sort_lem a && plain_sorts_lem l

plain_sort : (a : FieldSort) → plain_sort_lem a ≡ true → Plain a
unfolding plain_sort_lem Plain
plain_sort fields.rules h = never_true h
plain_sort a h = tt

plain_sorts : (l : List FieldSort) → plain_sorts_lem l ≡ true → Plains l
unfolding plain_sorts_lem Plains
plain_sorts [] h = tt
plain_sorts (a ∷ l) h = let t = both_true (plain_sort_lem a) (plain_sorts_lem l) h in (plain_sort a t.0, plain_sorts l t.1)

-- rules stand first where they stand
unfoldable leading : List FieldSort → Bool
leading [] = true
leading (a ∷ l) = plain_sorts_lem l

leading_of : (l : List FieldSort) → leading l ≡ true → Leading l
unfolding leading Leading
leading_of [] h = tt
leading_of (a ∷ l) h = plain_sorts l h

pub layout_leading : (k : ℕ) (r : Row) → row_in table k ≡ some r → Leading (layout r)
unfolding table session_orders operations all layout leading plain_sorts_lem plain_sort_lem
layout_leading k r e = leading_of (layout r) (every_row (λ (r : Row). leading (layout r)) refl k r e)

-- only order 20 has rules
pub layout_plain : (k : ℕ) (r : Row) → row_in table k ≡ some r → (k ≡ 20 → ⊥) → Plains (layout r)
unfolding table session_orders operations all layout plain_sorts_lem plain_sort_lem
layout_plain k r e h = go (eqb r.number 20) refl (every_row (λ (r : Row). eqb r.number 20 || plain_sorts_lem (layout r)) refl k r e)
  where
    go : (b : Bool) → eqb r.number 20 ≡ b → (b || plain_sorts_lem (layout r)) ≡ true → Plains (layout r)
    go true n t = absurd (h (row_number table k r e ∙ eqb-true r.number 20 n))
    go false n t = plain_sorts (layout r) t

pub layout_ruled : (k : ℕ) (r : Row) → row_in table k ≡ some r → k ≡ 20 → layout r ≡ fields.rules ∷ fields.term ∷ []
unfolding table session_orders operations row_in layout
layout_ruled k r e h = let g = rw h at e in ap layout (sym (some_same g))

-- two bare nominals at most, so eight tokens that no node pays
pub spares_few : (k : ℕ) (r : Row) → row_in table k ≡ some r → spares (layout r) ≤ 8
unfolding table session_orders operations all layout spares spare
spares_few k r e = leb-true (spares (layout r)) 8 (every_row (λ (r : Row). leb (spares (layout r)) 8) refl k r e)

-- ---- what an order does

act_answers : (a : Act) → answers_by a ≡ true → (f : List Field → Answer) × (a ≡ answers f)
act_answers (tells f) h = never_true h
act_answers (answers f) h = (f, refl)

act_tells : (a : Act) → answers_by a ≡ false → (f : List Field → Command) × (a ≡ tells f)
act_tells (tells f) h = (f, refl)
act_tells (answers f) h = never_false h

operation_row : (k : ℕ) (r : Row) (b : Bool) → row_in table k ≡ some r → b ≡ is_operation (row_in table k) → answers_by r.act ≡ b
operation_row k r b e h = sym (h ∙ ap is_operation e)

pub operation_act : (k : ℕ) (r : Row) → row_in table k ≡ some r → true ≡ is_operation (row_in table k) → (f : List Field → Answer) × (r.act ≡ answers f)
operation_act k r e h = act_answers r.act (operation_row k r true e h)

-- the orders of the session but 3, 4, 5 and 22
abbrev pub Plainly : ℕ → Type 0
Plainly k = (false ≡ is_operation (row_in table k)) × ((k ≡ 3) → ⊥) × ((eqb k 4 || eqb k 22) ≡ false) × ((k ≡ 5) → ⊥)

-- ---- which orders there are

unfoldable pub within_all : ℕ → ℕ → List ℕ → Bool
within_all low high [] = true
within_all low high (n ∷ ns) = (leb low n && leb n high) && within_all low high ns

-- one of some numbers, but for the first; and the only one
pub among_past : (n k : ℕ) (ns : List ℕ) → (k ≡ n → ⊥) → Among (n ∷ ns) k → Among ns k
among_past n k ns h (inl e) = absurd (h e)
among_past n k ns h (inr x) = x

pub among_only : (n k : ℕ) → Among (n ∷ []) k → k ≡ n
among_only n k (inl e) = e
among_only n k (inr x) = absurd x

-- two and three numbers in a row
pub two : (n k : ℕ) → n ≤ k → k < n + 2 → Among (n ∷ (n + 1) ∷ []) k
two n k l h = go (ℕ_discrete k n)
  where
    go : Dec (k ≡ n) → Among (n ∷ (n + 1) ∷ []) k
    go (yes e) = inl e
    go (no e) = inr (inl (omega (arith, e)))

pub three : (n k : ℕ) → n ≤ k → k < n + 3 → Among (n ∷ (n + 1) ∷ (n + 2) ∷ []) k
three n k l h = go (ℕ_discrete k n)
  where
    inrow : Dec (k ≡ n + 1) → (k ≡ n → ⊥) → Among ((n + 1) ∷ (n + 2) ∷ []) k
    inrow (yes e) f = inl e
    inrow (no e) f = inr (inl (omega (arith, e, f)))

    go : Dec (k ≡ n) → Among (n ∷ (n + 1) ∷ (n + 2) ∷ []) k
    go (yes e) = inl e
    go (no e) = inr (inrow (ℕ_discrete k (n + 1)) e)

-- the last of two, and of three
pub other : (l m k : ℕ) → Among (l ∷ m ∷ []) k → (k ≡ l → ⊥) → k ≡ m
other l m k x h = among_only m k (among_past l k (m ∷ []) h x)

pub third : (l m n k : ℕ) → Among (l ∷ m ∷ n ∷ []) k → (k ≡ l → ⊥) → (k ≡ m → ⊥) → k ≡ n
third l m n k x h i = other m n k (among_past l k (m ∷ n ∷ []) h x) i

-- the numbers of some are within bounds
pub among_within : (low high k : ℕ) (ns : List ℕ) → within_all low high ns ≡ true → Among ns k → (low ≤ k) × (k ≤ high)
unfolding within_all
among_within low high k [] h x = absurd x
among_within low high k (n ∷ ns) h (inl e) =
    let t = both_true (leb low n && leb n high) (within_all low high ns) h in
    let u = both_true (leb low n) (leb n high) t.0 in
    (omega (arith, leb-true low n u.0), omega (arith, leb-true n high u.1))
among_within low high k (n ∷ ns) h (inr x) = among_within low high k ns (both_true (leb low n && leb n high) (within_all low high ns) h).1 x

unfoldable elem : ℕ → List ℕ → Bool
elem k [] = false
elem k (n ∷ ns) = eqb k n || elem k ns

elem_among : (k : ℕ) (ns : List ℕ) → elem k ns ≡ true → Among ns k
unfolding elem
elem_among k [] h = never_true h
elem_among k (n ∷ ns) h = go (eqb k n) refl (elem_among k ns) h
  where
    go : (b : Bool) → eqb k n ≡ b → (elem k ns ≡ true → Among ns k) → (b || elem k ns) ≡ true → (k ≡ n) ⊎ Among ns k
    go true e more h = inl (eqb-true k n e)
    go false e more h = inr (more h)

pub operations_within : (k : ℕ) → Among (numbers_of operations) k → (9 ≤ k) × (k ≤ 20)
unfolding operations within_all
operations_within k x = among_within 9 20 k (numbers_of operations) refl x

pub operations_among : (k : ℕ) (r : Row) → row_in table k ≡ some r → true ≡ is_operation (row_in table k) → Among (numbers_of operations) k
unfolding table session_orders operations all elem
operations_among k r e h =
    let t = every_row (λ (r : Row). not (answers_by r.act) || elem r.number (numbers_of operations)) refl k r e in
    rw (row_number table k r e) (elem_among r.number (numbers_of operations) (rw (operation_row k r true e h) at t))

-- an order that poses no pair
poses_none : (k : ℕ) → (eqb k 4 || eqb k 22) ≡ false → ((k ≡ 4) → ⊥) × ((k ≡ 22) → ⊥)
poses_none k h = (λ e. never_true (sym h ∙ ap (λ (b : Bool). b || eqb k 22) (eq-eqb k 4 e)), λ e. never_true (sym h ∙ ap (λ (b : Bool). eqb k 4 || b) (eq-eqb k 22 e) ∙ or_yes (eqb k 4)))
  where
    or_yes : (b : Bool) → (b || true) ≡ true
    or_yes true = refl
    or_yes false = refl

pub plain_among : (k : ℕ) (r : Row) → row_in table k ≡ some r → Plainly k → Among plain_orders k
unfolding table session_orders operations all elem
plain_among k r e h =
    let t = every_row (λ (r : Row). answers_by r.act || elem r.number (3 ∷ 4 ∷ 5 ∷ 22 ∷ plain_orders)) refl k r e in
    let n = poses_none k h.2 in
    let x : Among (3 ∷ 4 ∷ 5 ∷ 22 ∷ plain_orders) k = rw (row_number table k r e) (elem_among r.number (3 ∷ 4 ∷ 5 ∷ 22 ∷ plain_orders) (rw (operation_row k r false e h.0) at t)) in
    among_past 22 k plain_orders n.1
    (among_past 5 k (22 ∷ plain_orders) h.3 (among_past 4 k (5 ∷ 22 ∷ plain_orders) n.0 (among_past 3 k (4 ∷ 5 ∷ 22 ∷ plain_orders) h.1 x)))

-- they have no tokens
pub plain_act : (k : ℕ) (r : Row) → row_in table k ≡ some r → Plainly k → (f : List Field → Command) × (r.act ≡ tells f) × (tokenless (layout r) ≡ true)
unfolding table session_orders operations all elem layout tokenless is_tokenless is_number
plain_act k r e h =
    let a = act_tells r.act (operation_row k r false e h.0) in
    let t = every_row (λ (r : Row). answers_by r.act || (elem r.number (3 ∷ 4 ∷ 5 ∷ 22 ∷ []) || tokenless (layout r))) refl k r e in
    let u = rw (operation_row k r false e h.0) at t in
    (a.0, a.1, go (elem r.number (3 ∷ 4 ∷ 5 ∷ 22 ∷ [])) refl u)
  where
    go : (b : Bool) → elem r.number (3 ∷ 4 ∷ 5 ∷ 22 ∷ []) ≡ b → (b || tokenless (layout r)) ≡ true → tokenless (layout r) ≡ true
    go false n u = u
    go true n u =
        let x : Among (3 ∷ 4 ∷ 5 ∷ 22 ∷ []) k = rw (row_number table k r e) (elem_among r.number (3 ∷ 4 ∷ 5 ∷ 22 ∷ []) n) in
        let p = poses_none k h.2 in
        absurd (p.1 (third 4 5 22 k (among_past 3 k (4 ∷ 5 ∷ 22 ∷ []) h.1 x) p.0 h.3))

among_elem : (k : ℕ) (ns : List ℕ) → Among ns k → elem k ns ≡ true
unfolding elem
among_elem k [] x = absurd x
among_elem k (n ∷ ns) (inl e) = rw (eq-eqb k n e) refl
among_elem k (n ∷ ns) (inr x) = or_yes (eqb k n) (among_elem k ns x)
  where
    or_yes : (b : Bool) {c : Bool} → c ≡ true → (b || c) ≡ true
    or_yes true e = refl
    or_yes false e = e

-- their first two fields are numbers
pub plain_numeric : (k : ℕ) (r : Row) → row_in table k ≡ some r → Among plain_orders k → numeric 2 (layout r) ≡ true
unfolding table session_orders operations all elem layout numeric is_number
plain_numeric k r e x =
    let t = every_row (λ (r : Row). not (elem r.number plain_orders) || numeric 2 (layout r)) refl k r e in
    rw (← (row_number table k r e), among_elem k plain_orders x) at t

-- ---- the orders of the session

operations_answer : (k : ℕ) (r : Row) → row_in operations k ≡ some r → (f : List Field → Answer) × (r.act ≡ answers f)
unfolding operations all
operations_answer k r e = act_answers r.act (row_passes (λ (r : Row). answers_by r.act) operations refl k r e)

-- an order of the session is one of its rows, and no other
pub session_row : (k : ℕ) (r : Row) (f : List Field → Command) → row_in table k ≡ some r → r.act ≡ tells f → row_in session_orders k ≡ some r
unfolding table
session_row k r f e t = go (row_in session_orders k) refl
  where
    go : (o : Option Row) → row_in session_orders k ≡ o → row_in session_orders k ≡ some r
    go none h =
        let x = operations_answer k r (sym (rows_behind session_orders operations k h) ∙ e) in
        let z : false ≡ true = ap answers_by (sym t ∙ x.1) in
        never_true z
    go (some s) h = h ∙ sym (rows_before session_orders operations k s h) ∙ e

pub session_other : (k : ℕ) (r : Row) → row_in session_orders k ≡ none → row_in table k ≡ some r → (f : List Field → Answer) × (r.act ≡ answers f)
unfolding table
session_other k r h e = operations_answer k r (sym (rows_behind session_orders operations k h) ∙ e)

pub session_listed : (k : ℕ) (r : Row) → row_in session_orders k ≡ some r → row_in table k ≡ some r
unfolding table
session_listed k r e = rows_before session_orders operations k r e

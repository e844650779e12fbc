-- The fields of an order, and what its bytes say of them: document 01, "Sheet".
use Rattle.std.specs.Prelude.{List, [], ◌∷◌, ℕ, zero, suc, ◌+◌, ◌*◌, eqb, leb, ltb, length}
use Rattle.std.proofs.Math.Option.{Option, none, some}
use Rattle.solver.specs.TermTypes.{Parameter}
use Rattle.solver.specs.Terms.Parser.{Parser, got, refused, pick, ◌>>=◌, return, byte, number}
use Rattle.solver.specs.Terms.Shape as shape
use Rattle.solver.specs.Terms.Shape.{ceiling}
use Rattle.solver.specs.Terms.Term.{Term, Parts, end, size, sizes}
use Rattle.solver.specs.Terms.Tree.{unknown, row}
use Rattle.solver.specs.Terms.Reading as reading
use Rattle.solver.specs.Terms.Substitution.{Entry, Receiver}
use Rattle.solver.specs.Terms.Rows as rows
use Rattle.solver.specs.Terms.Rows.{entry_row, receiver_row, argument_row}
use Rattle.solver.specs.Terms.Parameters as order
use Rattle.solver.specs.Terms.Lookup.{Pattern}
use Rattle.solver.specs.Families.{Bound}

-- what a field is
pub data FieldSort : Type 0 where
  -- a site, a slot, k; a builtin's code
  ordinary code : FieldSort
  -- a bound of a range: a sign byte, and a size as two numbers, the high half first
  bound : FieldSort
  term nominal : FieldSort
  -- an owner and a term: the receiver of order 14
  receiver : FieldSort
  -- a count, and so many: entries and receivers of a substitution, parameters, arguments, rules
  entries receivers parameters arguments rules : FieldSort

-- a field, read
pub data Field : Type 0 where
  value : ℕ → Field
  bounded : ℕ → ℕ → Field
  tree : Term → Field
  -- a bare nominal's row
  bare : Parts → Field
  entered : List Entry → Field
  received : List Receiver → Field
  named : List Parameter → Field
  listed : List Term → Field
  ruled : List Pattern → Field

-- "A node is one tagged term": how many a field has
unfoldable pub rule_nodes : List Pattern → ℕ
rule_nodes [] = 0
rule_nodes (r ∷ rs) = sizes r.interface + (size r.receiver + (sizes (argument_row r.arguments) + (size r.value + rule_nodes rs)))

unfoldable pub nodes : Field → ℕ
nodes (value n) = 0
nodes (bounded b n) = 0
nodes (tree t) = size t
nodes (bare ps) = sizes ps
nodes (entered es) = sizes (entry_row es)
nodes (received rs) = sizes (receiver_row rs)
nodes (named ps) = 0
nodes (listed ts) = sizes (argument_row ts)
nodes (ruled rs) = rule_nodes rs

unfoldable pub all_nodes : List Field → ℕ
all_nodes [] = 0
all_nodes (f ∷ fs) = nodes f + all_nodes fs

-- ---- the fields of an order, by their places

-- the i-th
unfoldable pub nth : ℕ → List Field → Field
nth i [] = value 0
nth zero (f ∷ fs) = f
nth (suc i) (f ∷ fs) = nth i fs

-- as a number, a term, the row of a nominal, ..; a field of another sort is 0, Unknown, empty
unfoldable pub number_of : Field → ℕ
number_of (value n) = n
number_of (bounded b n) = 0
number_of (tree t) = 0
number_of (bare ps) = 0
number_of (entered es) = 0
number_of (received rs) = 0
number_of (named ps) = 0
number_of (listed ts) = 0
number_of (ruled rs) = 0

-- "a sign byte (0 or 1 for minus)": none for any other
unfoldable pub signed : ℕ → ℕ → Option Bound
signed b n = pick (leb b 1) (some (record { minus = eqb b 1; size = n })) none

unfoldable pub bound_of : Field → Option Bound
bound_of (bounded b n) = signed b n
bound_of (value n) = none
bound_of (tree t) = none
bound_of (bare ps) = none
bound_of (entered es) = none
bound_of (received rs) = none
bound_of (named ps) = none
bound_of (listed ts) = none
bound_of (ruled rs) = none

unfoldable pub term_of : Field → Term
term_of (tree t) = t
term_of (value n) = unknown
term_of (bounded b n) = unknown
term_of (bare ps) = unknown
term_of (entered es) = unknown
term_of (received rs) = unknown
term_of (named ps) = unknown
term_of (listed ts) = unknown
term_of (ruled rs) = unknown

unfoldable pub row_of : Field → Parts
row_of (bare ps) = ps
row_of (value n) = end
row_of (bounded b n) = end
row_of (tree t) = end
row_of (entered es) = end
row_of (received rs) = end
row_of (named ps) = end
row_of (listed ts) = end
row_of (ruled rs) = end

unfoldable pub entries_of : Field → List Entry
entries_of (entered es) = es
entries_of (value n) = []
entries_of (bounded b n) = []
entries_of (tree t) = []
entries_of (bare ps) = []
entries_of (received rs) = []
entries_of (named ps) = []
entries_of (listed ts) = []
entries_of (ruled rs) = []

unfoldable pub receivers_of : Field → List Receiver
receivers_of (received rs) = rs
receivers_of (value n) = []
receivers_of (bounded b n) = []
receivers_of (tree t) = []
receivers_of (bare ps) = []
receivers_of (entered es) = []
receivers_of (named ps) = []
receivers_of (listed ts) = []
receivers_of (ruled rs) = []

unfoldable pub parameters_of : Field → List Parameter
parameters_of (named ps) = ps
parameters_of (value n) = []
parameters_of (bounded b n) = []
parameters_of (tree t) = []
parameters_of (bare ps) = []
parameters_of (entered es) = []
parameters_of (received rs) = []
parameters_of (listed ts) = []
parameters_of (ruled rs) = []

unfoldable pub arguments_of : Field → List Term
arguments_of (listed ts) = ts
arguments_of (value n) = []
arguments_of (bounded b n) = []
arguments_of (tree t) = []
arguments_of (bare ps) = []
arguments_of (entered es) = []
arguments_of (received rs) = []
arguments_of (named ps) = []
arguments_of (ruled rs) = []

unfoldable pub rules_of : Field → List Pattern
rules_of (ruled rs) = rs
rules_of (value n) = []
rules_of (bounded b n) = []
rules_of (tree t) = []
rules_of (bare ps) = []
rules_of (entered es) = []
rules_of (received rs) = []
rules_of (named ps) = []
rules_of (listed ts) = []

abbrev pub number_at : ℕ → List Field → ℕ
number_at i fs = number_of (nth i fs)

abbrev pub bound_at : ℕ → List Field → Option Bound
bound_at i fs = bound_of (nth i fs)

abbrev pub term_at : ℕ → List Field → Term
term_at i fs = term_of (nth i fs)

-- "at most 200 levels"
abbrev pub levels : ℕ
levels = 200

-- ---- reading, where the variables below `issued` are issued

module _ (s : List ℕ) (issued : ℕ) where
  abbrev pub term_field : Parser Term
  term_field = reading.term s issued levels

  -- a bare nominal stands under the tag 20
  unfoldable pub nominal_field : Parser Parts
  nominal_field = do
    t ← reading.bare s issued levels
    return (row t)

  -- a rule: "interface, receiver, member, arguments, value"
  unfoldable pub rule : Parser Pattern
  rule = do
    i ← nominal_field
    r ← term_field
    m ← number s (ceiling shape.definition)
    n ← reading.count s
    ts ← rows.arguments s term_field n
    v ← term_field
    return (record { interface = i; receiver = r; member = m; arguments = ts; value = v })

  unfoldable pub rule_list : ℕ → Parser (List Pattern)
  rule_list zero = return []
  rule_list (suc n) = do
    r ← rule
    rs ← rule_list n
    return (r ∷ rs)

  unfoldable pub field : FieldSort → Parser Field
  field ordinary = do
    n ← number s (ceiling shape.ordinary)
    return (value n)
  field code = do
    c ← reading.code s 32
    return (value c)
  -- "each bound a sign byte (0 or 1 for minus) and two numbers, high half first"
  field bound = do
    b ← byte s
    h ← number s (ceiling shape.ordinary)
    l ← number s (ceiling shape.ordinary)
    return (bounded b (h * 4294967296 + l))
  field term = do
    t ← term_field
    return (tree t)
  field nominal = do
    ps ← nominal_field
    return (bare ps)
  field receiver = do
    rs ← rows.receivers s term_field 1
    return (received rs)
  field entries = do
    n ← reading.count s
    es ← rows.entries s term_field n
    return (entered es)
  field receivers = do
    n ← reading.count s
    rs ← rows.receivers s term_field n
    return (received rs)
  field parameters = do
    n ← reading.count s
    ps ← order.parameters s n
    return (named ps)
  field arguments = do
    n ← reading.count s
    ts ← rows.arguments s term_field n
    return (listed ts)
  field rules = do
    n ← reading.count s
    rs ← rule_list n
    return (ruled rs)

  unfoldable pub fields : List FieldSort → Parser (List Field)
  fields [] = return []
  fields (a ∷ l) = do
    f ← field a
    fs ← fields l
    return (f ∷ fs)

-- "or has bytes after its last field": refusal 1
abbrev pub last : {A : Type 0} → List ℕ → A → Parser A
last s a at = pick (ltb at (length s)) (refused 1) (got a at)

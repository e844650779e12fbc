-- The lists that a substitution and a family have in an order's bytes: entries as owner, position, term; receivers as owner, term; arguments as terms.
-- In the areas each list is a row of parts, in byte order.
use Rattle.std.specs.Prelude.{Bool, false, None, List, [], ◌∷◌, ℕ, zero, suc, ◌+◌, ◌-◌, leb, length}
use Rattle.terms.specs.declared.Fields.{Fields}
use Rattle.terms.specs.declared.Place.{Place}
use Rattle.terms.specs.Parser.{Parser, Result, got, refused, pick, ◌>>=◌, return, number}
use Rattle.terms.specs.Words.Tokens.{Area, puts, blank}
use Rattle.terms.specs.Words.ReadContract.{Step, Next, Stopped}
use Rattle.terms.specs.Term.{Term, Parts, end, num, sub, part_items, sizes}
use Rattle.terms.specs.Reading.{◌then◌}
use Rattle.terms.specs.Words.RowPieces.{fields}
use Rattle.terms.specs.Shape.{definition, ordinary, ceiling}
use Rattle.terms.specs.Substitution.{Entry, Receiver}

-- ---- reading n of them

module _ (s : List ℕ) (term : Parser Term) where
  unfoldable pub entries : ℕ → Parser (List Entry)
  entries zero = return []
  entries (suc n) = do
    o ← number s (ceiling definition)
    q ← number s (ceiling ordinary)
    t ← term
    es ← entries n
    return (record { parameter = record { owner = o; position = q }; term = t } ∷ es)

  unfoldable pub receivers : ℕ → Parser (List Receiver)
  receivers zero = return []
  receivers (suc n) = do
    o ← number s (ceiling definition)
    t ← term
    rs ← receivers n
    return (record { owner = o; term = t } ∷ rs)

  unfoldable pub arguments : ℕ → Parser (List Term)
  arguments zero = return []
  arguments (suc n) = do
    t ← term
    ts ← arguments n
    return (t ∷ ts)

-- ---- their rows

unfoldable pub entry_row : List Entry → Parts
entry_row [] = end
entry_row (e ∷ es) = num e.parameter.owner (num e.parameter.position (sub e.term (entry_row es)))

unfoldable pub receiver_row : List Receiver → Parts
receiver_row [] = end
receiver_row (r ∷ rs) = num r.owner (sub r.term (receiver_row rs))

unfoldable pub argument_row : List Term → Parts
argument_row [] = end
argument_row (t ∷ ts) = sub t (argument_row ts)

-- ---- the code's one walk: so many records, each of the numbers that the fields say and a term

-- which numbers an entry, a receiver and an argument have before their term
abbrev pub keys : Bool → Bool → Fields
keys first second = record { codes = None; first = first; second = second; counted = false; terms = 0 }

module _ (s : List ℕ) (term : Parser Term) (f : Fields) where
  unfoldable pub single : Parser Parts
  single = fields s f then (term >>= λ t. return (sub t end))

  unfoldable pub records : ℕ → Parser Parts
  records zero = return end
  records (suc n) = single then records n

-- ---- what is offered: a list read and kept as the row f gives, or nothing

-- the answer, from what the definition finds at the place
abbrev pub answer_of : {A : Type 0} → (A → Parts) → Place → Result A → Step
answer_of f p (got a n) = Next (record { at = n; top = p.top + length (part_items (f a)); nodes = p.nodes + sizes (f a); limit = p.limit })
answer_of f p (refused c) = Stopped c

-- The areas after it, as `kept` has them for a term: the row where the nodes are within the limit, and else its part cleared; on a refusal a token for
-- each byte left and one more is cleared.
abbrev pub kept_of : {A : Type 0} → (A → Parts) → List ℕ → Place → Result A → Area → Area
kept_of f s p (got a n) d = pick (leb (p.nodes + sizes (f a)) p.limit) (puts d p.top (part_items (f a))) (blank d p.top (length (part_items (f a))))
kept_of f s p (refused c) d = blank d p.top (length s - p.at + 1)

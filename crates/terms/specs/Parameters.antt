-- Parameters in the bytes of an order: each an owner and a position. They have no node and may be many, so they are not stored: they are looked
-- for where they stand.
use Rattle.std.specs.Prelude.{Bool, true, false, List, [], ◌∷◌, ℕ, zero, suc, ◌+◌, Option, Some, None, Ok, Err}
use Rattle.std.specs.declared.result.Result as rust
use Rattle.terms.specs.declared.Parameters.{Parameters}
use Rattle.terms.specs.declared.Refusal.{Refusal}
use Rattle.terms.specs.Result.{number_of}
use Rattle.terms.specs.Parser.{Result, Parser, got, refused, pick, ◌>>=◌, return, number}
use Rattle.terms.specs.Shape.{definition, ordinary, ceiling}
use Rattle.terms.specs.Questions.{Parameter, same_parameter}

module _ (s : List ℕ) where
  -- one parameter
  unfoldable pub parameter : Parser Parameter
  parameter = do
    o ← number s (ceiling definition)
    q ← number s (ceiling ordinary)
    return (record { owner = o; position = q })

  -- n parameters
  unfoldable pub parameters : ℕ → Parser (List Parameter)
  parameters zero = return []
  parameters (suc n) = do
    p ← parameter
    ps ← parameters n
    return (p ∷ ps)

-- those that are told of
abbrev pub listed : Parameters → Result (List Parameter)
listed l = parameters l.bytes.now l.count l.at

-- the index of the last one that equals p, where the first has the index n and `best` was found before
unfoldable pub last_from : ℕ → Option ℕ → List Parameter → Parameter → Option ℕ
last_from n best [] p = best
last_from n best (q ∷ qs) p = last_from (n + 1) (pick (same_parameter q p) (Some n) best) qs p

abbrev pub last_index : List Parameter → Parameter → Option ℕ
last_index ps p = last_from 0 None ps p

-- what is found among the parameters that the bytes have, and the position after them
abbrev pub passed : ℕ → Option ℕ → Result (List Parameter) → Parameter → Result (Option ℕ)
passed n best (got ps next) p = got (last_from n best ps p) next
passed n best (refused c) p = refused c

-- what is found among them: nothing where they cannot be read
abbrev pub index_in : Result (List Parameter) → Parameter → Option ℕ
index_in (got ps next) p = last_index ps p
index_in (refused c) p = None

-- so many, and the position after them
abbrev pub past : ℕ → Result (List Parameter) → Result ℕ
past count (got ps next) = got count next
past count (refused c) = refused c

-- what a reader that goes past so many answers: the position after them, or a refusal
abbrev pub skipped : ℕ → rust.Result ℕ Refusal → Result ℕ
skipped count (Ok next) = got count next
skipped count (Err e) = refused (number_of e)

-- whether something was found
abbrev pub is_found : Option ℕ → Bool
is_found (Some i) = true
is_found None = false

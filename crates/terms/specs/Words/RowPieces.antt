-- The pieces in which the code reads a plain row: the laws say that the pieces one after another are the row.
use Rattle.std.specs.Prelude.{ℕ, Bool, Option, Some, None, not, ◌&&◌, List, eqb}
use Rattle.terms.specs.declared.Fields.{Fields}
use Rattle.terms.specs.Parser.{Parser, pick, ◌>>=◌, return, number}
use Rattle.terms.specs.Term.{Term, Parts, end, num}
use Rattle.terms.specs.Shape.{definition, ordinary, ceiling}
use Rattle.terms.specs.Reading.{◌then◌, code, count, many}

-- whether a plain row ends after its fields
abbrev pub termless : Fields → Bool
termless f = not f.counted && eqb f.terms 0

module _ (s : List ℕ) where
  -- a code below a limit, where there is one
  unfoldable pub coded : Option ℕ → Parser Parts
  coded None = return end
  coded (Some limit) = code s limit >>= λ c. return (num c end)

  -- a number of at most `most` where one is wanted
  unfoldable pub numbered : ℕ → Bool → Parser Parts
  numbered most wanted = pick wanted (number s most >>= λ n. return (num n end)) (return end)

  -- what stands before the terms
  unfoldable pub fields : Fields → Parser Parts
  fields f = coded f.codes then (numbered (ceiling definition) f.first then numbered (ceiling ordinary) f.second)

  module _ (term : Parser Term) where
    -- a count and as many terms, where they are wanted
    unfoldable pub listed : Bool → Parser Parts
    listed wanted = pick wanted (count s >>= λ n. many s term n >>= λ ps. return (num n ps)) (return end)

-- Which numbers and terms follow each tag: the table of the twenty kinds.
use Rattle.std.specs.Prelude.{ℕ, zero, suc, Bool, true, false, Option, Some, None, List, [], ◌∷◌, get_or, ltb, eqb}
use Rattle.terms.specs.Result.{pick}
use Rattle.terms.specs.declared.Fields.{Fields}
use Rattle.terms.specs.declared.Row.{Row}
use Rattle.terms.specs.declared.Row.TheVariants.{Plain, Nominal, Projection}
use Rattle.terms.specs.declared.Kind.{Kind}
use Rattle.terms.specs.declared.Kind.TheVariants.{Variable, Node, Unlisted}

-- Numbers are of two sorts, by their ceiling: declarations, members, owners and the numbers of Host and SelfType name definitions; counts,
-- positions and the ids of variables are ordinary.
pub data Sort : Type 0 where
  definition : Sort
  ordinary : Sort

abbrev pub ceiling : Sort → ℕ
ceiling definition = 4294967295
ceiling ordinary = 4294967295

-- what follows, in order: a code byte below a limit, a number of a sort, a term, a count with as many terms, a count with as many pairs of a
-- member and a term, the members strictly rising
pub data Shape : Type 0 where
  done : Shape
  code : ℕ → Shape → Shape
  number : Sort → Shape → Shape
  term : Shape → Shape
  terms : Shape → Shape
  members : Shape → Shape
  -- within a row: a member of at least the second number with its term, and the first number of further ones
  member : ℕ → ℕ → Shape → Shape

abbrev pub nominal : Shape → Shape
nominal s = number definition (terms (members s))

-- what follows the tag of a projection: receiver, interface, member, arguments
abbrev pub projection : Shape
projection = term (nominal (number definition (terms done)))

-- by tag; the last row is a bare nominal, which stands under the tag 20 in the areas and under none in the bytes
abbrev pub layouts : List Shape
layouts =
    code 2 (term done)  -- 0 Reference: access, term
    ∷ done  -- 1 Inference: a variable, and no row
    ∷ done  -- 2 Unknown
    ∷ done  -- 3 Error
    ∷ code 32 done  -- 4 Builtin: code
    ∷ terms done  -- 5 Tuple
    ∷ terms (term done)  -- 6 Function: parameters, result
    ∷ term done  -- 7 Iter
    ∷ code 4 (term done)  -- 8 Range: kind, term
    ∷ term done  -- 9 Array
    ∷ code 2 (term (term done))  -- 10 Map: access, key, value
    ∷ code 2 (term done)  -- 11 Set: access, term
    ∷ nominal done  -- 12 NativeObject
    ∷ nominal done  -- 13 Struct
    ∷ nominal done  -- 14 Enum
    ∷ nominal done  -- 15 Trait
    ∷ number definition done  -- 16 Host
    ∷ number definition (number ordinary done)  -- 17 Generic: owner, position
    ∷ projection  -- 18 Projection
    ∷ number definition done  -- 19 SelfType
    ∷ nominal done  -- 20 a bare nominal
    ∷ []

abbrev pub layout : ℕ → Shape
layout tag = get_or layouts tag done

-- what a tag byte stands for: a variable's number follows, or a row of parts, or the tag is not listed
pub data Meaning : Type 0 where
  variable : Meaning
  row : Shape → Meaning
  unlisted : Meaning

unfoldable pub kind_of : ℕ → Meaning
kind_of tag = pick (eqb tag 1) variable (pick (ltb tag 20) (row (layout tag)) unlisted)

-- What the code's own table says of a tag, as a shape: a code below `codes`, where there is one, then at most two numbers, a count with
-- as many terms, and `terms` terms. The first number names a definition, the second is ordinary.
abbrev pub with_code : Option ℕ → Shape → Shape
with_code None s = s
with_code (Some limit) s = code limit s

abbrev pub with_number : Sort → Bool → Shape → Shape
with_number f true s = number f s
with_number f false s = s

abbrev pub with_count : Bool → Shape → Shape
with_count true s = terms s
with_count false s = s

-- as many terms
unfoldable pub many_terms : ℕ → Shape → Shape
many_terms zero s = s
many_terms (suc n) s = term (many_terms n s)

-- as many members of at least `least`, each with its term
unfoldable pub many_members : ℕ → ℕ → Shape → Shape
many_members zero least s = s
many_members (suc n) least s = member n least s

abbrev pub plain : Fields → Shape
plain f = with_code f.codes (with_number definition f.first (with_number ordinary f.second (with_count f.counted (many_terms f.terms done))))

abbrev pub shape_of : Row → Shape
shape_of (Plain f) = plain f
shape_of Nominal = nominal done
shape_of Projection = projection

abbrev pub meaning : Kind → Meaning
meaning Variable = variable
meaning (Node r) = row (shape_of r)
meaning Unlisted = unlisted

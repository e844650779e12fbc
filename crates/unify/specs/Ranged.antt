-- Number variables: what orders 1 and 21 request of one, as a set of types; what becomes of two requests when their variables meet; what a default takes.
use Rattle.std.specs.Prelude.{◌≡◌, ◌⊎◌, Bool, true, false, ◌&&◌, ◌||◌, cond, List, [], ◌∷◌, ℕ, eqb, leb}
use Rattle.std.proofs.Math.Option.{Option, none, some}

-- ---- types

-- the builtins to which the Rust binds a number variable, and "Builtin codes: 0 to 7 I8 I16 I32 I64 U8 U16 U32 U64, 8 F32, 9 F64"
pub data Numeric : Type 0 where
  I8 I16 I32 I64 U8 U16 U32 U64 F32 F64 : Numeric

unfoldable pub code : Numeric → ℕ
code I8 = 0
code I16 = 1
code I32 = 2
code I64 = 3
code U8 = 4
code U16 = 5
code U32 = 6
code U64 = 7
code F32 = 8
code F64 = 9

-- the type with this code is one of the list
unfoldable pub among : ℕ → List Numeric → Bool
among c [] = false
among c (x ∷ l) = eqb c (code x) || among c l

-- a family: a set of them with at least one, by rising code
pub record Family : Type 0 where
  pub one : Numeric
  pub more : List Numeric

abbrev pub numerics : Family → List Numeric
numerics f = f.one ∷ f.more

-- `admissible`, at a builtin
abbrev pub admits : Family → ℕ → Bool
admits f c = among c (numerics f)

abbrev pub integers : Family
integers = record { one = I8; more = I16 ∷ I32 ∷ I64 ∷ U8 ∷ U16 ∷ U32 ∷ U64 ∷ [] }

abbrev pub floats : Family
floats = record { one = F32; more = F64 ∷ [] }

-- "`floating` means a fallback of F64 only, so F32 counts as integer"
unfoldable pub family_of : ℕ → Family
family_of c = cond (eqb c 9) floats integers

-- those of a list that pass a test; the family of a list
unfoldable pub sieve : (Numeric → Bool) → List Numeric → List Numeric
sieve p [] = []
sieve p (x ∷ l) = cond (p x) (x ∷ sieve p l) (sieve p l)

unfoldable pub gathered : List Numeric → Option Family
gathered [] = none
gathered (x ∷ l) = some (record { one = x; more = l })

-- ---- ranges

-- "each bound a sign byte (0 or 1 for minus) and two numbers, high half first; minus zero reads as zero"
pub record Bound : Type 0 where
  pub minus : Bool
  pub size : ℕ

unfoldable pub below : Bool → ℕ → Bool → ℕ → Bool
below true a true b = leb b a
below true a false b = true
below false a true b = eqb a 0 && eqb b 0
below false a false b = leb a b

-- a is at most b
abbrev pub at_most : Bound → Bound → Bool
at_most a b = below a.minus a.size b.minus b.size

-- the least and the greatest value of a type: floats hold no bound
unfoldable pub lowest : Numeric → Bound
lowest I8 = record { minus = true; size = 128 }
lowest I16 = record { minus = true; size = 32768 }
lowest I32 = record { minus = true; size = 2147483648 }
lowest I64 = record { minus = true; size = 9223372036854775808 }
lowest U8 = record { minus = false; size = 0 }
lowest U16 = record { minus = false; size = 0 }
lowest U32 = record { minus = false; size = 0 }
lowest U64 = record { minus = false; size = 0 }
lowest F32 = record { minus = false; size = 1 }
lowest F64 = record { minus = false; size = 1 }

unfoldable pub highest : Numeric → Bound
highest I8 = record { minus = false; size = 127 }
highest I16 = record { minus = false; size = 32767 }
highest I32 = record { minus = false; size = 2147483647 }
highest I64 = record { minus = false; size = 9223372036854775807 }
highest U8 = record { minus = false; size = 255 }
highest U16 = record { minus = false; size = 65535 }
highest U32 = record { minus = false; size = 4294967295 }
highest U64 = record { minus = false; size = 18446744073709551615 }
highest F32 = record { minus = false; size = 0 }
highest F64 = record { minus = false; size = 0 }

abbrev pub holds : Bound → Bound → Numeric → Bool
holds low high x = at_most (lowest x) low && at_most high (highest x)

-- ---- requests

pub record Request : Type 0 where
  pub fallback : ℕ
  pub family : Family
  -- a range took part in it
  pub ranged : Bool

-- order 1
abbrev pub requested : ℕ → Request
requested c = record { fallback = c; family = family_of c; ranged = false }

-- with a fallback, and whether a range took part
unfoldable pub joined_as : ℕ → Bool → Option Family → Option Request
joined_as c b none = none
joined_as c b (some f) = some (record { fallback = c; family = f; ranged = b })

-- order 21: none (refusal 13) if low is above high, or no integer type holds both
unfoldable pub request_of : ℕ → Bound → Bound → Option Request
request_of c low high = cond (at_most low high) (joined_as c true (gathered (sieve (holds low high) (numerics integers)))) none

-- A number variable of the first request is bound to one of the second: "the types both admit", and the fallback of the one that is bound
-- (`self.numeric.insert(*other, fallback)`). None if no type is left.
unfoldable pub meet : Request → Request → Option Request
meet r s = joined_as r.fallback (r.ranged || s.ranged) (gathered (sieve (λ x. admits s.family (code x)) (numerics r.family)))

-- "else the first admitted of"
abbrev pub preference : List Numeric
preference = I32 ∷ I64 ∷ U32 ∷ U64 ∷ I8 ∷ U8 ∷ I16 ∷ U16 ∷ []

-- the first of a list that f admits, c where it admits none of them
unfoldable pub first_of : ℕ → Family → List Numeric → ℕ
first_of c f [] = c
first_of c f (x ∷ l) = cond (admits f (code x)) (code x) (first_of c f l)

-- "the fallback if admitted, else .., else the fallback" (the last is not met by Good requests: where a range took part, the end's types are integers)
unfoldable pub chosen : ℕ → Family → ℕ
chosen c f = cond (admits f c) c (first_of c f preference)

-- what a default of r goes by at an end of which o is asked. A range took part where r or the end has one
unfoldable pub ranged_at : Request → Option Request → Bool
ranged_at r none = r.ranged
ranged_at r (some s) = r.ranged || s.ranged

-- what is admitted is read at the end, of r only where nothing is asked of the end
unfoldable pub family_at : Request → Option Request → Family
family_at r none = r.family
family_at r (some s) = s.family

-- the code that a numeric default takes, by the fallback of the variable whose turn it is: where no range took part that one, as the Rust does
unfoldable pub taken : Request → Option Request → ℕ
taken r o = cond (ranged_at r o) (chosen r.fallback (family_at r o)) r.fallback

-- ---- the requests of demand 3's premises

-- every type of the family is an integer
abbrev pub Integral : Family → Type 0
Integral f = (c : ℕ) → admits f c ≡ true → among c preference ≡ true

-- with a range: integers only. Plain: the fallback's family, and the fallback is in it ("fallbacks are integers or F64")
abbrev pub Good : Request → Type 0
Good r =
    ((r.ranged ≡ true) × Integral r.family)
    ⊎ ((r.ranged ≡ false) × (r.family ≡ family_of r.fallback) × (admits (family_of r.fallback) r.fallback ≡ true))

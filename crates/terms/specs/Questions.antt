-- The questions of `TypeId` that look for a term of some kind: one walk, told by a question number which terms count and which it enters.
-- The numbers 0 to 6 are the places of the questions in order 15, 7 is `is_resolved_in`.
use Rattle.std.specs.Prelude.{◌≡◌, ◌⊎◌, Bool, true, false, not, ◌&&◌, ◌||◌, List, [], ◌∷◌, ℕ, zero, suc, eqb, ltb, get_or}
use Rattle.terms.specs.Term.{Term, Parts, var, node, end, num, sub}
use Rattle.terms.specs.Tree.{nums, row, tag}
pub use Rattle.terms.specs.declared.Parameter.{Parameter}
pub use Rattle.terms.specs.declared.Question.{Question}
use Rattle.terms.specs.declared.Question.TheVariants.{IsNever, IsInteger, IsConcrete, IsUnresolved, ContainsUnknown, ContainsSelfType, ContainsProjection, IsResolvedIn}

-- Document 01's number for each question.
abbrev pub number_of_question : Question → ℕ
number_of_question IsNever = 0
number_of_question IsInteger = 1
number_of_question IsConcrete = 2
number_of_question IsUnresolved = 3
number_of_question ContainsUnknown = 4
number_of_question ContainsSelfType = 5
number_of_question ContainsProjection = 6
number_of_question IsResolvedIn = 7

-- ---- the walk

-- whether a term that counts is among those entered from a term on
module _ (counts enters : Term → Bool) where
  unfoldable mutual
    pub meets : Term → Bool
    meets (var v) = counts (var v)
    meets (node k ps) = counts (node k ps) || (enters (node k ps) && meets_row ps)

    pub meets_row : Parts → Bool
    meets_row end = false
    meets_row (num n ps) = meets_row ps
    meets_row (sub t ps) = meets t || meets_row ps

-- "It finds a term exactly if one that counts is among those it enters" (document 02), whatever the question: `finds` of
-- proofs/Laws/Asking/FoundLaws.antt. Among those that are entered from t on are t itself and, where `enters` admits t, those from its children on.
unfoldable mutual
  pub AmongEntered : (enters : Term → Bool) (u t : Term) → Type 0
  AmongEntered enters u (var v) = u ≡ var v
  AmongEntered enters u (node k ps) = (u ≡ node k ps) ⊎ ((enters (node k ps) ≡ true) × AmongEnteredRow enters u ps)

  pub AmongEnteredRow : (enters : Term → Bool) (u : Term) (ps : Parts) → Type 0
  AmongEnteredRow enters u end = ⊥
  AmongEnteredRow enters u (num n ps) = AmongEnteredRow enters u ps
  AmongEnteredRow enters u (sub t ps) = AmongEntered enters u t ⊎ AmongEnteredRow enters u ps

-- one that counts is among them
abbrev pub OneCounts : (counts enters : Term → Bool) (t : Term) → Type 0
OneCounts counts enters t = (u : Term) × AmongEntered enters u t × (counts u ≡ true)

-- ---- which terms count

-- `GenericParameterType` without its name (`Parameter`, an owner and a position): equality goes by both
unfoldable pub same_parameter : Parameter → Parameter → Bool
same_parameter p q = eqb p.owner q.owner && eqb p.position q.position

-- `parameters.contains`
unfoldable pub contains : List Parameter → Parameter → Bool
contains [] p = false
contains (q ∷ qs) p = same_parameter q p || contains qs p

abbrev pub is_empty : List Parameter → Bool
is_empty [] = true
is_empty (q ∷ qs) = false

-- the first and the second number of a term's row: a Builtin's code; a Generic's owner and position
unfoldable pub first : Term → ℕ
first t = get_or (nums (row t)) 0 0

unfoldable pub second : Term → ℕ
second t = get_or (nums (row t)) 1 0

abbrev pub parameter_of : Term → Parameter
parameter_of t = record { owner = first t; position = second t }

unfoldable pub among : ℕ → List ℕ → Bool
among n [] = false
among n (m ∷ ms) = eqb n m || among n ms

-- By its tag and its first two numbers, whether a term counts: 1 Inference, 2 Unknown, 3 Error, 4 Builtin, 17 Generic, 18 Projection, 19 SelfType.
unfoldable pub counted_by : List Parameter → ℕ → ℕ → ℕ → ℕ → Bool
counted_by ps zero k a b = eqb k 4 && eqb a 10
counted_by ps (suc zero) k a b = eqb k 4 && ltb a 8
counted_by ps (suc (suc zero)) k a b = among k (1 ∷ 2 ∷ 3 ∷ 17 ∷ 18 ∷ 19 ∷ [])
counted_by ps (suc (suc (suc zero))) k a b = among k (1 ∷ 2 ∷ 3 ∷ [])
counted_by ps (suc (suc (suc (suc zero)))) k a b = among k (1 ∷ 2 ∷ [])
counted_by ps (suc (suc (suc (suc (suc zero))))) k a b = eqb k 19
counted_by ps (suc (suc (suc (suc (suc (suc zero)))))) k a b = eqb k 18
counted_by ps (suc (suc (suc (suc (suc (suc (suc q))))))) k a b =
    among k (1 ∷ 2 ∷ 3 ∷ 19 ∷ []) || (eqb k 17 && not (contains ps (record { owner = a; position = b })) || eqb k 18 && is_empty ps)

abbrev pub counted : List Parameter → ℕ → Term → Bool
counted ps q t = counted_by ps q (tag t) (first t) (second t)

-- the terms that are entered: none for 0 and 1, for 4 all but projections, else all
unfoldable pub entered_by : ℕ → ℕ → Bool
entered_by zero k = false
entered_by (suc zero) k = false
entered_by (suc (suc zero)) k = true
entered_by (suc (suc (suc zero))) k = true
entered_by (suc (suc (suc (suc zero)))) k = not (eqb k 18)
entered_by (suc (suc (suc (suc (suc q))))) k = true

abbrev pub entered : ℕ → Term → Bool
entered q t = entered_by q (tag t)

-- ---- the questions

abbrev pub asked : List Parameter → ℕ → Term → Bool
asked ps q t = meets (counted ps q) (entered q) t

-- `is_never`
abbrev pub is_never : Term → Bool
is_never t = asked [] 0 t

-- `is_integer`
abbrev pub is_integer : Term → Bool
is_integer t = asked [] 1 t

-- `is_resolved_in`: a projection's receiver is asked first, which is as if it were entered with the rest; without parameters no projection is resolved
abbrev pub is_resolved_in : List Parameter → Term → Bool
is_resolved_in ps t = not (asked ps 7 t)

-- `is_concrete`
abbrev pub is_concrete : Term → Bool
is_concrete t = not (asked [] 2 t)

-- `is_unresolved`
abbrev pub is_unresolved : Term → Bool
is_unresolved t = asked [] 3 t

-- `contains_unknown`: Error does not count, and projections are not entered
abbrev pub contains_unknown : Term → Bool
contains_unknown t = asked [] 4 t

-- `contains_self_type`
abbrev pub contains_self_type : Term → Bool
contains_self_type t = asked [] 5 t

-- `contains_projection`
abbrev pub contains_projection : Term → Bool
contains_projection t = asked [] 6 t

-- the answers of order 15: the question's own, or its contrary for `is_concrete`
unfoldable pub answered : ℕ → Term → Bool
answered q t = pick_not (eqb q 2) (asked [] q t)
  where
    pick_not : Bool → Bool → Bool
    pick_not true b = not b
    pick_not false b = b

-- ---- the questions in words, as the laws have them

-- u is t or stands anywhere in it
abbrev pub Inside : (u t : Term) → Type 0
Inside u t = AmongEntered (λ v. true) u t

-- the same, with no projection around u
abbrev pub UnderNoProjection : (u t : Term) → Type 0
UnderNoProjection u t = AmongEntered (λ v. not (eqb (tag v) 18)) u t

-- what `is_resolved_in` asks of each term: it is no Inference, Unknown, Error or SelfType; a Generic is one of the parameters; where it is a
-- projection there are parameters
abbrev pub KnownIn : List Parameter → Term → Type 0
KnownIn ps u = (among (tag u) (1 ∷ 2 ∷ 3 ∷ 19 ∷ []) ≡ false) × (tag u ≡ 17 → contains ps (parameter_of u) ≡ true) × (tag u ≡ 18 → is_empty ps ≡ false)

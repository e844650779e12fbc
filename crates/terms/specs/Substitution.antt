-- `substitute_once` and its uses.
use Rattle.std.specs.Prelude.{List, [], ◌∷◌, ◌++◌, ℕ, eqb, length}
use Rattle.std.proofs.Math.Option.{Option, none, some}
use Rattle.terms.specs.Result.{pick}
use Rattle.terms.specs.Term.{Term, Parts, var, node, end, num, sub}
use Rattle.terms.specs.Tree.{tag, unknown}
use Rattle.terms.specs.Questions.{Parameter, same_parameter, contains, first, parameter_of}

abbrev pub or_else : Option Term → Option Term → Option Term
or_else none o = o
or_else (some t) o = some t

-- ---- `substitute_once`

abbrev pub or : Option Term → Term → Term
or none t = t
or (some u) t = u

-- a term is replaced by what f gives, as it stands: an inserted term is not substituted again
module _ (f : Term → Option Term) where
  unfoldable mutual
    pub substitute_once : Term → Term
    substitute_once (var v) = or (f (var v)) (var v)
    substitute_once (node k ps) = or (f (node k ps)) (node k (substitute_row ps))

    pub substitute_row : Parts → Parts
    substitute_row end = end
    substitute_row (num n ps) = num n (substitute_row ps)
    substitute_row (sub t ps) = sub (substitute_once t) (substitute_row ps)

-- ---- `TypeSubstitution`, in the order of insertion

pub record Entry : Type 0 where
  pub parameter : Parameter
  pub term : Term

pub record Receiver : Type 0 where
  pub owner : ℕ
  pub term : Term

pub record TypeSubstitution : Type 0 where
  pub parameters : List Entry
  pub receivers : List Receiver

-- `get`: a later entry replaces an earlier one
unfoldable pub get : List Entry → Parameter → Option Term
get [] p = none
get (e ∷ es) p = or_else (get es p) (pick (same_parameter e.parameter p) (some e.term) none)

-- `receiver`
unfoldable pub receiver : List Receiver → ℕ → Option Term
receiver [] o = none
receiver (e ∷ es) o = or_else (receiver es o) (pick (eqb e.owner o) (some e.term) none)

-- `extend`: the further entries come later
abbrev pub extend : TypeSubstitution → List Entry → TypeSubstitution
extend s es = record { parameters = s.parameters ++ es; receivers = s.receivers }

-- ---- the uses

-- `instantiate`: a Generic by the parameters, a SelfType by the receivers
unfoldable pub instantiated : TypeSubstitution → Term → Option Term
instantiated s t = pick (eqb (tag t) 17) (get s.parameters (parameter_of t)) (pick (eqb (tag t) 19) (receiver s.receivers (first t)) none)

abbrev pub instantiate : TypeSubstitution → Term → Term
instantiate s t = substitute_once (instantiated s) t

-- `argument_context`: a Generic by the substitution, else Unknown where it is among the parameters; the receivers are never tried
unfoldable pub contextual : TypeSubstitution → List Parameter → Term → Option Term
contextual s ps t =
    pick (eqb (tag t) 17) (or_else (get s.parameters (parameter_of t)) (pick (contains ps (parameter_of t)) (some unknown) none)) none

abbrev pub argument_context : TypeSubstitution → List Parameter → Term → Term
argument_context s ps t = substitute_once (contextual s ps) t

-- `with_self`
unfoldable pub self_of : ℕ → Term → Term → Option Term
self_of owner u t = pick (eqb (tag t) 19) (pick (eqb (first t) owner) (some u) none) none

abbrev pub with_self : ℕ → Term → Term → Term
with_self owner u t = substitute_once (self_of owner u) t

-- `AssociatedTypeFamily::apply`: the arguments for the family's parameters replace what the substitution has for them; bounds are ignored
unfoldable pub zipped : List Parameter → List Term → List Entry
zipped [] ts = []
zipped (p ∷ ps) [] = []
zipped (p ∷ ps) (t ∷ ts) = record { parameter = p; term = t } ∷ zipped ps ts

unfoldable pub apply : List Parameter → Term → TypeSubstitution → List Term → Option Term
apply ps value s ts = pick (eqb (length ts) (length ps)) (some (instantiate (extend s (zipped ps ts)) value)) none

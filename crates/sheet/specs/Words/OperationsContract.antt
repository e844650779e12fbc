-- What the functions that answer orders 9 to 20 ask and promise.
use Rattle.std.specs.Prelude.{◌≡◌, List, ℕ, length}
use Rattle.solver.specs.TermTypes.{Binders, Parameter, Parameters, Part, Family, Rule}
use Rattle.solver.specs.Terms.Term.{Term, Parts, node, Held}
use Rattle.solver.specs.Terms.Held.{HeldParts}
use Rattle.solver.specs.Terms.Shape as shape
use Rattle.solver.specs.Terms.Formed.{Formed, Fit}
use Rattle.solver.specs.Terms.Substitution.{Entry, Receiver}
use Rattle.solver.specs.Terms.Rows.{argument_row}
use Rattle.solver.specs.Terms.RewriteContract.{HeldBinders}
use Rattle.solver.specs.Terms.Lookup.{Pattern, FormedPatterns, Ruled}
use Rattle.sheet.specs.declared.FieldSpot.{FieldSpot}
use Rattle.sheet.specs.declared.FieldSpots.{FieldSpots}
use Rattle.sheet.specs.declared.Posed.{Posed}
use Rattle.sheet.specs.Fields.{Field}
use Rattle.sheet.specs.OrderTable.{Answer, Row}
use Rattle.sheet.specs.Operations.{operation}
use Rattle.sheet.specs.Words.OrderGiven.{Given}

-- ---- an order

-- an order is given, whose row is k
pub record Asks (ks vs s : List ℕ) (ws : List Rule) (k : Row) (o : FieldSpots) : Type 0 where
  pub known : ℕ
  pub fields : List Field
  pub given : Given ks vs s ws known k o fields

-- whatever it is given as, W holds of its answer
pub record Replies (ks vs s : List ℕ) (ws : List Rule) (k : Row) (o : FieldSpots) (W : Answer → Type 0) : Type 0 where
  pub says : (known : ℕ) (fs : List Field) → Given ks vs s ws known k o fs → W (operation k fs)

-- the same of what is posed; ws are its rules
abbrev pub IsPosed : Posed → List Rule → Row → Type 0
IsPosed p ws k = Asks p.tokens.kinds.now p.tokens.vals.now p.bytes.now ws k p.fields

abbrev pub RepliesTo : Posed → List Rule → Row → (Answer → Type 0) → Type 0
RepliesTo p ws k W = Replies p.tokens.kinds.now p.tokens.vals.now p.bytes.now ws k p.fields W

-- the parameters that a field has
abbrev pub parameters_at : Posed → FieldSpot → Parameters
parameters_at p x = record { bytes = p.bytes; at = x.place; count = x.value }

-- the row that a field has
abbrev pub row_at : FieldSpot → Part
row_at x = record { from = x.place; end = x.end }

-- ---- terms at places

-- two formed terms
pub record Two (ks vs : List ℕ) (a b : ℕ) (t u : Term) : Type 0 where
  pub left : Held ks vs a t
  pub right : Held ks vs b u
  pub left_formed : Formed t
  pub right_formed : Formed u

-- order 18: a term, its binders, and so many arguments
pub record Applies (ks vs : List ℕ) (b : Binders) (l : Parameters) (given a : ℕ) (t : Term) (es : List Entry) (rs : List Receiver) (ps : List Parameter) (ts : List Term) : Type 0 where
  pub held : Held ks vs a t
  pub formed : Formed t
  pub binders : HeldBinders ks vs b es rs ps
  pub from : ℕ
  pub end : ℕ
  pub arguments : HeldParts ks vs from end (argument_row ts)
  pub family : b.purpose ≡ Family l from
  pub many : given ≡ length ts
  pub parameters : l.count ≡ length ps

-- order 19: a term, an interface and the owner
pub record Associates (ks vs : List ℕ) (p i o : ℕ) (t : Term) (ps : Parts) (owner : Term) : Type 0 where
  pub term : Held ks vs p t
  pub interface : Held ks vs i (node 20 ps)
  pub owns : Held ks vs o owner
  pub term_formed : Formed t
  pub interface_fit : Fit (shape.nominal shape.done) ps
  pub owner_formed : Formed owner

-- order 20: rules and a term
pub record Normalises (ks vs : List ℕ) (ws : List Rule) (p : ℕ) (rs : List Pattern) (t : Term) : Type 0 where
  pub rules : Ruled ks vs ws rs
  pub term : Held ks vs p t
  pub rules_formed : FormedPatterns rs
  pub term_formed : Formed t

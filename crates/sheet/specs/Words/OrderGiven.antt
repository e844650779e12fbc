-- An order that was read: its fields are of the sorts that its kind asks, their terms are formed, and all of them are held.
use Rattle.std.specs.Prelude.{◌≡◌, List, [], ◌∷◌, ℕ, ◌<◌}
use Rattle.solver.specs.TermTypes.{Parameter, Rule}
use Rattle.solver.specs.Terms.Term.{Term, Parts}
use Rattle.solver.specs.Terms.Substitution.{Entry, Receiver}
use Rattle.solver.specs.Terms.Lookup.{Pattern}
use Rattle.sheet.specs.declared.FieldSpots.{FieldSpots}
use Rattle.sheet.specs.Fields as fields
use Rattle.sheet.specs.Fields.{FieldSort, Field, value, bounded, tree, bare, entered, received, named, listed, ruled}
use Rattle.sheet.specs.OrderTable.{Row, layout}
use Rattle.sheet.specs.Words.FieldsFormed.{FormedFields}
use Rattle.sheet.specs.Words.FieldsHeld.{HeldFields}

-- a field is of a sort; a code is a builtin's
abbrev pub OfSort : FieldSort → Field → Type 0
OfSort fields.ordinary f = (n : ℕ) × (f ≡ value n)
OfSort fields.code f = (n : ℕ) × (f ≡ value n) × (n < 32)
OfSort fields.bound f = (b : ℕ) × (n : ℕ) × (f ≡ bounded b n)
OfSort fields.term f = (t : Term) × (f ≡ tree t)
OfSort fields.nominal f = (ps : Parts) × (f ≡ bare ps)
OfSort fields.receiver f = (r : Receiver) × (f ≡ received (r ∷ []))
OfSort fields.entries f = (es : List Entry) × (f ≡ entered es)
OfSort fields.receivers f = (rs : List Receiver) × (f ≡ received rs)
OfSort fields.parameters f = (ps : List Parameter) × (f ≡ named ps)
OfSort fields.arguments f = (ts : List Term) × (f ≡ listed ts)
OfSort fields.rules f = (rs : List Pattern) × (f ≡ ruled rs)

-- each is of its sort
unfoldable pub FitsLayout : List FieldSort → List Field → Type 0
FitsLayout [] [] = Unit {0}
FitsLayout [] (f ∷ fs) = ⊥
FitsLayout (a ∷ l) [] = ⊥
FitsLayout (a ∷ l) (f ∷ fs) = OfSort a f × FitsLayout l fs

-- an order whose row is k and whose variables are below `known`
pub record Given (ks vs s : List ℕ) (ws : List Rule) (known : ℕ) (k : Row) (o : FieldSpots) (fs : List Field) : Type 0 where
  pub held : HeldFields ks vs s ws o fs
  pub formed : FormedFields known fs
  pub fits : FitsLayout (layout k) fs

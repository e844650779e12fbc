-- Fields whose terms keep to their tags' layouts, and whose variables are below a number: so are those that the bytes of an order say.
use Rattle.std.specs.Prelude.{List, [], ◌∷◌, ℕ, ◌≤◌, ◌<◌}
use Rattle.solver.specs.Terms.Term.{Term, Parts, AllVars, AllVarsParts}
use Rattle.solver.specs.Terms.Shape as shape
use Rattle.solver.specs.Terms.Shape.{ceiling}
use Rattle.solver.specs.Terms.Formed.{Formed, Fit}
use Rattle.solver.specs.Terms.Substitution.{Entry, Receiver}
use Rattle.solver.specs.Terms.Lookup.{Pattern}
use Rattle.sheet.specs.Fields.{Field, value, bounded, tree, bare, entered, received, named, listed, ruled}

-- a term whose variables are below `known`, and the row of a bare nominal
pub record FormedTree (known : ℕ) (t : Term) : Type 0 where
  pub formed : Formed t
  pub below : AllVars (λ v. v < known) t

pub record FormedBare (known : ℕ) (ps : Parts) : Type 0 where
  pub fit : Fit (shape.nominal shape.done) ps
  pub below : AllVarsParts (λ v. v < known) ps

module _ (known : ℕ) where
  unfoldable pub FormedEntries : List Entry → Type 0
  FormedEntries [] = Unit {0}
  FormedEntries (e ∷ es) = FormedTree known e.term × FormedEntries es

  unfoldable pub FormedReceivers : List Receiver → Type 0
  FormedReceivers [] = Unit {0}
  FormedReceivers (r ∷ rs) = FormedTree known r.term × FormedReceivers rs

  unfoldable pub FormedTrees : List Term → Type 0
  FormedTrees [] = Unit {0}
  FormedTrees (t ∷ ts) = FormedTree known t × FormedTrees ts

  pub record FormedRule (p : Pattern) : Type 0 where
    pub interface : FormedBare known p.interface
    pub receiver : FormedTree known p.receiver
    pub member : p.member ≤ ceiling shape.definition
    pub arguments : FormedTrees p.arguments
    pub value : FormedTree known p.value

  unfoldable pub FormedRules : List Pattern → Type 0
  FormedRules [] = Unit {0}
  FormedRules (p ∷ rs) = FormedRule p × FormedRules rs

  abbrev pub FormedField : Field → Type 0
  FormedField (value n) = n ≤ ceiling shape.ordinary
  FormedField (bounded b n) = Unit {0}
  FormedField (tree t) = FormedTree known t
  FormedField (bare ps) = FormedBare known ps
  FormedField (entered es) = FormedEntries es
  FormedField (received rs) = FormedReceivers rs
  FormedField (named ps) = Unit {0}
  FormedField (listed ts) = FormedTrees ts
  FormedField (ruled rs) = FormedRules rs

  unfoldable pub FormedFields : List Field → Type 0
  FormedFields [] = Unit {0}
  FormedFields (f ∷ fs) = FormedField f × FormedFields fs

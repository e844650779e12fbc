-- The fields of an order as the areas, the order's bytes and its rules hold them.
use Rattle.std.specs.Prelude.{List, ◌≡◌, ℕ, ◌≤◌, length, take}
use Rattle.solver.specs.Terms.Result.{got}
use Rattle.solver.specs.Terms.Term.{node, Held}
use Rattle.solver.specs.Terms.Held.{HeldParts}
use Rattle.solver.specs.Terms.Rows.{entry_row, receiver_row, argument_row}
use Rattle.solver.specs.Terms.Parameters.{parameters}
use Rattle.solver.specs.Terms.Lookup.{Ruled}
use Rattle.solver.specs.TermTypes.{Rule}
use Rattle.sheet.specs.declared.FieldSpot.{FieldSpot}
use Rattle.sheet.specs.declared.FieldSpots.{FieldSpots}
use Rattle.sheet.specs.Fields.{Field, value, bounded, tree, bare, entered, received, named, listed, ruled, nth}

-- s is the order's bytes, ws are its rules
abbrev pub HeldField : (ks vs s : List ℕ) (ws : List Rule) → FieldSpot → Field → Type 0
HeldField ks vs s ws x (value n) = x.value ≡ n
HeldField ks vs s ws x (bounded b n) = (x.value ≡ n) × (x.place ≡ b)
HeldField ks vs s ws x (tree t) = Held ks vs x.place t
HeldField ks vs s ws x (bare ps) = Held ks vs x.place (node 20 ps)
HeldField ks vs s ws x (entered es) = (x.value ≡ length es) × HeldParts ks vs x.place x.end (entry_row es)
HeldField ks vs s ws x (received rs) = (x.value ≡ length rs) × HeldParts ks vs x.place x.end (receiver_row rs)
HeldField ks vs s ws x (named ps) = (x.value ≡ length ps) × ((after : ℕ) × (parameters s x.value x.place ≡ got ps after))
HeldField ks vs s ws x (listed ts) = (x.value ≡ length ts) × HeldParts ks vs x.place x.end (argument_row ts)
HeldField ks vs s ws x (ruled rs) = (x.value ≡ length rs) × (x.value ≤ length ws) × Ruled ks vs (take x.value ws) rs

-- what stands after entries, their receivers, begins where they end
abbrev pub Follows : Field → FieldSpot → FieldSpot → Type 0
Follows (entered es) x y = x.end ≡ y.place
Follows (value n) x y = Unit {0}
Follows (bounded b n) x y = Unit {0}
Follows (tree t) x y = Unit {0}
Follows (bare ps) x y = Unit {0}
Follows (received rs) x y = Unit {0}
Follows (named ps) x y = Unit {0}
Follows (listed ts) x y = Unit {0}
Follows (ruled rs) x y = Unit {0}

-- fields that an order has not are value 0, and so are their spots
pub record HeldFields (ks vs s : List ℕ) (ws : List Rule) (o : FieldSpots) (fs : List Field) : Type 0 where
  pub first : HeldField ks vs s ws o.first (nth 0 fs)
  pub second : HeldField ks vs s ws o.second (nth 1 fs)
  pub third : HeldField ks vs s ws o.third (nth 2 fs)
  pub fourth : HeldField ks vs s ws o.fourth (nth 3 fs)
  pub fifth : HeldField ks vs s ws o.fifth (nth 4 fs)
  pub second_follows : Follows (nth 0 fs) o.first o.second
  pub fourth_follows : Follows (nth 2 fs) o.third o.fourth

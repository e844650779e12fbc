-- What a projection is replaced by, looked up in rows as they stand: a rule's four parts in the order of a projection's row, and order 19's interface as
-- its row. Of terms that keep to their tags' layouts these find what `by_rules` and `by_interface` find.
use Rattle.std.specs.Prelude.{◌≡◌, ◌&&◌, List, [], ◌∷◌, ℕ, eqb, length, get_or}
use Rattle.std.proofs.Math.Option.{Option, none, some}
use Rattle.std.proofs.Math.ListN.{get_elem?}
use Rattle.terms.specs.declared.LookUp.{LookUp}
use Rattle.terms.specs.declared.LookUp.TheVariants.{Rules, Given}
use Rattle.terms.specs.declared.Origin.{Origin}
use Rattle.terms.specs.declared.Rule.{Rule}
use Rattle.terms.specs.Result.{pick}
use Rattle.terms.specs.Term.{Term, Parts, node, end, num, sub, ◌+++◌, items, part_items}
use Rattle.terms.specs.Words.Held.{Held, HeldParts}
use Rattle.terms.specs.Shape.{nominal, done}
use Rattle.terms.specs.Formed.{Formed, Fit, Each}
use Rattle.terms.specs.Tree.{nums, subs, same, same_rows, member_of, arguments_of, put_terms}
use Rattle.terms.specs.Comparison.{no_terms, same_option}
use Rattle.terms.specs.Substitution.{or}
use Rattle.terms.specs.Normal.{only_if, member_from}

-- ---- rules

-- a rule whose interface is a nominal's row
pub record Pattern : Type 0 where
  pub interface : Parts
  pub receiver : Term
  pub member : ℕ
  pub arguments : List Term
  pub value : Term

-- one all of whose parts are formed
pub record FormedPattern (p : Pattern) : Type 0 where
  pub interface : Fit (nominal done) p.interface
  pub receiver : Formed p.receiver
  pub arguments : Each Formed p.arguments
  pub value : Formed p.value

-- each of a list is such a rule
unfoldable pub FormedPatterns : List Pattern → Type 0
FormedPatterns [] = Unit {0}
FormedPatterns (p ∷ rs) = FormedPattern p × FormedPatterns rs

-- the row of the projection that it replaces: receiver, interface, member, count of arguments, and then the arguments
unfoldable pub front : Pattern → Parts → Parts
front p rest = sub p.receiver (p.interface +++ num p.member (num (length p.arguments) rest))

abbrev pub left : Pattern → Parts
left p = front p (put_terms p.arguments end)

-- the first that is equal answers
unfoldable pub by_patterns : List Pattern → Parts → Option Term
by_patterns [] ps = none
by_patterns (p ∷ rs) ps = pick (same_rows (left p) ps) (some p.value) (by_patterns rs ps)

-- ---- order 19

-- the projection made anew
abbrev pub made : Term → Parts → ℕ → Term
made owner i m = node 18 (sub owner (i +++ num m (num 0 end)))

abbrev pub unless : Term → Term → Option Term
unless t u = pick (same u t) none (some u)

-- the interface's term for the member, or the projection made anew
abbrev pub output : Term → Parts → ℕ → Term
output owner i m = or (member_from 0 m i) (made owner i m)

unfoldable pub through : Parts → Term → Parts → Option Term
through i owner ps =
    only_if (no_terms (arguments_of ps) && (eqb (get_or (nums ps) 0 0) (get_or (nums i) 0 0) && same_option (get_elem? (subs ps) 0) owner))
    (unless (node 18 ps) (output owner i (member_of ps)))

-- ---- both

pub data Look : Type 0 where
  rules : List Pattern → Look
  interface : Parts → Term → Look

abbrev pub look_by : Look → Parts → Option Term
look_by (rules rs) ps = by_patterns rs ps
look_by (interface i owner) ps = through i owner ps

-- ---- held

-- A rule tells the places of its interface, which stands under a head with the tag 20, and of its receiver, its member, the place of its arguments, which
-- stand one after the other, and how many they are, and the place of its value.
pub record HeldRule (ks vs : List ℕ) (w : Rule) (p : Pattern) : Type 0 where
  pub interface : Held ks vs w.interface (node 20 p.interface)
  pub receiver : Held ks vs w.receiver p.receiver
  pub member : w.member ≡ p.member
  pub ends : ℕ
  pub arguments : HeldParts ks vs w.arguments ends (put_terms p.arguments end)
  pub count : w.count ≡ length p.arguments
  pub value : Held ks vs w.value p.value

-- as many rules, one after the other
abbrev pub Ruled : (ks vs : List ℕ) → List Rule → List Pattern → Type 0
Ruled ks vs [] [] = Unit {0}
Ruled ks vs [] (p ∷ rs) = ⊥
Ruled ks vs (w ∷ ws) [] = ⊥
Ruled ks vs (w ∷ ws) (p ∷ rs) = HeldRule ks vs w p × Ruled ks vs ws rs

-- order 19: the owner and the interface, and how many tokens they have
pub record HeldGiven (ks vs : List ℕ) (g : Origin) (i : Parts) (owner : Term) : Type 0 where
  pub owner_held : Held ks vs g.owner owner
  pub interface_held : Held ks vs g.interface (node 20 i)
  pub span_is : g.span ≡ length (items owner)
  pub row_is : g.row ≡ length (part_items i)

-- what is to be looked up
abbrev pub Looks : (ks vs : List ℕ) → LookUp → Look → Type 0
Looks ks vs (Rules ws) (rules rs) = Ruled ks vs ws.now rs
Looks ks vs (Given g) (interface i owner) = HeldGiven ks vs g i owner
Looks ks vs (Rules ws) (interface i owner) = ⊥
Looks ks vs (Given g) (rules rs) = ⊥

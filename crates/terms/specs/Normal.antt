-- `normalize` of associated.rs on trees: the bounded walk, with what it looks up as a parameter; orders 20 and 19 as two ways to look up.
-- The walk carries the visits left and the count of refusal 9: the children of all terms that a visit was spent on.
use Rattle.std.specs.Prelude.{Bool, true, false, ◌&&◌, List, [], ◌∷◌, ℕ, zero, suc, ◌+◌, eqb, ltb, length, get_or, set, take, drop}
use Rattle.std.proofs.Math.Option.{Option, none, some}
use Rattle.terms.specs.Result.{pick}
use Rattle.terms.specs.Term.{Term, Parts, node}
use Rattle.terms.specs.Tree.{error, nums, subs, children, with_kids, row, tag, slot, same, same_terms, Nominal, same_nominal, look_up, interface_of, receiver_of, member_of, arguments_of, projection}
use Rattle.terms.specs.Questions.{contains_projection}
use Rattle.terms.specs.Comparison.{no_terms}
use Rattle.terms.specs.Substitution.{or_else}

-- what a visit gives: the term, the visits left, the count so far
pub record Out : Type 0 where
  pub term : Term
  pub visits : ℕ
  pub count : ℕ

abbrev pub failed : ℕ → ℕ → Out
failed v c = record { term = error; visits = v; count = c }

-- the children, in byte order, after some of them have been visited
pub record Row : Type 0 where
  pub terms : List Term
  pub visits : ℕ
  pub count : ℕ

-- `map_children`: visits the children that come j-th, (j + 1)-th, .., r of them, by f; at gives each one's place in byte order
unfoldable pub visit_kids : (Term → ℕ → ℕ → Out) → (ℕ → ℕ) → ℕ → ℕ → Row → Row
visit_kids f at zero j s = s
visit_kids f at (suc r) j s =
    let w = f (get_or s.terms (at j) error) s.visits s.count in
    visit_kids f at r (suc j) (record { terms = set s.terms (at j) w.term; visits = w.visits; count = w.count })

-- ---- what a projection is replaced by

abbrev pub only_if : Bool → Option Term → Option Term
only_if true o = o
only_if false o = none

-- the term of the member x in a row whose nominal's arguments begin after b terms: b is 0 for a nominal's row, 1 for a projection's
unfoldable pub member_from : ℕ → ℕ → Parts → Option Term
member_from b x ps =
    look_up x (take (get_or (nums ps) 2 0) (drop 3 (nums ps))) (take (get_or (nums ps) 2 0) (drop (b + get_or (nums ps) 1 0) (subs ps)))

-- a Trait's own member, whatever its declaration
unfoldable pub trait_member : Term → ℕ → Option Term
trait_member t x = only_if (eqb (tag t) 15) (member_from 0 x (row t))

-- the interface's own member, and then a Trait receiver's, if there are no arguments
unfoldable pub own_member : Parts → Option Term
own_member ps =
    only_if (no_terms (arguments_of ps)) (or_else (member_from 1 (member_of ps) ps) (trait_member (receiver_of ps) (member_of ps)))

unfoldable pub replacement : (Parts → Option Term) → Term → Option Term
replacement look t = only_if (eqb (tag t) 18) (or_else (own_member (row t)) (look (row t)))

-- ---- the walk

-- a value that equals the projection gives Error, another is visited
abbrev pub follow : (Term → ℕ → ℕ → Out) → Bool → Term → ℕ → ℕ → Out
follow f true u v c = failed v c
follow f false u v c = f u v c

abbrev pub settle : (Term → ℕ → ℕ → Out) → Term → Option Term → ℕ → ℕ → Out
settle f t none v c = record { term = t; visits = v; count = c }
settle f t (some u) v c = follow f (same u t) u v c

-- the children have been visited
abbrev pub rebuilt : (Term → Option Term) → (Term → ℕ → ℕ → Out) → Term → Row → Out
rebuilt find f t s = settle f (with_kids t s.terms) (find (with_kids t s.terms)) s.visits s.count

-- `walk`: l levels left, v visits left, c children so far; find gives what a term is replaced by
unfoldable pub walk_by : (Term → Option Term) → ℕ → Term → ℕ → ℕ → Out
walk_by find zero t v c = failed v c
walk_by find (suc l) t zero c = failed zero c
walk_by find (suc l) t (suc v) c =
    rebuilt find (walk_by find l) t
    (visit_kids (walk_by find l) (slot t) (length (children t)) 0 (record { terms = children t; visits = v; count = c + length (children t) }))

abbrev pub walk : (Parts → Option Term) → ℕ → Term → ℕ → ℕ → Out
walk look = walk_by (replacement look)

-- a term with no projection comes back unchanged
module _ (levels visits : ℕ) (look : Parts → Option Term) where
  abbrev pub normalise_if : Bool → Term → Out
  normalise_if true t = walk look levels t visits 0
  normalise_if false t = record { term = t; visits = visits; count = 0 }

  abbrev pub normalise : Term → Out
  normalise t = normalise_if (contains_projection t) t

-- ---- order 20: a list of rules in the place of the closure

pub record Rule : Type 0 where
  pub interface : Nominal
  pub receiver : Term
  pub member : ℕ
  pub arguments : List Term
  pub value : Term

unfoldable pub matches : Rule → Parts → Bool
matches r ps =
    same_nominal r.interface (interface_of ps)
    && (same r.receiver (receiver_of ps) && (eqb r.member (member_of ps) && same_terms r.arguments (arguments_of ps)))

-- the first rule whose four parts all equal answers
unfoldable pub by_rules : List Rule → Parts → Option Term
by_rules [] ps = none
by_rules (r ∷ rs) ps = pick (matches r ps) (some r.value) (by_rules rs ps)

-- ---- order 19: the closure of `with_associated_types`

-- `output` is the interface's term for the member, if it has one; else the projection is made anew through the interface
abbrev pub known : Nominal → Parts → Option Term → Option Term
known i ps (some u) = pick (same u (node 18 ps)) none (some u)
known i ps none = pick (same_nominal (interface_of ps) i) none (some (projection (receiver_of ps) i (member_of ps)))

unfoldable pub by_interface : Nominal → Term → Parts → Option Term
by_interface i owner ps =
    only_if (no_terms (arguments_of ps) && (eqb (interface_of ps).declaration i.declaration && same (receiver_of ps) owner))
    (known i ps (look_up (member_of ps) i.members i.values))

-- ---- document 01's numbers

-- depth 0 to 64
abbrev pub levels : ℕ
levels = 65

abbrev pub visits : ℕ
visits = 8192

-- refusal 9: more children than these
abbrev pub most : ℕ
most = 8192

-- order 20, `normalize`
abbrev pub normalize : List Rule → Term → Out
normalize rules t = normalise levels visits (by_rules rules) t

-- order 19, `with_associated_types`
abbrev pub with_associated_types : Term → Nominal → Term → Out
with_associated_types t interface owner = normalise levels visits (by_interface interface owner) t

-- whether an order is refused by 9
abbrev pub refused : Out → Bool
refused o = ltb most o.count

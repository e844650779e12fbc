-- What the functions that test a bound hand on.
use Rattle.std.specs.Prelude.{◌≡◌, Bool, true, false, ◌&&◌, ◌||◌, List, ◌∷◌, ℕ, ◌+◌, ◌≤◌, ◌<◌, eqb, length, get_or, Option, Some, None}
use Rattle.std.proofs.Math.Option as math
use Rattle.std.proofs.Math.Option.{none, some}
use Rattle.terms.specs.Term.{Term, Parts, num, items, Subs}
use Rattle.terms.specs.Words.Held.{Held, HeldParts}
use Rattle.terms.specs.Formed.{Formed}
use Rattle.terms.specs.Tree.{Nominal, look_up, put_terms, put_members, same_terms}
use Rattle.terms.specs.Comparison.{same_option, has, reflexive}

-- the row of a nominal in two parts, and then more: its declaration and its arguments; its members with their terms
abbrev pub heading : ℕ → List Term → Parts → Parts
heading d ts rest = num d (num (length ts) (put_terms ts rest))

abbrev pub pairing : List ℕ → List Term → Parts → Parts
pairing ms ts rest = num (length ms) (put_members ms ts rest)

abbrev pub nominal_row : Nominal → Parts → Parts
nominal_row a rest = heading a.declaration a.arguments (pairing a.members a.values rest)

-- the areas hold the row of a nominal from p on, and then `rest` up to e
pub record Laid (ks vs : List ℕ) (p e : ℕ) (a : Nominal) (rest : Parts) : Type 0 where
  pub held : HeldParts ks vs p e (nominal_row a rest)
  pub formed : Subs Formed (nominal_row a rest)
  pub paired : length a.values ≡ length a.members

-- the same of its members with their terms
pub record Listed (ks vs : List ℕ) (p e : ℕ) (ms : List ℕ) (ts : List Term) (rest : Parts) : Type 0 where
  pub held : HeldParts ks vs p e (pairing ms ts rest)
  pub formed : Subs Formed (pairing ms ts rest)
  pub paired : length ts ≡ length ms

-- ---- arguments

-- n terms from i on and as many from j on, each with more after them, which are the same as `whole` says
pub record Lists (ks vs : List ℕ) (n i d : ℕ) (rest : Parts) (j e : ℕ) (more : Parts) (whole : Bool) : Type 0 where
  pub left : List Term
  pub right : List Term
  pub held_left : HeldParts ks vs i d (put_terms left rest)
  pub held_right : HeldParts ks vs j e (put_terms right more)
  pub many_left : length left ≡ n
  pub many_right : length right ≡ n
  pub same : whole ≡ same_terms left right

-- places within the areas, or at their end
abbrev pub Near : ℕ → Option (ℕ × ℕ) → Type 0
Near n None = Unit {0}
Near n (Some (x, y)) = (x ≤ n) × (y ≤ n)

-- they differ, or are the same and the rows go on after them
abbrev pub Agreed : (ks vs : List ℕ) (d : ℕ) (rest : Parts) (e : ℕ) (more : Parts) (whole : Bool) → Option (ℕ × ℕ) → Type 0
Agreed ks vs d rest e more whole None = whole ≡ false
Agreed ks vs d rest e more whole (Some (x, y)) = (whole ≡ true) × HeldParts ks vs x d rest × HeldParts ks vs y e more

-- the declaration and the arguments agree
unfoldable pub agree : Nominal → Nominal → Bool
agree a b = eqb a.declaration b.declaration && same_terms a.arguments b.arguments

-- where they do, the places of the members
abbrev pub Headed : (ks vs : List ℕ) (d : ℕ) (a : Nominal) (rest : Parts) (e : ℕ) (b : Nominal) (more : Parts) → Option (ℕ × ℕ) → Type 0
Headed ks vs d a rest e b more None = agree a b ≡ false
Headed ks vs d a rest e b more (Some (x, y)) =
    (agree a b ≡ true) × Listed ks vs x d a.members a.values rest × Listed ks vs y e b.members b.values more

-- ---- members

-- n members with their terms from p on, and then `rest` up to e, of which `whole` is what f says
pub record Pairs {A : Type 0} (ks vs : List ℕ) (p n e : ℕ) (rest : Parts) (f : List ℕ → List Term → A) (whole : A) : Type 0 where
  pub members : List ℕ
  pub values : List Term
  pub held : HeldParts ks vs p e (put_members members values rest)
  pub formed : Subs Formed (put_members members values rest)
  pub many : length members ≡ n
  pub paired : length values ≡ n
  pub same : whole ≡ f members values

-- one of them comes next
pub record Next-pair {A : Type 0} (ks vs : List ℕ) (p n e : ℕ) (rest : Parts) (f : List ℕ → List Term → A) (whole : A) : Type 0 where
  pub member : ℕ
  pub value : Term
  pub members : List ℕ
  pub values : List Term
  pub word : get_or vs p 0 ≡ member
  pub here : Held ks vs (p + 1) value
  pub behind : HeldParts ks vs (p + 1 + length (items value)) e (put_members members values rest)
  pub formed : Formed value
  pub others : Subs Formed (put_members members values rest)
  pub many : length members + 1 ≡ n
  pub paired : length values + 1 ≡ n
  pub same : whole ≡ f (member ∷ members) (value ∷ values)

abbrev pub Inside : ℕ → Option ℕ → Type 0
Inside n (Some i) = i < n
Inside n None = Unit {0}

-- what looking a member up finds
abbrev pub Looked : (ks vs : List ℕ) (whole : math.Option Term) → Option ℕ → Type 0
Looked ks vs whole (Some i) = (t : Term) × Held ks vs i t × (whole ≡ some t)
Looked ks vs whole None = whole ≡ none

-- ---- required members

-- a member is given with its term
abbrev pub given : (gs : List ℕ) (hs : List Term) → ℕ → Term → Bool
given gs hs m t = same_option (look_up m gs hs) t

-- the bound is satisfied and the row of what is required ends there, or it is not
abbrev pub Ended : ℕ → Option ℕ → Type 0
Ended n (Some z) = z ≤ n + 1
Ended n None = Unit {0}

abbrev pub Satisfied : (ks vs : List ℕ) (e : ℕ) (more : Parts) (whole : Bool) → Option ℕ → Type 0
Satisfied ks vs e more whole (Some z) = (whole ≡ true) × HeldParts ks vs z e more
Satisfied ks vs e more whole None = whole ≡ false

-- the test of `satisfies_for`
abbrev pub covers : Nominal → Term → ℕ → Term → Bool
covers a receiver m t = has a m t || reflexive a receiver m t

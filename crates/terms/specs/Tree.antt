-- A tree by its parts: its terms and numbers in byte order, the order in which `map_children` comes to them, equality (`PartialEq` as derived for
-- `TypeId` and `NominalType`), and the parts of a nominal and of a projection. A row of parts has its numbers and its terms apart, `nums` and `subs`, each in byte order:
--   a nominal's row    numbers: declaration, n, m, m members;               terms: n arguments, m members' terms
--   a projection's row numbers: declaration, n, m, m members, member, count; terms: receiver, n interface arguments, m members' terms, arguments
use Rattle.std.specs.Prelude.{Bool, true, false, ◌&&◌, List, [], ◌∷◌, ℕ, zero, suc, min, ◌+◌, ◌-◌, eqb, ltb, length, get_or, take, drop}
use Rattle.std.proofs.Math.Option.{Option, none, some}
use Rattle.terms.specs.Result.{pick}
use Rattle.terms.specs.Term.{Term, Parts, var, node, end, num, sub}

-- Unknown and Error
abbrev pub unknown : Term
unknown = node 2 end

abbrev pub error : Term
error = node 3 end

unfoldable pub nums : Parts → List ℕ
nums end = []
nums (num n ps) = n ∷ nums ps
nums (sub t ps) = nums ps

unfoldable pub subs : Parts → List Term
subs end = []
subs (num n ps) = subs ps
subs (sub t ps) = t ∷ subs ps

-- the row with other terms, in byte order
unfoldable pub fill : Parts → List Term → Parts
fill end l = end
fill (num n ps) l = num n (fill ps l)
fill (sub t ps) [] = sub t (fill ps [])
fill (sub t ps) (u ∷ l) = sub u (fill ps l)

-- the children of a term in byte order, and the term with other children
unfoldable pub children : Term → List Term
children (var v) = []
children (node k ps) = subs ps

unfoldable pub with_kids : Term → List Term → Term
with_kids (var v) l = var v
with_kids (node k ps) l = node k (fill ps l)

unfoldable pub row : Term → Parts
row (var v) = end
row (node k ps) = ps

unfoldable pub tag : Term → ℕ
tag (var v) = 1
tag (node k ps) = k

-- ---- the order of `map_children`

-- What comes j-th, as a place in byte order, of c children. A nominal with n arguments: members, then arguments.
unfoldable pub nominal_slot : ℕ → ℕ → ℕ → ℕ
nominal_slot n c j = pick (ltb j (c - n)) (n + j) (j - (c - n))

-- A projection with n interface arguments and m interface members: arguments, receiver, interface members, interface arguments.
unfoldable pub projection_slot : ℕ → ℕ → ℕ → ℕ → ℕ
projection_slot n m c j =
    pick (ltb j (c - (1 + n + m))) (1 + n + m + j)
    (pick (eqb j (c - (1 + n + m))) 0
    (pick (ltb j (c - n)) (j + (1 + n) - (c - (n + m))) (j + 1 - (c - n))))

-- by the tag's class: 0 another, 1 a nominal, 2 a projection
unfoldable pub class : ℕ → ℕ
class k = pick (eqb k 18) 2 (pick (ltb k 12) 0 (pick (ltb 15 k) 0 1))

-- n and m are cut to what c allows, so that every place comes once whatever they are; a term that keeps to its tag's layout needs no cut
unfoldable pub slot_by : ℕ → ℕ → ℕ → ℕ → ℕ → ℕ
slot_by zero n m c j = j
slot_by (suc zero) n m c j = nominal_slot (min n c) c j
slot_by (suc (suc x)) n m c j = projection_slot (min n (c - 1)) (min m (c - 1 - min n (c - 1))) c j

abbrev pub slot : Term → ℕ → ℕ
slot t j = slot_by (class (tag t)) (get_or (nums (row t)) 1 0) (get_or (nums (row t)) 2 0) (length (children t)) j

-- ---- equality

unfoldable mutual
  pub same : Term → Term → Bool
  same (var v) (var w) = eqb v w
  same (var v) (node j qs) = false
  same (node k ps) (var w) = false
  same (node k ps) (node j qs) = eqb k j && same_rows ps qs

  pub same_rows : Parts → Parts → Bool
  same_rows end end = true
  same_rows end (num m qs) = false
  same_rows end (sub u qs) = false
  same_rows (num n ps) end = false
  same_rows (num n ps) (num m qs) = eqb n m && same_rows ps qs
  same_rows (num n ps) (sub u qs) = false
  same_rows (sub t ps) end = false
  same_rows (sub t ps) (num m qs) = false
  same_rows (sub t ps) (sub u qs) = same t u && same_rows ps qs

unfoldable pub same_terms : List Term → List Term → Bool
same_terms [] [] = true
same_terms [] (u ∷ us) = false
same_terms (t ∷ ts) [] = false
same_terms (t ∷ ts) (u ∷ us) = same t u && same_terms ts us

unfoldable pub same_numbers : List ℕ → List ℕ → Bool
same_numbers [] [] = true
same_numbers [] (u ∷ us) = false
same_numbers (t ∷ ts) [] = false
same_numbers (t ∷ ts) (u ∷ us) = eqb t u && same_numbers ts us

-- ---- nominals and projections

pub record Nominal : Type 0 where
  pub declaration : ℕ
  pub arguments : List Term
  pub members : List ℕ
  pub values : List Term

unfoldable pub same_nominal : Nominal → Nominal → Bool
same_nominal a b =
    eqb a.declaration b.declaration
    && (same_terms a.arguments b.arguments && (same_numbers a.members b.members && same_terms a.values b.values))

-- the term of a member
unfoldable pub look_up : ℕ → List ℕ → List Term → Option Term
look_up m [] ts = none
look_up m (k ∷ ks) [] = none
look_up m (k ∷ ks) (t ∷ ts) = pick (eqb k m) (some t) (look_up m ks ts)

-- a nominal from its row
unfoldable pub nominal_of : Parts → Nominal
nominal_of ps = record {
  declaration = get_or (nums ps) 0 0;
  arguments = take (get_or (nums ps) 1 0) (subs ps);
  members = take (get_or (nums ps) 2 0) (drop 3 (nums ps));
  values = take (get_or (nums ps) 2 0) (drop (get_or (nums ps) 1 0) (subs ps));
}

-- the four parts of a projection from its row
unfoldable pub interface_of : Parts → Nominal
interface_of ps = record {
  declaration = get_or (nums ps) 0 0;
  arguments = take (get_or (nums ps) 1 0) (drop 1 (subs ps));
  members = take (get_or (nums ps) 2 0) (drop 3 (nums ps));
  values = take (get_or (nums ps) 2 0) (drop (1 + get_or (nums ps) 1 0) (subs ps));
}

unfoldable pub receiver_of : Parts → Term
receiver_of ps = get_or (subs ps) 0 error

unfoldable pub member_of : Parts → ℕ
member_of ps = get_or (nums ps) (3 + get_or (nums ps) 2 0) 0

unfoldable pub arguments_of : Parts → List Term
arguments_of ps = drop (1 + get_or (nums ps) 1 0 + get_or (nums ps) 2 0) (subs ps)

-- a projection without arguments, from its receiver, interface and member
unfoldable pub put_terms : List Term → Parts → Parts
put_terms [] ps = ps
put_terms (t ∷ ts) ps = sub t (put_terms ts ps)

unfoldable pub put_members : List ℕ → List Term → Parts → Parts
put_members [] ts ps = ps
put_members (m ∷ ms) [] ps = ps
put_members (m ∷ ms) (t ∷ ts) ps = num m (sub t (put_members ms ts ps))

unfoldable pub projection : Term → Nominal → ℕ → Term
projection r i m =
    node 18 (sub r (num i.declaration (num (length i.arguments) (put_terms i.arguments (num (length i.members) (put_members i.members i.values (num m (num 0 end))))))))

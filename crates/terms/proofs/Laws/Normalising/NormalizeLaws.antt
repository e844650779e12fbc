-- Normalising by rows, which the code is proved to do, is `normalize` and `with_associated_types` where the terms are formed, and gives a formed term.
use mathlib.Core.Path.{◌≡◌, refl, sym, ap, ◌∙◌}
use mathlib.Core.Bool.{Bool, true, false, ◌&&◌}
use mathlib.Core.List.{List, [], ◌∷◌, map}
use mathlib.Core.Option.{Option, none, some}
use Prim.Native.Nat.{ℕ, zero, suc, ◌+◌}
use native.Mathlib.Nat.{zero-add}
use native.Mathlib.Decide.{ℕ_discrete}
use native.Mathlib.Omega.{arith}
use borrow.Author.Tests.{eq-eqb, eqb-true}
use lib.Dec.{eqb}
use lib.ListN.{length, get_or, take, drop, get_elem?}
use Rattle.terms.specs.Term.{Term, Parts, var, node, end, num, sub, ◌+++◌, Subs}
use Rattle.terms.specs.Shape as shape
use Rattle.terms.specs.Shape.{Shape, kind_of, layout, nominal, many_terms, many_members}
use Rattle.terms.specs.Formed.{Formed, Fit, TakesNumber, TakesTerm, after_number, after_term, Each}
use Rattle.terms.specs.Tree.{nums, subs, children, row, tag, same, same_rows, same_terms, same_numbers, Nominal, same_nominal, look_up, nominal_of, interface_of, receiver_of, member_of, arguments_of, put_terms, put_members, projection}
use Rattle.terms.specs.Questions.{contains_projection}
use Rattle.terms.specs.Comparison.{no_terms, same_option}
use Rattle.terms.specs.Substitution.{or, or_else}
use Rattle.terms.specs.Words.SatisfyContract.{nominal_row}
use Rattle.terms.specs.Normal.{only_if, member_from, trait_member, own_member, replacement, normalise_if, normalise, Rule, matches, by_rules, known, by_interface, levels, visits, normalize, with_associated_types}
use Rattle.terms.specs.Lookup.{Pattern, FormedPattern, FormedPatterns, front, left, by_patterns, made, unless, output, through, Look, rules, interface, look_by}
use Rattle.terms.proofs.Laws.General.Bools.{never_true}
use Rattle.terms.proofs.Laws.Held.HeldLaws.{head_kind}
use Rattle.terms.proofs.Laws.Held.SameLaws.{both, same_refl, same_true, rows_refl, rows_true}
use Rattle.terms.proofs.Laws.Asking.BoundLaws.{terms_refl, terms_true}
use Rattle.terms.proofs.Laws.Held.NominalLaws.{interface_is, arguments_are, member_is, nominal_is, split, fit_formed, fit_done, called, subs_called, Projected, projected}
use Rattle.terms.proofs.Laws.Replacing.SubstitutionLaws.{FormedOr, or_formed}
use Rattle.terms.proofs.Laws.Held.FormedListLaws.{formed_else, formed_pick}
use Rattle.terms.proofs.Laws.Normalising.MemberLaws.{replace_other}
use Rattle.terms.proofs.Laws.Normalising.RespectLaws.{walk_agree}
use Rattle.terms.proofs.Laws.Held.FormedLaws.{formed_child, formed_inherited}

-- ---- tests

-- two tests that follow from each other
same_test : (a b : Bool) → (a ≡ true → b ≡ true) → (b ≡ true → a ≡ true) → a ≡ b
same_test true b f g = sym (f refl)
same_test false true f g = g refl
same_test false false f g = refl

-- a test and what holds
and-true : (a : Bool) → (a && true) ≡ a
and-true true = refl
and-true false = refl

-- a list of numbers is the same as itself, and as no other
numbers_refl : (ms : List ℕ) → same_numbers ms ms ≡ true
unfolding same_numbers
numbers_refl [] = refl
numbers_refl (m ∷ ms) = rw (eq-eqb m m refl) (numbers_refl ms)

numbers_true : (ms ns : List ℕ) → same_numbers ms ns ≡ true → ms ≡ ns
unfolding same_numbers
numbers_true [] [] h = refl
numbers_true [] (n ∷ ns) h = never_true h
numbers_true (m ∷ ms) [] h = never_true h
numbers_true (m ∷ ms) (n ∷ ns) h = let b = both (eqb m n) (same_numbers ms ns) h in rw (eqb-true m n b.0, numbers_true ms ns b.1)

-- and so is a nominal
nominals_refl : (a : Nominal) → same_nominal a a ≡ true
unfolding same_nominal
nominals_refl a = rw (eq-eqb a.declaration a.declaration refl, terms_refl a.arguments, numbers_refl a.members) (terms_refl a.values)

-- a nominal is its four parts
nominal_same : {d e : ℕ} {ts us vs ws : List Term} {ms ns : List ℕ} → d ≡ e → ts ≡ us → ms ≡ ns → vs ≡ ws
    → ◌≡◌ {A = Nominal} (record { declaration = d; arguments = ts; members = ms; values = vs }) (record { declaration = e; arguments = us; members = ns; values = ws })
nominal_same p q r s = rw (p, q, r, s)

nominals_true : (a b : Nominal) → same_nominal a b ≡ true → a ≡ b
unfolding same_nominal
nominals_true a b h =
    let x = both (eqb a.declaration b.declaration) _ h in
    let y = both (same_terms a.arguments b.arguments) _ x.1 in
    let z = both (same_numbers a.members b.members) _ y.1 in
    nominal_same (eqb-true _ _ x.0) (terms_true _ _ y.0) (numbers_true _ _ z.0) (terms_true _ _ z.1)

-- either may stand first
nominals_sym : (a b : Nominal) → same_nominal a b ≡ same_nominal b a
nominals_sym a b = same_test _ _ (turn a b) (turn b a)
  where
    turn : (a b : Nominal) → same_nominal a b ≡ true → same_nominal b a ≡ true
    turn a b h = rw (nominals_true a b h) (nominals_refl b)

-- ---- rows of projections

-- a projection's row from its receiver, interface, member and arguments
abbrev row_of : Term → Nominal → ℕ → List Term → Parts
row_of r a m ts = sub r (nominal_row a (called m ts))

-- each member has its term
abbrev Paired : Nominal → Type 0
Paired a = length a.values ≡ length a.members

-- the receiver is read back from the row
receiver_is : (r : Term) (ps : Parts) → receiver_of (sub r ps) ≡ r
unfolding receiver_of subs
receiver_is r ps = refl

-- two are the same where their four parts are
rows_by_parts : (w : Term) (a : Nominal) (k : ℕ) (us : List Term) (r : Term) (b : Nominal) (m : ℕ) (ts : List Term) → Paired a → Paired b
    → same_rows (row_of w a k us) (row_of r b m ts) ≡ (same_nominal a b && (same w r && (eqb k m && same_terms us ts)))
rows_by_parts w a k us r b m ts pa pb = same_test _ _ to from
  where
    to : same_rows (row_of w a k us) (row_of r b m ts) ≡ true → (same_nominal a b && (same w r && (eqb k m && same_terms us ts))) ≡ true
    to h =
        let e = rows_true (row_of w a k us) (row_of r b m ts) h in
        let i : a ≡ b = sym (interface_is w a (called k us) pa) ∙ ap interface_of e ∙ interface_is r b (called m ts) pb in
        let o : w ≡ r = sym (receiver_is w _) ∙ ap receiver_of e ∙ receiver_is r _ in
        let n : k ≡ m = sym (member_is w a k _ pa) ∙ ap member_of e ∙ member_is r b m _ pb in
        let l : us ≡ ts = sym (arguments_are w a (called k us) pa ∙ subs_called k us) ∙ ap arguments_of e ∙ arguments_are r b (called m ts) pb ∙ subs_called m ts in
        rw (i, o, n, l, nominals_refl b, same_refl r, eq-eqb m m refl) (terms_refl ts)

    from : (same_nominal a b && (same w r && (eqb k m && same_terms us ts))) ≡ true → same_rows (row_of w a k us) (row_of r b m ts) ≡ true
    from h =
        let x = both (same_nominal a b) _ h in
        let y = both (same w r) _ x.1 in
        let z = both (eqb k m) _ y.1 in
        rw (nominals_true a b x.0, same_true w r y.0, eqb-true k m z.0, terms_true us ts z.1) (rows_refl (row_of r b m ts))

-- more after a list of terms
terms_behind : (ts : List Term) (ps qs : Parts) → put_terms ts ps +++ qs ≡ put_terms ts (ps +++ qs)
unfolding put_terms
terms_behind [] ps qs = refl
terms_behind (t ∷ ts) ps qs = ap (sub t) (terms_behind ts ps qs)

-- after its members with their terms
members_behind : (ms : List ℕ) (ts : List Term) (ps qs : Parts) → put_members ms ts ps +++ qs ≡ put_members ms ts (ps +++ qs)
unfolding put_members
members_behind [] ts ps qs = refl
members_behind (m ∷ ms) [] ps qs = refl
members_behind (m ∷ ms) (t ∷ ts) ps qs = ap (λ (l : Parts). num m (sub t l)) (members_behind ms ts ps qs)

-- after the whole row of a nominal
nominal_behind : (a : Nominal) (qs : Parts) → nominal_row a end +++ qs ≡ nominal_row a qs
nominal_behind a qs =
    ap (λ (l : Parts). num a.declaration (num (length a.arguments) l))
    (terms_behind a.arguments _ qs ∙ ap (λ (l : Parts). put_terms a.arguments (num (length a.members) l)) (members_behind a.members a.values end qs))

-- the row of a nominal that is alone
record Bare (i : Parts) : Type 0 where
  name : Nominal
  is : i ≡ nominal_row name end
  named : nominal_of i ≡ name
  paired : Paired name

-- a row that fits a nominal and nothing else
bare : (i : Parts) → Fit (nominal shape.done) i → Bare i
bare i f =
    let s = split shape.done i f in
    let e : i ≡ nominal_row s.name end = s.is ∙ ap (nominal_row s.name) (fit_done s.rest s.fit) in
    record { name = s.name; is = e; named = ap nominal_of e ∙ nominal_is s.name end s.paired; paired = s.paired }

-- ---- rules

-- the rule, with its interface as a nominal
abbrev pub rule_of : Pattern → Rule
rule_of p = record { interface = nominal_of p.interface; receiver = p.receiver; member = p.member; arguments = p.arguments; value = p.value }

-- a rule's row by its four parts
left_is : (p : Pattern) (a : Nominal) → p.interface ≡ nominal_row a end → left p ≡ row_of p.receiver a p.member p.arguments
unfolding front
left_is p a e = rw e (ap (sub p.receiver) (nominal_behind a (called p.member p.arguments)))

module _ (r : Term) (b : Nominal) (m : ℕ) (ts : List Term) (h : Paired b) where
  -- a rule's row is the projection's where its four parts are
  rule_matches : (p : Pattern) → FormedPattern p → same_rows (left p) (row_of r b m ts) ≡ matches (rule_of p) (row_of r b m ts)
  unfolding matches
  rule_matches p f =
      let a = bare p.interface f.interface in
      rw (left_is p a.name a.is, a.named, interface_is r b (called m ts) h, receiver_is, member_is r b m _ h, arguments_are r b (called m ts) h, subs_called)
      (rows_by_parts p.receiver a.name p.member p.arguments r b m ts a.paired h)

  -- both find the value of the first rule that is the projection's
  rules_agree : (rs : List Pattern) → FormedPatterns rs → by_patterns rs (row_of r b m ts) ≡ by_rules (map rule_of rs) (row_of r b m ts)
  unfolding by_patterns by_rules FormedPatterns
  rules_agree [] f = refl
  rules_agree (p ∷ rs) f = rw (rule_matches p f.0, rules_agree rs f.1)

-- the value of a formed rule is formed
rules_formed : (rs : List Pattern) → FormedPatterns rs → (ps : Parts) → FormedOr (by_patterns rs ps)
unfolding by_patterns FormedPatterns FormedOr
rules_formed [] f ps = tt
rules_formed (p ∷ rs) f ps = formed_pick (same_rows (left p) ps) (some p.value) _ f.0.value (rules_formed rs f.1 ps)

-- ---- order 19

-- a nominal's member, from its row
member_known : (m : ℕ) (i : Parts) → member_from 0 m i ≡ look_up m (nominal_of i).members (nominal_of i).values
unfolding member_from nominal_of
member_known m i = rw (zero-add (get_or (nums i) 1 0))

-- the projection made anew, from the nominal
made_is : (owner : Term) (m : ℕ) (i : Parts) (x : Bare i) → made owner i m ≡ projection owner x.name m
unfolding projection
made_is owner m i x = ap (λ (l : Parts). made owner l m) x.is ∙ ap (λ (l : Parts). node 18 (sub owner l)) (nominal_behind x.name (num m (num 0 end)))

-- it is the projection that stands there where the interfaces are the same
made_same : (owner : Term) (a b : Nominal) (m : ℕ) → Paired a → Paired b → same (projection owner a m) (node 18 (row_of owner b m [])) ≡ same_nominal b a
unfolding projection same same_terms put_terms
made_same owner a b m pa pb =
    rows_by_parts owner a m [] owner b m [] pa pb ∙ rw (same_refl owner, eq-eqb m m refl) (and-true (same_nominal a b)) ∙ nominals_sym a b

-- under one test, what is found counts only where it holds
only_agree : (c : Bool) (o p : Option Term) → (c ≡ true → o ≡ p) → only_if c o ≡ only_if c p
only_agree true o p f = f refl
only_agree false o p f = refl

-- a list that has no terms
no_terms_lem : (ts : List Term) → no_terms ts ≡ true → ts ≡ []
no_terms_lem [] e = refl
no_terms_lem (t ∷ ts) e = never_true e

-- both ask the same of the declaration and of the receiver
asked : (r : Term) (qs i : Parts) (owner : Term)
    → (eqb (get_or (nums (sub r qs)) 0 0) (get_or (nums i) 0 0) && same_option (get_elem? (subs (sub r qs)) 0) owner)
    ≡ (eqb (interface_of (sub r qs)).declaration (nominal_of i).declaration && same (receiver_of (sub r qs)) owner)
unfolding interface_of nominal_of receiver_of subs
asked r qs i owner = refl

module _ (r : Term) (b : Nominal) (m : ℕ) (ts : List Term) (h : Paired b) (i : Parts) (f : Fit (nominal shape.done) i) (owner : Term) where
  -- what is found, where the tests hold
  found_agree : r ≡ owner → ts ≡ [] → (o : Option Term) → unless (node 18 (row_of r b m ts)) (or o (made owner i m)) ≡ known (nominal_of i) (row_of r b m ts) o
  found_agree e z (some u) = refl
  found_agree e z none =
      let a = bare i f in
      rw (made_is owner m i a, a.named, interface_is r b (called m ts) h, receiver_is, member_is r b m _ h, e, z, made_same owner a.name b m a.paired h)

  -- both find the same
  interface_agree : through i owner (row_of r b m ts) ≡ by_interface (nominal_of i) owner (row_of r b m ts)
  unfolding through by_interface
  interface_agree =
      rw (asked r _ i owner, receiver_is, member_is r b m _ h, arguments_are r b (called m ts) h, subs_called, member_known)
      (only_agree _ _ _ (λ t.
      let x = both (no_terms ts) _ t in
      let y = both (eqb (interface_of (row_of r b m ts)).declaration (nominal_of i).declaration) _ x.1 in
      found_agree (same_true r owner y.1) (no_terms_lem ts x.0) (look_up m (nominal_of i).members (nominal_of i).values)))

-- ---- what is found is formed

-- the first terms of a list, and what is left of it
each_take : (n : ℕ) (ts : List Term) → Each Formed ts → Each Formed (take n ts)
unfolding Each
each_take zero ts h = tt
each_take (suc n) [] h = tt
each_take (suc n) (t ∷ ts) h = (h.0, each_take n ts h.1)

each-drop : (n : ℕ) (ts : List Term) → Each Formed ts → Each Formed (drop n ts)
unfolding Each
each-drop zero ts h = h
each-drop (suc n) [] h = tt
each-drop (suc n) (t ∷ ts) h = each-drop n ts h.1

-- the terms of a row
each_sub : (ps : Parts) → Subs Formed ps → Each Formed (subs ps)
unfolding Subs Each subs
each_sub end h = tt
each_sub (num n ps) h = each_sub ps h
each_sub (sub t ps) h = (h.0, each_sub ps h.1)

-- the term of a member
look_formed : (m : ℕ) (ks : List ℕ) (ts : List Term) → Each Formed ts → FormedOr (look_up m ks ts)
unfolding look_up FormedOr Each
look_formed m [] ts h = tt
look_formed m (k ∷ ks) [] h = tt
look_formed m (k ∷ ks) (t ∷ ts) h = formed_pick (eqb k m) (some t) _ h.0 (look_formed m ks ts h.1)

-- the term of a member in a row
member_formed : (b m : ℕ) (ps : Parts) → Subs Formed ps → FormedOr (member_from b m ps)
unfolding member_from
member_formed b m ps h =
    let n = get_or (nums ps) 2 0 in
    let k = b + get_or (nums ps) 1 0 in
    look_formed m (take n (drop 3 (nums ps))) (take n (drop k (subs ps))) (each_take n (drop k (subs ps)) (each-drop k (subs ps) (each_sub ps h)))

-- under a test
only_formed : (c : Bool) (o : Option Term) → FormedOr o → FormedOr (only_if c o)
unfolding FormedOr
only_formed true o h = h
only_formed false o h = tt

-- the terms in the row of a formed term
row_formed : (t : Term) → Formed t → Subs Formed (row t)
unfolding Formed Subs row
row_formed (var v) f = tt
row_formed (node k ps) f = fit_formed (layout k) ps f.1

-- its receiver
receiver_formed : (t : Term) → Formed t → Formed (receiver_of (row t))
unfolding receiver_of row children subs
receiver_formed (var v) f = formed_child (var v) f 0
receiver_formed (node k ps) f = formed_child (node k ps) f 0

-- a Trait's own member
trait_formed : (t : Term) (m : ℕ) → Formed t → FormedOr (trait_member t m)
unfolding trait_member
trait_formed t m f = only_formed (eqb (tag t) 15) (member_from 0 m (row t)) (member_formed 0 m (row t) (row_formed t f))

-- a projection's own member, or its Trait receiver's
own_formed : (t : Term) → Formed t → FormedOr (own_member (row t))
unfolding own_member
own_formed t f =
    let m = member_of (row t) in
    only_formed (no_terms (arguments_of (row t))) (or_else (member_from 1 m (row t)) (trait_member (receiver_of (row t)) m))
    (formed_else (member_from 1 m (row t)) (trait_member (receiver_of (row t)) m) (member_formed 1 m (row t) (row_formed t f)) (trait_formed (receiver_of (row t)) m (receiver_formed t f)))

-- ---- a nominal's row with something else after it

-- what stands after fits, and so does another row in its place
abbrev Behind : (s : Shape) (rest : Parts) (of : Shape → Shape) (with : Parts → Parts) → Type 0
Behind s rest of with = Fit s rest × ((s' : Shape) (rest' : Parts) → Fit s' rest' → Fit (of s') (with rest'))

-- after terms
behind_terms : (s : Shape) (rest : Parts) (ts : List Term) → Fit (many_terms (length ts) s) (put_terms ts rest) → Behind s rest (many_terms (length ts)) (put_terms ts)
unfolding Fit many_terms after_term TakesTerm put_terms
behind_terms s rest [] f = (f, λ s' rest' g. g)
behind_terms s rest (t ∷ ts) f = let x = behind_terms s rest ts f.2 in (x.0, λ s' rest' g. (tt, f.1, x.1 s' rest' g))

-- after members with their terms
behind_members : (s : Shape) (rest : Parts) (ms : List ℕ) (ts : List Term) (least : ℕ) → length ts ≡ length ms → Fit (many_members (length ms) least s) (put_members ms ts rest)
    → Behind s rest (many_members (length ms) least) (put_members ms ts)
unfolding Fit many_members after_term after_number TakesTerm TakesNumber put_members
behind_members s rest [] ts least e f = (f, λ s' rest' g. g)
behind_members s rest (m ∷ ms) [] least e f = absurd (omega arith)
behind_members s rest (m ∷ ms) (t ∷ ts) least e f =
    let x = behind_members s rest ms ts (m + 1) (omega arith) f.1.2 in
    (x.0, λ s' rest' g. (f.0, (tt, f.1.1, x.1 s' rest' g)))

-- after a nominal
behind_nominal : (s : Shape) (rest : Parts) (a : Nominal) → Paired a → Fit (nominal s) (nominal_row a rest) → Behind s rest nominal (nominal_row a)
unfolding Fit after_number TakesNumber
behind_nominal s rest a e f =
    let x = behind_terms (shape.members s) _ a.arguments f.1.1 in
    let y = behind_members s rest a.members a.values 0 e x.0.1 in
    (y.0, λ s' rest' g. (f.0, (f.1.0, x.1 (shape.members s') (num (length a.members) (put_members a.members a.values rest')) (x.0.0, y.1 s' rest' g))))

-- the projection made anew, with the member of one that is formed
made_formed : (i : Parts) → Fit (nominal shape.done) i → (owner : Term) → Formed owner → (r : Term) (b : Nominal) (m : ℕ) (ts : List Term) → Paired b
    → Fit shape.projection (row_of r b m ts) → Formed (made owner i m)
unfolding Formed kind_of after_number after_term TakesNumber TakesTerm many_terms
made_formed i f owner o r b m ts h g =
    let x = bare i f in
    let s = shape.number shape.definition (shape.terms shape.done) in
    let y = (behind_nominal shape.done end x.name x.paired (rw x.is at f)).1 s (num m (num 0 end)) in
    let z = (behind_nominal s (called m ts) b h g.2).0.0 in
    let e = ap (λ (l : Parts). l +++ num m (num 0 end)) x.is ∙ nominal_behind x.name (num m (num 0 end)) in
    (refl, (tt, o, rw e (y (z, (omega arith, refl)))))

-- a term, unless it is another
unless_formed : (t u : Term) → Formed u → FormedOr (unless t u)
unfolding FormedOr
unless_formed t u f = formed_pick (same u t) none (some u) tt f

-- what order 19 finds
through_formed : (i : Parts) → Fit (nominal shape.done) i → (owner : Term) → Formed owner → (r : Term) (b : Nominal) (m : ℕ) (ts : List Term) → Paired b
    → Fit shape.projection (row_of r b m ts) → FormedOr (through i owner (row_of r b m ts))
unfolding through
through_formed i f owner o r b m ts h g =
    let ps = row_of r b m ts in
    let c = no_terms (arguments_of ps) && (eqb (get_or (nums ps) 0 0) (get_or (nums i) 0 0) && same_option (get_elem? (subs ps) 0) owner) in
    let u = or_formed (member_from 0 m i) (made owner i m) (member_formed 0 m i (fit_formed (nominal shape.done) i f)) (made_formed i f owner o r b m ts h g) in
    rw (member_is r b m _ h) (only_formed c (unless (node 18 ps) (output owner i m)) (unless_formed (node 18 ps) (output owner i m) u))

-- ---- the walk

-- two look-ups that agree on the rows of projections, and find formed terms in those of formed ones
record Alike (look look' : Parts → Option Term) : Type 0 where
  agree : (r : Term) (b : Nominal) (m : ℕ) (ts : List Term) → Paired b → look (row_of r b m ts) ≡ look' (row_of r b m ts)
  formed : (r : Term) (b : Nominal) (m : ℕ) (ts : List Term) → Paired b → Fit shape.projection (row_of r b m ts) → FormedOr (look (row_of r b m ts))

-- the tag 18 as the kind of a head
tagged : (t : Term) → tag t ≡ 18 → head_kind t ≡ 20
unfolding tag head_kind
tagged (var v) e = absurd (omega arith)
tagged (node k ps) e = omega arith

-- the row of a projection by its parts
row_is : (t : Term) (x : Projected t) → row t ≡ row_of x.receiver x.interface x.member x.arguments
unfolding row
row_is t x = ap row x.is

-- a term that is found is formed, and where none is nothing is asked
found : (o : Option Term) (u : Term) → FormedOr o → o ≡ some u → Formed u
unfolding FormedOr
found o u h e = rw e at h

found_none : (o : Option Term) → o ≡ none → FormedOr o
unfolding FormedOr
found_none o e = rw e tt

module _ (look look' : Parts → Option Term) (h : Alike look look') where
  -- a projection that is formed
  at_projection : (t : Term) → Formed t → tag t ≡ 18 → (look (row t) ≡ look' (row t)) × FormedOr (look (row t))
  unfolding Formed
  at_projection t f e =
      let x = projected t f (tagged t e) in
      let g : Formed (node 18 (row_of x.receiver x.interface x.member x.arguments)) = rw x.is at f in
      rw (row_is t x) (h.agree x.receiver x.interface x.member x.arguments x.paired, h.formed x.receiver x.interface x.member x.arguments x.paired g.1)

  -- what a formed term is replaced by
  replaced : (t : Term) → Formed t → (replacement look t ≡ replacement look' t) × FormedOr (replacement look t)
  unfolding replacement
  replaced t f = go (ℕ_discrete (tag t) 18)
    where
      go : Dec (tag t ≡ 18) → (replacement look t ≡ replacement look' t) × FormedOr (replacement look t)
      go (yes e) =
          let x = at_projection t f e in
          (rw x.0, only_formed (eqb (tag t) 18) (or_else (own_member (row t)) (look (row t))) (formed_else (own_member (row t)) (look (row t)) (own_formed t f) x.1))
      go (no n) = (replace_other look t n ∙ sym (replace_other look' t n), found_none (replacement look t) (replace_other look t n))

  -- the whole of it: both give the same, and the term is formed
  normalise_agree : (l v : ℕ) (t : Term) → Formed t → (normalise l v look t ≡ normalise l v look' t) × Formed (normalise l v look t).term
  normalise_agree l v t f = go (contains_projection t)
    where
      go : (b : Bool) → (normalise_if l v look b t ≡ normalise_if l v look' b t) × Formed (normalise_if l v look b t).term
      go true =
          walk_agree Formed formed_inherited (replacement look) (replacement look') (λ u g. (replaced u g).0) (λ u w g e. found (replacement look u) w (replaced u g).1 e) l t v 0 f
      go false = (refl, f)

-- ---- order 20

module _ (rs : List Pattern) (f : FormedPatterns rs) where
  -- rows of rules, and rules
  rules_alike : Alike (by_patterns rs) (by_rules (map rule_of rs))
  rules_alike = record { agree = λ r b m ts h. rules_agree r b m ts h rs f; formed = λ r b m ts h g. rules_formed rs f (row_of r b m ts) }

  -- whatever the bounds
  pub rules_normalise : (l v : ℕ) (t : Term) → Formed t → normalise l v (by_patterns rs) t ≡ normalise l v (by_rules (map rule_of rs)) t
  rules_normalise l v t g = (normalise_agree (by_patterns rs) (by_rules (map rule_of rs)) rules_alike l v t g).0

  -- with document 01's numbers
  pub rules_normalize : (t : Term) → Formed t → normalise levels visits (by_patterns rs) t ≡ normalize (map rule_of rs) t
  rules_normalize t g = rules_normalise levels visits t g

-- ---- order 19

module _ (i : Parts) (owner : Term) (f : Fit (nominal shape.done) i) (o : Formed owner) where
  -- the interface's row, and the interface
  interface_alike : Alike (through i owner) (by_interface (nominal_of i) owner)
  interface_alike = record { agree = λ r b m ts h. interface_agree r b m ts h i f owner; formed = λ r b m ts h g. through_formed i f owner o r b m ts h g }

  -- whatever the bounds
  pub interface_normalise : (l v : ℕ) (t : Term) → Formed t → normalise l v (through i owner) t ≡ normalise l v (by_interface (nominal_of i) owner) t
  interface_normalise l v t g = (normalise_agree (through i owner) (by_interface (nominal_of i) owner) interface_alike l v t g).0

  -- with document 01's numbers
  pub interface_normalize : (t : Term) → Formed t → normalise levels visits (through i owner) t ≡ with_associated_types t (nominal_of i) owner
  interface_normalize t g = interface_normalise levels visits t g

-- ---- both

-- what is looked up in is formed
abbrev pub FormedLook : Look → Type 0
FormedLook (rules rs) = FormedPatterns rs
FormedLook (interface i owner) = Fit (nominal shape.done) i × Formed owner

-- normalising keeps terms formed
pub normalise_formed : (look : Look) → FormedLook look → (l v : ℕ) (t : Term) → Formed t → Formed (normalise l v (look_by look) t).term
normalise_formed (rules rs) f l v t g = (normalise_agree (by_patterns rs) (by_rules (map rule_of rs)) (rules_alike rs f) l v t g).1
normalise_formed (interface i owner) f l v t g = (normalise_agree (through i owner) (by_interface (nominal_of i) owner) (interface_alike i owner f.0 f.1) l v t g).1

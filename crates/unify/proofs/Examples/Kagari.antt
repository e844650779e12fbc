-- The heads, families and two equalities of Kagari's terms: an instance of `Sig`, so that nothing above is about nothing; and the
-- worked session of document 01, run on the model.
use mathlib.Core.Path.{◌≡◌, refl, ap, sym, ◌∙◌}
use mathlib.Core.Logic.{◌↔◌}
use mathlib.Core.HLevel.{Discrete}
use mathlib.Core.Bool.{Bool, true, false, ◌&&◌, ◌||◌, cond, beq}
use mathlib.Core.Option.{Option, none, some}
use mathlib.Core.List.{List, [], ◌∷◌}
use lib.ListN.{length}
use Prim.Native.Nat.{ℕ, ◌+◌, ◌<◌}
use native.Mathlib.Decide.{ℕ_discrete, dec_lt, dec_le}
use native.Mathlib.Omega.{arith}
use Rattle.unify.specs.Term.{var, node, nil, ◌▸◌, Term, clash, width, sub, in?, same?}
use Rattle.unify.specs.Solver.{Sig, put, admit, join, joined, allow, any_soft, zip_on}
use Rattle.unify.specs.Expansion.{resolve, expand}
use Rattle.unify.specs.Orders.{Run, fresh, settle, issued?, Demand3}
use Rattle.unify.proofs.Demand.{Premises}
use Rattle.unify.specs.Table.{answer, walk, tie₁, tie₀, tie, part₁, part, differ, match, turn, settles}
use Rattle.unify.specs.Session.{Command, variable, number, pair, resolving, numbers, revision, Session, session_begin, sheet, AllAllowed}
use Rattle.unify.specs.Session.{Reply, term, verdict, changed, count, verdict_of, variable_at, if_issued, reply, replies, is_same}
use Rattle.unify.specs.Session.{fill, number_one, never_one, fill_numbers, fill_nevers, deferring, serve_variable, serve_hole, serve_number, serve_defer, lift, serve_pair, obey}
use Rattle.unify.proofs.Whole.{whole_demand_3}
use Rattle.unify.proofs.Unification1965.{decides, AsRobinson, algorithm_sheet}
use Rattle.unify.specs.Robinson1965.{unifier, without, rounds, again, step2, step3, replace, ordered, disagreement, or_else, images, others, value, has?, occurring, above, lefts, rights}

-- A head is a tag of document 01, one number (access, code, kind or id), and the other numbers: ids, counts of arguments, members.
pub data Head : Type 0 where
  head : ℕ → ℕ → List ℕ → Head

abbrev pub is : {P : Type 0} → Dec P → Bool
is (yes p) = true
is (no p) = false

-- (the library's `List-discrete` does not unfold, so nothing computed with it)
unfoldable pub list_discrete : Discrete (List ℕ)
list_discrete [] [] = yes refl
list_discrete [] (y ∷ ys) = no (λ e. clash (cc))
list_discrete (x ∷ xs) [] = no (λ e. clash (cc))
list_discrete (x ∷ xs) (y ∷ ys) = go (ℕ_discrete x y) (list_discrete xs ys)
  where
    go : Dec (x ≡ y) → Dec (xs ≡ ys) → Dec (x ∷ xs ≡ y ∷ ys)
    go (yes p) (yes q) = yes (λ i. p i ∷ q i)
    go (yes p) (no q) = no (λ e. q (cc))
    go (no p) d = no (λ e. p (cc))

unfoldable pub head_discrete : Discrete Head
head_discrete (head t m l) (head t' m' l') = go (ℕ_discrete t t') (ℕ_discrete m m') (list_discrete l l')
  where
    go : Dec (t ≡ t') → Dec (m ≡ m') → Dec (l ≡ l') → Dec (head t m l ≡ head t' m' l')
    go (yes p) (yes q) (yes r) = yes (λ i. head (p i) (q i) (r i))
    go (yes p) (yes q) (no r) = no (λ e. r (cc))
    go (yes p) (no q) d = no (λ e. q (cc))
    go (no p) c d = no (λ e. p (cc))

-- a family is named by its fallback: F64 (9) means F32 and F64, any other the eight integers
unfoldable pub floating : ℕ → Bool
floating f = is (ℕ_discrete f 9)

unfoldable pub in_family : Bool → ℕ → Bool
in_family true c = is (ℕ_discrete c 8) || is (ℕ_discrete c 9)
in_family false c = is (dec_lt c 8)

unfoldable pub kagari_admits : ℕ → Head → Bool
kagari_admits f (head t m l) = is (ℕ_discrete t 4) && in_family (floating f) m

-- two number variables meet if their kinds are the same; the fallback of the one that is bound goes on
unfoldable pub kagari_meet : ℕ → ℕ → Option ℕ
kagari_meet f g = cond (beq (floating f) (floating g)) (some f) none

-- Set and Map access read as ReadOnly
unfoldable pub loose : Head → Head
loose (head t m l) = head t (cond (is (ℕ_discrete t 10) || is (ℕ_discrete t 11)) 0 m) l

beq_eq : (a b : Bool) → beq a b ≡ true → a ≡ b
beq_eq true true p = refl
beq_eq true false p = clash (cc)
beq_eq false true p = clash (cc)
beq_eq false false p = refl

pub meet_kind : (f g e : ℕ) → kagari_meet f g ≡ some e → (floating f ≡ floating g) × (e ≡ f)
unfolding kagari_meet
meet_kind f g e = go (beq (floating f) (floating g)) refl
  where
    go : (b : Bool) → beq (floating f) (floating g) ≡ b → cond b (some f) none ≡ some e → (floating f ≡ floating g) × (e ≡ f)
    go true p q = (beq_eq (floating f) (floating g) p, cc)
    go false p q = clash (cc)

and_both : (a b : Bool) → (a && b) ≡ true → (a ≡ true) × (b ≡ true)
and_both true true p = (refl, refl)
and_both true false p = clash (cc)
and_both false b p = clash (cc)

is_true : {P : Type 0} (d : Dec P) → is d ≡ true → P
is_true (yes p) e = p
is_true (no p) e = clash (cc)

-- no code is of both kinds
kinds_apart : (a b : Bool) (c : ℕ) → beq a b ≡ false → in_family a c ≡ true → ¬ (in_family b c ≡ true)
unfolding in_family
kinds_apart true true c p q r = clash (cc)
kinds_apart false false c p q r = clash (cc)
kinds_apart true false c p q r = go (ℕ_discrete c 8) (ℕ_discrete c 9) (is_true (dec_lt c 8) r) q
  where
    go : (d : Dec (c ≡ 8)) (e : Dec (c ≡ 9)) → c < 8 → (is d || is e) ≡ true → ⊥
    go (yes d) e l x = omega arith
    go (no d) (yes e) l x = omega arith
    go (no d) (no e) l x = clash (cc)
kinds_apart false true c p q r = go (ℕ_discrete c 8) (ℕ_discrete c 9) (is_true (dec_lt c 8) q) r
  where
    go : (d : Dec (c ≡ 8)) (e : Dec (c ≡ 9)) → c < 8 → (is d || is e) ≡ true → ⊥
    go (yes d) e l x = omega arith
    go (no d) (yes e) l x = omega arith
    go (no d) (no e) l x = clash (cc)

pub kagari_meet_some : (f g e : ℕ) → kagari_meet f g ≡ some e → (h : Head) → (kagari_admits e h ≡ true) ↔ ((kagari_admits f h ≡ true) × (kagari_admits g h ≡ true))
unfolding kagari_admits
kagari_meet_some f g e p (head t m l) =
    let k = meet_kind f g e p in
    (λ a. (rw k.1 at a, rw (k.1, k.0) at a), λ a. rw k.1 a.0)

pub kagari_meet_none : (f g : ℕ) → kagari_meet f g ≡ none → (h : Head) → kagari_admits f h ≡ true → ¬ (kagari_admits g h ≡ true)
unfolding kagari_admits kagari_meet
kagari_meet_none f g p (head t m l) a b =
    go (beq (floating f) (floating g)) refl p
  where
    go : (x : Bool) → beq (floating f) (floating g) ≡ x → cond x (some f) none ≡ none → ⊥
    go true q r = clash (cc)
    go false q r = kinds_apart (floating f) (floating g) m q (and_both (is (ℕ_discrete t 4)) (in_family (floating f) m) a).1 (and_both (is (ℕ_discrete t 4)) (in_family (floating g) m) b).1

unfoldable pub kagari_pick : ℕ → Head
kagari_pick f = head 4 (cond (floating f) 9 2) []

pub kagari_pick_ok : (f : ℕ) → kagari_admits f (kagari_pick f) ≡ true
unfolding kagari_admits kagari_pick in_family ℕ_discrete dec_lt
kagari_pick_ok f = go (floating f)
  where
    go : (b : Bool) → in_family b (cond b 9 2) ≡ true
    go true = refl
    go false = refl

unfoldable pub kagari_soft : Head → Bool
kagari_soft (head t m l) = is (ℕ_discrete t 2) || is (ℕ_discrete t 3)

unfoldable pub kagari_rigid : Head → Bool
kagari_rigid (head t m l) = is (ℕ_discrete t 18)

-- The children of a head. Tuple and Function carry their count, a nominal (declaration, arguments, members) its arguments and members, a
-- projection (arguments; interface: declaration, arguments, members; member) all of these and the receiver.
unfoldable pub listed : List ℕ → ℕ
listed [] = 0
listed (d ∷ []) = 0
listed (d ∷ a ∷ ms) = a + length ms

unfoldable pub arity : Head → ℕ
arity (head t m l) =
    cond (is (ℕ_discrete t 5)) m
    (cond (is (ℕ_discrete t 6)) (m + 1)
    (cond (is (ℕ_discrete t 10)) 2
    (cond (is (ℕ_discrete t 0) || is (ℕ_discrete t 7) || is (ℕ_discrete t 8) || is (ℕ_discrete t 9) || is (ℕ_discrete t 11)) 1
    (cond (is (dec_lt 11 t) && is (dec_lt t 16)) (listed l)
    (cond (is (ℕ_discrete t 18)) (m + 1 + listed l) 0)))))

unfoldable pub kagari_shape : Head → ℕ → Bool
kagari_shape h c = is (ℕ_discrete c (arity h))

pub kagari_pick_plain : (f : ℕ) → (kagari_soft (kagari_pick f) ≡ false) × (kagari_rigid (kagari_pick f) ≡ false) × (kagari_shape (kagari_pick f) 0 ≡ true)
unfolding kagari_soft kagari_rigid kagari_pick kagari_shape arity ℕ_discrete dec_lt
kagari_pick_plain f = (refl, refl, refl)

pub kagari_some_plain : (kagari_soft (head 4 2 []) ≡ false) × (kagari_rigid (head 4 2 []) ≡ false) × (kagari_shape (head 4 2 []) 0 ≡ true)
unfolding kagari_soft kagari_rigid kagari_shape arity ℕ_discrete dec_lt
kagari_some_plain = (refl, refl, refl)

abbrev pub kagari : Sig
kagari = record {
  Head = Head;
  head? = head_discrete;
  soft = kagari_soft;
  rigid = kagari_rigid;
  shape = kagari_shape;
  some_head = head 4 2 [];
  some_plain = kagari_some_plain;
  Fam = ℕ;
  admits = kagari_admits;
  meet = kagari_meet;
  meet_some = kagari_meet_some;
  meet_none = kagari_meet_none;
  pick = kagari_pick;
  pick_ok = kagari_pick_ok;
  pick_plain = kagari_pick_plain;
}

-- a family does not see access
loose_admits : (f : ℕ) (h : Head) → kagari_admits f (loose h) ≡ kagari_admits f h
unfolding kagari_admits loose
loose_admits f (head t m l) = go (ℕ_discrete t 4) (ℕ_discrete t 10) (ℕ_discrete t 11)
  where
    go : (a : Dec (t ≡ 4)) (b : Dec (t ≡ 10)) (c : Dec (t ≡ 11)) → (is a && in_family (floating f) (cond (is b || is c) 0 m)) ≡ (is a && in_family (floating f) m)
    go (no a) b c = refl
    go (yes a) (yes b) c = absurd (omega arith)
    go (yes a) (no b) (yes c) = absurd (omega arith)
    go (yes a) (no b) (no c) = refl

pub loose_respects : (f : ℕ) (h k : Head) → loose h ≡ loose k → kagari_admits f h ≡ kagari_admits f k
loose_respects f h k p = sym (loose_admits f h) ∙ ap (kagari_admits f) p ∙ loose_admits f k

-- DEMAND 3 FOR KAGARI'S TERMS, up to Set and Map access. A numeric default takes its fallback, and Never is the builtin 10.
abbrev pub fallback : ℕ → Option ℕ → Head
fallback f o = head 4 f []

abbrev pub never_head : Head
never_head = head 4 10 []

abbrev pub kagari_sheet : List (Command kagari) → Run kagari (Session kagari fallback never_head)
kagari_sheet cs = sheet kagari fallback never_head loose cs

pub kagari_demand_3 : (cs : List (Command kagari)) → AllAllowed kagari fallback never_head loose (fresh kagari (session_begin kagari fallback never_head)) cs
    → Premises kagari loose loose_respects (kagari_sheet cs)
    → Demand3 kagari loose (kagari_sheet cs) (λ v. answer kagari (kagari_sheet cs).state.table (var v))
kagari_demand_3 = whole_demand_3 kagari fallback never_head loose loose_respects

-- and with access included (Wish 3, a session that poses only strict pairs)
abbrev pub exact : Head → Head
exact h = h

pub exact_respects : (f : ℕ) (h k : Head) → exact h ≡ exact k → kagari_admits f h ≡ kagari_admits f k
exact_respects f h k p = ap (kagari_admits f) p

pub kagari_strict_demand_3 : (cs : List (Command kagari)) → AllAllowed kagari fallback never_head exact (fresh kagari (session_begin kagari fallback never_head)) cs
    → Premises kagari exact exact_respects (sheet kagari fallback never_head exact cs)
    → Demand3 kagari exact (sheet kagari fallback never_head exact cs) (λ v. answer kagari (sheet kagari fallback never_head exact cs).state.table (var v))
kagari_strict_demand_3 = whole_demand_3 kagari fallback never_head exact exact_respects

-- ROBINSON 1965 DECIDES on plain pairs, in both.
pub kagari_robinson : (cs : List (Command kagari)) → AllAllowed kagari fallback never_head loose (fresh kagari (session_begin kagari fallback never_head)) cs
    → AsRobinson kagari loose loose_respects (kagari_sheet cs) (λ v. answer kagari (kagari_sheet cs).state.table (var v))
kagari_robinson = algorithm_sheet kagari loose loose_respects fallback never_head

pub kagari_strict_robinson : (cs : List (Command kagari)) → AllAllowed kagari fallback never_head exact (fresh kagari (session_begin kagari fallback never_head)) cs
    → AsRobinson kagari exact exact_respects (sheet kagari fallback never_head exact cs) (λ v. answer kagari (sheet kagari fallback never_head exact cs).state.table (var v))
kagari_strict_robinson = algorithm_sheet kagari exact exact_respects fallback never_head

-- MARKED LINES AND THE WORKED SESSION, run on the model.
abbrev pub I32 : Term Head
I32 = node (head 4 2 []) nil

abbrev pub array : Term Head → Term Head
array t = node (head 9 0 []) (t ▸ nil)

abbrev pub tuple₂ : Term Head → Term Head → Term Head
tuple₂ t u = node (head 5 2 []) (t ▸ u ▸ nil)

abbrev pub set_of : ℕ → Term Head → Term Head
set_of a t = node (head 11 a []) (t ▸ nil)

answers : (n : Head → Head) → List (Command kagari) → List (Reply kagari)
answers n cs = replies kagari fallback never_head n (fresh kagari (session_begin kagari fallback never_head)) cs

record Examples : Type 0 where
  -- two variables; Array(?0) meets Array(Tuple(?1, I32)); ?1 meets Array(?0), which contains it; ?0 resolved; the revision
  bar : answers loose (variable 7 0 ∷ variable 8 0 ∷ pair 9 (array (var 0)) (array (tuple₂ (var 1) I32)) ∷ pair 9 (var 1) (array (var 0)) ∷ resolving (var 0) ∷ revision ∷ [])
      ≡ term (var 0) ∷ term (var 1) ∷ verdict 1 ∷ verdict 0 ∷ term (tuple₂ (var 1) I32) ∷ count 1 ∷ []
  -- the first pair with k = 1 is cancelled unbound, with k = 2 it binds
  checks : answers loose (variable 7 0 ∷ variable 8 0 ∷ pair 1 (array (var 0)) (array (tuple₂ (var 1) I32)) ∷ revision ∷ pair 2 (array (var 0)) (array (tuple₂ (var 1) I32)) ∷ revision ∷ [])
      ≡ term (var 0) ∷ term (var 1) ∷ verdict 2 ∷ count 0 ∷ verdict 1 ∷ count 1 ∷ []
  -- ReadOnly and Mutable Set of I32 constrain compatibly by the one equality, and not by the other
  loosely : answers loose (pair 9 (set_of 0 I32) (set_of 1 I32) ∷ []) ≡ verdict 1 ∷ []
  strictly : answers exact (pair 9 (set_of 0 I32) (set_of 1 I32) ∷ []) ≡ verdict 0 ∷ []
  -- number variables: an integer one meets no F64 and no Tuple; two meet; a default fills what is left, through a binding
  numbered : answers loose (number 1 2 ∷ number 2 9 ∷ pair 9 (var 0) (var 1) ∷ pair 9 (var 0) (tuple₂ I32 I32) ∷ number 3 4 ∷ pair 9 (var 0) (var 2) ∷ numbers ∷ resolving (tuple₂ (var 0) (var 1)) ∷ revision ∷ [])
      ≡ term (var 0) ∷ term (var 1) ∷ verdict 0 ∷ verdict 0 ∷ term (var 2) ∷ verdict 1 ∷ changed true ∷ term (tuple₂ I32 (node (head 4 9 []) nil)) ∷ count 3 ∷ []

examples : Examples
unfolding answers loose head_discrete list_discrete kagari_soft kagari_rigid kagari_admits kagari_meet floating in_family ℕ_discrete dec_lt
    sub in? same? put admit join joined allow any_soft zip_on issued? resolve expand walk tie₁ tie₀ tie part₁ part differ match turn settles
    obey serve_variable serve_number serve_hole serve_defer serve_pair deferring lift settle fill number_one never_one fill_numbers fill_nevers
    verdict_of variable_at if_issued reply replies is_same
examples = record { bar = refl; checks = refl; loosely = refl; strictly = refl; numbered = refl }

-- The Unification Algorithm on the pairs of that session: the first alone, and both.
record PaperExamples : Type 0 where
  first_pair : decides kagari (head 5 1 []) ((array (var 0), array (tuple₂ (var 1) I32)) ∷ []) ≡ unifier ((0, tuple₂ (var 1) I32) ∷ [])
  both_pairs : decides kagari (head 5 2 []) ((array (var 0), array (tuple₂ (var 1) I32)) ∷ (var 1, array (var 0)) ∷ []) ≡ without

paper_examples : PaperExamples
unfolding rounds again step2 step3 replace ordered disagreement or_else images others value has? occurring above lefts rights width
    head_discrete list_discrete ℕ_discrete dec_le sub in? same?
paper_examples = record { first_pair = refl; both_pairs = refl }

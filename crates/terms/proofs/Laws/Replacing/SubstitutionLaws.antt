-- Laws of substitution: nothing changes nothing; a later entry replaces an earlier one, also across `extend`; `with_self` is `instantiate` with
-- one receiver; what is formed stays formed.
use mathlib.Core.Path.{◌≡◌, refl, sym, ap, ◌∙◌}
use mathlib.Core.Bool.{Bool, true, false}
use mathlib.Core.List.{List, [], ◌∷◌, ◌++◌}
use mathlib.Core.Option.{Option, none, some}
use Prim.Native.Nat.{ℕ}
use native.Mathlib.Omega.{arith}
use borrow.Author.Tests.{eq-eqb, ne_eqb, eqb-true}
use lib.Dec.{eqb}
use lib.ListN.{length}
use Rattle.terms.specs.Result.{pick}
use Rattle.terms.specs.Term.{Term, Parts, var, node, end, num, sub}
use Rattle.terms.specs.Tree.{tag}
use Rattle.terms.specs.Questions.{Parameter, same_parameter, contains, first}
use Rattle.terms.specs.Substitution.{or_else, or, substitute_once, substitute_row, Entry, Receiver, TypeSubstitution, get, receiver, extend, instantiated, instantiate, contextual, argument_context, self_of, with_self, zipped, apply}
use Rattle.terms.specs.Shape.{Shape, layout}
use Rattle.terms.specs.Formed.{Formed, Fit, after_number, after_term}

-- ---- `substitute_once`

-- it goes by what the step gives
module _ (f g : Term → Option Term) (same : (t : Term) → f t ≡ g t) where
  mutual
    unfolding substitute_once

    pub substitute_ext : (t : Term) → substitute_once f t ≡ substitute_once g t
    substitute_ext (var v) = rw (same (var v))
    substitute_ext (node k ps) = rw (same (node k ps), row_ext ps)

    row_ext : (ps : Parts) → substitute_row f ps ≡ substitute_row g ps
    row_ext end = refl
    row_ext (num n ps) = ap (λ (qs : Parts). num n qs) (row_ext ps)
    row_ext (sub t ps) = rw (substitute_ext t, row_ext ps)

-- a step that gives nothing changes nothing
module _ (f : Term → Option Term) (nothing : (t : Term) → f t ≡ none) where
  mutual
    unfolding substitute_once

    pub substitute_nothing : (t : Term) → substitute_once f t ≡ t
    substitute_nothing (var v) = rw (nothing (var v))
    substitute_nothing (node k ps) = rw (nothing (node k ps)) (ap (λ (qs : Parts). node k qs) (row_nothing ps))

    row_nothing : (ps : Parts) → substitute_row f ps ≡ ps
    row_nothing end = refl
    row_nothing (num n ps) = ap (λ (qs : Parts). num n qs) (row_nothing ps)
    row_nothing (sub t ps) = rw (substitute_nothing t, row_nothing ps)

-- what is formed stays formed, where the terms inserted are formed
unfoldable pub FormedOr : Option Term → Type 0
FormedOr none = Unit {0}
FormedOr (some u) = Formed u

pub or_formed : (o : Option Term) (t : Term) → FormedOr o → Formed t → Formed (or o t)
unfolding FormedOr
or_formed none t h f = f
or_formed (some u) t h f = h

module _ (f : Term → Option Term) (inserted : (t : Term) → FormedOr (f t)) where
  mutual
    unfolding substitute_once Formed

    pub substitute_formed : (t : Term) → Formed t → Formed (substitute_once f t)
    substitute_formed (var v) h = or_formed (f (var v)) (var v) (inserted (var v)) h
    substitute_formed (node k ps) h =
        or_formed (f (node k ps)) (node k (substitute_row f ps)) (inserted (node k ps)) (h.0, row_formed (layout k) ps h.1)

    row_formed : (r : Shape) (ps : Parts) → Fit r ps → Fit r (substitute_row f ps)
    row_formed r end h = h
    row_formed r (num n ps) h = (h.0, row_formed (after_number r n) ps h.1)
    row_formed r (sub t ps) h = (h.0, substitute_formed t h.1, row_formed (after_term r) ps h.2)

-- ---- `get`: the entries that come later win

pub else_none : (o : Option Term) → or_else o none ≡ o
else_none none = refl
else_none (some t) = refl

pub else_else : (o p q : Option Term) → or_else (or_else o p) q ≡ or_else o (or_else p q)
else_else none p q = refl
else_else (some t) p q = refl

-- of two lists the later is asked first: so it is for `extend`, whose entries come later
pub get_append : (es later : List Entry) (p : Parameter) → get (es ++ later) p ≡ or_else (get later p) (get es p)
unfolding get
get_append [] later p = sym (else_none (get later p))
get_append (e ∷ es) later p =
    rw (get_append es later p) (else_else (get later p) (get es p) (pick (same_parameter e.parameter p) (some e.term) none))

pub same_refl : (p : Parameter) → same_parameter p p ≡ true
unfolding same_parameter
same_refl p = rw (eq-eqb p.owner p.owner refl, eq-eqb p.position p.position refl)

-- what an entry says holds, whatever earlier entries say
pub get-last : (es : List Entry) (p : Parameter) (t : Term) → get (es ++ record { parameter = p; term = t } ∷ []) p ≡ some t
unfolding get
get-last es p t = get_append es (record { parameter = p; term = t } ∷ []) p ∙ rw (same_refl p)

-- an entry for another parameter says nothing of this one
pub get_other : (es : List Entry) (e : Entry) (p : Parameter) → same_parameter e.parameter p ≡ false → get (es ++ e ∷ []) p ≡ get es p
unfolding get
get_other es e p h = get_append es (e ∷ []) p ∙ rw h

-- ---- the uses

-- the substitution with no entry
abbrev pub nothing : TypeSubstitution
nothing = record { parameters = []; receivers = [] }

pick-none : (b : Bool) → ◌≡◌ {A = Option Term} (pick b none none) none
pick-none true = refl
pick-none false = refl

pub instantiate_nothing : (t : Term) → instantiate nothing t ≡ t
unfolding get receiver instantiated
instantiate_nothing = substitute_nothing (instantiated nothing) (λ t. rw (pick-none (eqb (tag t) 19)) (pick-none (eqb (tag t) 17)))

pub argument_context_nothing : (t : Term) → argument_context nothing [] t ≡ t
unfolding get contains contextual
argument_context_nothing = substitute_nothing (contextual nothing []) (λ t. pick-none (eqb (tag t) 17))

-- the receivers play no part in `argument_context`
pub argument_context_receivers : (es : List Entry) (rs : List Receiver) (ps : List Parameter) (t : Term)
    → argument_context (record { parameters = es; receivers = rs }) ps t ≡ argument_context (record { parameters = es; receivers = [] }) ps t
unfolding contextual
argument_context_receivers es rs ps = substitute_ext (contextual (record { parameters = es; receivers = rs }) ps) (contextual (record { parameters = es; receivers = [] }) ps) (λ t. refl)

-- `with_self` instantiates with one receiver and no parameter
abbrev pub self_only : ℕ → Term → TypeSubstitution
self_only owner u = record { parameters = []; receivers = record { owner = owner; term = u } ∷ [] }

eqb_sym : (a b : ℕ) → eqb a b ≡ eqb b a
eqb_sym a b = go (eqb a b) (eqb b a) refl refl
  where
    go : (x y : Bool) → eqb a b ≡ x → eqb b a ≡ y → x ≡ y
    go true true h k = refl
    go true false h k = sym (eq-eqb b a (sym (eqb-true a b h))) ∙ k
    go false true h k = sym h ∙ eq-eqb a b (sym (eqb-true b a k))
    go false false h k = refl

pub with_self_is : (owner : ℕ) (u t : Term) → with_self owner u t ≡ instantiate (self_only owner u) t
unfolding self_of instantiated get receiver
with_self_is owner u = substitute_ext (self_of owner u) (instantiated (self_only owner u)) step
  where
    step : (t : Term) → self_of owner u t ≡ instantiated (self_only owner u) t
    step t = go (eqb (tag t) 17) refl
      where
        go : (b : Bool) → eqb (tag t) 17 ≡ b
            → pick (eqb (tag t) 19) (pick (eqb (first t) owner) (some u) none) none ≡ pick b none (pick (eqb (tag t) 19) (or_else none (pick (eqb owner (first t)) (some u) none)) none)
        go true h = rw (ne_eqb (tag t) 19 (λ e. let z = eqb-true (tag t) 17 h in omega arith))
        go false h = rw (eqb_sym (first t) owner)

-- the family's arity
pub apply_none : (ps : List Parameter) (value : Term) (s : TypeSubstitution) (ts : List Term) → (length ts ≡ length ps → ⊥) → apply ps value s ts ≡ none
unfolding apply
apply_none ps value s ts h = rw (ne_eqb (length ts) (length ps) h)

pub apply_some : (ps : List Parameter) (value : Term) (s : TypeSubstitution) (ts : List Term) → length ts ≡ length ps
    → apply ps value s ts ≡ some (instantiate (extend s (zipped ps ts)) value)
unfolding apply
apply_some ps value s ts h = rw (eq-eqb (length ts) (length ps) h)

-- where it gives a term there are as many arguments as parameters, and it instantiates
pub apply_gives : (ps : List Parameter) (value : Term) (s : TypeSubstitution) (ts : List Term) (u : Term) → apply ps value s ts ≡ some u
    → (length ts ≡ length ps) × (instantiate (extend s (zipped ps ts)) value ≡ u)
unfolding apply
apply_gives ps value s ts u e = go (eqb (length ts) (length ps)) refl e
  where
    go : (b : Bool) → eqb (length ts) (length ps) ≡ b → pick b (some (instantiate (extend s (zipped ps ts)) value)) none ≡ some u
        → (length ts ≡ length ps) × (instantiate (extend s (zipped ps ts)) value ≡ u)
    go true h k = (eqb-true (length ts) (length ps) h, cc)
    go false h k = absurd (let z : ◌≡◌ {A = ℕ} 0 1 = cc in omega arith)

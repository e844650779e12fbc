-- Laws of requests with ranges: two that meet leave the types of both; Good ones meet in Good ones; what a default takes is admitted at the end of its
-- chain.
use mathlib.Core.Path.{◌≡◌, refl, ap, ap₂, sym, ◌∙◌, subst}
use mathlib.Core.Logic.{◌⊎◌, inl, inr}
use mathlib.Core.Bool.{Bool, true, false, ◌&&◌, ◌||◌, cond}
use mathlib.Core.Option.{Option, none, some}
use mathlib.Core.List.{List, [], ◌∷◌}
use Prim.Native.Nat.{ℕ}
use lib.Dec.{eqb}
use borrow.Author.Tests.{eq-eqb, eqb-true}
use Rattle.unify.specs.Term.{clash}
use Rattle.unify.specs.Ranged.{Numeric, code, among, Family, numerics, admits, integers, floats, family_of, sieve, gathered, Bound, at_most, holds}
use Rattle.unify.specs.Ranged.{Request, requested, request_of, joined_as, meet, preference, first_of, chosen, ranged_at, family_at, taken, Integral, Good}

-- ---- what a join admits

pub never_true : {A : Type 0} → false ≡ true → A
never_true e = clash (cc)

pub both : (a b : Bool) → (a && b) ≡ true → (a ≡ true) × (b ≡ true)
both true true e = (refl, refl)
both true false e = never_true e
both false b e = never_true e

-- what is left of a list by a test of codes
pub sieve_among : (p : ℕ → Bool) (c : ℕ) (l : List Numeric) → among c (sieve (λ x. p (code x)) l) ≡ (among c l && p c)
unfolding sieve among
sieve_among p c [] = refl
sieve_among p c (x ∷ l) = go (p (code x)) refl (eqb c (code x)) refl (sieve_among p c l)
  where
    no_more : (b : Bool) → (b && false) ≡ false
    no_more true = refl
    no_more false = refl

    go : (b : Bool) → p (code x) ≡ b → (e : Bool) → eqb c (code x) ≡ e → among c (sieve (λ x. p (code x)) l) ≡ (among c l && p c)
        → among c (cond b (x ∷ sieve (λ x. p (code x)) l) (sieve (λ x. p (code x)) l)) ≡ ((e || among c l) && p c)
    go true q true d h = rw (d, eqb-true c (code x) d, q)
    go true q false d h = rw d h
    go false q true d h = h ∙ rw (eqb-true c (code x) d, q) (no_more (among (code x) l))
    go false q false d h = h

gathered_none : (l : List Numeric) → gathered l ≡ none → l ≡ []
unfolding gathered
gathered_none [] e = refl
gathered_none (x ∷ l) e = clash (cc)

gathered_some : (l : List Numeric) (f : Family) → gathered l ≡ some f → numerics f ≡ l
unfolding gathered
gathered_some [] f e = clash (cc)
gathered_some (x ∷ l) f e = let p : record { one = x; more = l } ≡ f = cc in ap numerics (sym p)

-- the three parts of a meeting
pub record Meets (r s e : Request) : Type 0 where
  pub fallback : e.fallback ≡ r.fallback
  pub ranged : e.ranged ≡ (r.ranged || s.ranged)
  pub types : (c : ℕ) → admits e.family c ≡ (admits r.family c && admits s.family c)

pub meets : (r s e : Request) → meet r s ≡ some e → Meets r s e
unfolding meet joined_as
meets r s e p = go (gathered (sieve (λ x. admits s.family (code x)) (numerics r.family))) refl p
  where
    go : (o : Option Family) → gathered (sieve (λ x. admits s.family (code x)) (numerics r.family)) ≡ o
        → joined_as r.fallback (r.ranged || s.ranged) o ≡ some e → Meets r s e
    go none q h = clash (cc)
    go (some f) q h =
        let x : record { fallback = r.fallback; family = f; ranged = r.ranged || s.ranged } ≡ e = cc in
        record {
          fallback = ap (λ (y : Request). y.fallback) (sym x);
          ranged = ap (λ (y : Request). y.ranged) (sym x);
          types = λ c. ap (λ (y : Request). admits y.family c) (sym x)
              ∙ ap (among c) (gathered_some (sieve (λ x. admits s.family (code x)) (numerics r.family)) f q)
              ∙ sieve_among (λ d. admits s.family d) c (numerics r.family);
        }

pub misses : (r s : Request) → meet r s ≡ none → (c : ℕ) → admits r.family c ≡ true → ¬ (admits s.family c ≡ true)
unfolding meet joined_as among
misses r s p c a b = go (gathered (sieve (λ x. admits s.family (code x)) (numerics r.family))) refl p
  where
    l : List Numeric
    l = sieve (λ x. admits s.family (code x)) (numerics r.family)

    go : (o : Option Family) → gathered (sieve (λ x. admits s.family (code x)) (numerics r.family)) ≡ o → joined_as r.fallback (r.ranged || s.ranged) o ≡ none → ⊥
    go none q h =
        let e = sieve_among (λ d. admits s.family d) c (numerics r.family) in
        let d : among c (sieve (λ x. admits s.family (code x)) (numerics r.family)) ≡ false = ap (among c) (gathered_none (sieve (λ x. admits s.family (code x)) (numerics r.family)) q) in
        never_true (sym d ∙ e ∙ ap₂ ◌&&◌ a b)
    go (some f) q h = clash (cc)

pub admits_one : (f : Family) → admits f (code f.one) ≡ true
unfolding among
admits_one f = rw (eq-eqb (code f.one) (code f.one) refl)

-- ---- Good requests

pub integers_preferred : Integral integers
unfolding among code
integers_preferred c e = go (eqb c 0) (eqb c 1) (eqb c 2) (eqb c 3) (eqb c 4) (eqb c 5) (eqb c 6) (eqb c 7) e
  where
    go : (a b c d e f g h : Bool) → (a || (b || (c || (d || (e || (f || (g || (h || false)))))))) ≡ true → (c || (d || (g || (h || (a || (e || (b || (f || false)))))))) ≡ true
    go a b true d e f g h p = refl
    go a b false true e f g h p = refl
    go a b false false e f true h p = refl
    go a b false false e f false true p = refl
    go true b false false e f false false p = refl
    go false b false false true f false false p = refl
    go false true false false false f false false p = refl
    go false false false false false true false false p = refl
    go false false false false false false false false p = never_true p

sieve_part : (p : Numeric → Bool) (c : ℕ) (l : List Numeric) → among c (sieve p l) ≡ true → among c l ≡ true
unfolding sieve among
sieve_part p c [] e = e
sieve_part p c (x ∷ l) e = go (λ h. sieve_part p c l h) (p x) (eqb c (code x)) refl e
  where
    go : (among c (sieve p l) ≡ true → among c l ≡ true) → (b d : Bool) → eqb c (code x) ≡ d → among c (cond b (x ∷ sieve p l) (sieve p l)) ≡ true → (d || among c l) ≡ true
    go i b true q h = refl
    go i true false q h = i (rw q at h)
    go i false false q h = i h

-- a range keeps its fallback
pub range_made : (c : ℕ) (low high : Bound) (r : Request) → request_of c low high ≡ some r → (r.fallback ≡ c) × (r.ranged ≡ true)
unfolding request_of joined_as
range_made c low high r e = go (at_most low high) (gathered (sieve (holds low high) (numerics integers))) e
  where
    go : (b : Bool) (o : Option Family) → cond b (joined_as c true o) none ≡ some r → (r.fallback ≡ c) × (r.ranged ≡ true)
    go false o h = clash (cc)
    go true none h = clash (cc)
    go true (some f) h =
        let y : record { fallback = c; family = f; ranged = true } ≡ r = cc in
        (ap (λ (q : Request). q.fallback) (sym y), ap (λ (q : Request). q.ranged) (sym y))

-- a range requests Good
pub range_good : (c : ℕ) (low high : Bound) (r : Request) → request_of c low high ≡ some r → Good r
unfolding request_of joined_as gathered
range_good c low high r e = go (at_most low high) (sieve (holds low high) (numerics integers)) refl e
  where
    go : (b : Bool) (l : List Numeric) → sieve (holds low high) (numerics integers) ≡ l → cond b (joined_as c true (gathered l)) none ≡ some r → Good r
    go false l q h = clash (cc)
    go true [] q h = clash (cc)
    go true (x ∷ l) q h =
        let y : record { fallback = c; family = record { one = x; more = l }; ranged = true } ≡ r = cc in
        subst (λ (r : Request). Good r) y (inl (refl, λ d a. integers_preferred d (sieve_part (holds low high) d (numerics integers) (ap (among d) q ∙ a))))

-- a plain request with an integer or F64
pub plain_good : (c : ℕ) → admits (family_of c) c ≡ true → Good (requested c)
plain_good c e = inr (refl, refl, e)

-- ---- meetings

family_cases : (c : ℕ) → (family_of c ≡ floats) ⊎ (family_of c ≡ integers)
unfolding family_of
family_cases c = go (eqb c 9)
  where
    go : (b : Bool) → (cond b floats integers ≡ floats) ⊎ (cond b floats integers ≡ integers)
    go true = inl refl
    go false = inr refl

-- two plain ones
module _ (r s : Request) (b : r.ranged ≡ false) (d : s.ranged ≡ false) where
  meet_of : (f g : Family) → r.family ≡ f → s.family ≡ g → meet r s ≡ joined_as r.fallback false (gathered (sieve (λ x. admits g (code x)) (numerics f)))
  unfolding meet
  meet_of f g p q =
      ap₂ (λ (x y : Family). joined_as r.fallback (r.ranged || s.ranged) (gathered (sieve (λ z. admits y (code z)) (numerics x)))) p q
      ∙ ap (λ (y : Bool). joined_as r.fallback y (gathered (sieve (λ z. admits g (code z)) (numerics f)))) (ap₂ ◌||◌ b d)

  pub plain_floats : r.family ≡ floats → s.family ≡ floats → meet r s ≡ some (record { fallback = r.fallback; family = floats; ranged = false })
  unfolding joined_as gathered sieve among code
  plain_floats p q = meet_of floats floats p q

  pub plain_integers : r.family ≡ integers → s.family ≡ integers → meet r s ≡ some (record { fallback = r.fallback; family = integers; ranged = false })
  unfolding joined_as gathered sieve among code
  plain_integers p q = meet_of integers integers p q

  pub plain_apart : r.family ≡ floats → s.family ≡ integers → meet r s ≡ none
  unfolding joined_as gathered sieve among code
  plain_apart p q = meet_of floats integers p q

  pub plain_apart' : r.family ≡ integers → s.family ≡ floats → meet r s ≡ none
  unfolding joined_as gathered sieve among code
  plain_apart' p q = meet_of integers floats p q

or-true : (a b : Bool) → a ≡ true → (a || b) ≡ true
or-true true b e = refl
or-true false b e = never_true e

or_right : (a b : Bool) → b ≡ true → (a || b) ≡ true
or_right true b e = refl
or_right false b e = e

pub good_meet : (r s e : Request) → Good r → Good s → meet r s ≡ some e → Good e
good_meet r s e (inl x) y p =
    let m = meets r s e p in
    inl (m.ranged ∙ or-true r.ranged s.ranged x.0, λ c a. x.1 c (both (admits r.family c) (admits s.family c) (sym (m.types c) ∙ a)).0)
good_meet r s e (inr x) (inl y) p =
    let m = meets r s e p in
    inl (m.ranged ∙ or_right r.ranged s.ranged y.0, λ c a. y.1 c (both (admits r.family c) (admits s.family c) (sym (m.types c) ∙ a)).1)
good_meet r s e (inr x) (inr y) p = go (family_cases r.fallback) (family_cases s.fallback)
  where
    plain : (f : Family) → family_of r.fallback ≡ f → meet r s ≡ some (record { fallback = r.fallback; family = f; ranged = false }) → Good e
    plain f q h =
        let z : record { fallback = r.fallback; family = f; ranged = false } ≡ e = cc (h, p) in
        subst (λ (w : Request). Good w) z (inr (refl, sym q, x.2))

    go : (family_of r.fallback ≡ floats) ⊎ (family_of r.fallback ≡ integers) → (family_of s.fallback ≡ floats) ⊎ (family_of s.fallback ≡ integers) → Good e
    go (inl f) (inl g) = plain floats f (plain_floats r s x.0 y.0 (x.1 ∙ f) (y.1 ∙ g))
    go (inr f) (inr g) = plain integers f (plain_integers r s x.0 y.0 (x.1 ∙ f) (y.1 ∙ g))
    go (inl f) (inr g) = clash (cc (plain_apart r s x.0 y.0 (x.1 ∙ f) (y.1 ∙ g), p))
    go (inr f) (inl g) = clash (cc (plain_apart' r s x.0 y.0 (x.1 ∙ f) (y.1 ∙ g), p))

-- ---- defaults

-- if f admits one of the list, what is found is admitted
first_in : (c : ℕ) (f : Family) (d : ℕ) → admits f d ≡ true → (l : List Numeric) → among d l ≡ true → admits f (first_of c f l) ≡ true
unfolding first_of among
first_in c f d a [] e = never_true e
first_in c f d a (x ∷ l) e = go (λ h. first_in c f d a l h) (admits f (code x)) refl (eqb d (code x)) refl e
  where
    go : (among d l ≡ true → admits f (first_of c f l) ≡ true) → (b : Bool) → admits f (code x) ≡ b → (q : Bool) → eqb d (code x) ≡ q → (q || among d l) ≡ true → admits f (cond b (code x) (first_of c f l)) ≡ true
    go i true p q r h = p
    go i false p true r h = clash (cc (ap (λ (y : ℕ). admits f y) (eqb-true d (code x) r), a, p))
    go i false p false r h = i h

-- of integers, whatever the fallback, what is taken is admitted
pub chosen_in : (c : ℕ) (f : Family) → Integral f → admits f (chosen c f) ≡ true
unfolding chosen
chosen_in c f i = go (admits f c) refl
  where
    go : (b : Bool) → admits f c ≡ b → admits f (cond b c (first_of c f preference)) ≡ true
    go true p = p
    go false p = first_in c f (code f.one) (admits_one f) preference (i (code f.one) (admits_one f))

floats_apart : ((c : ℕ) → admits integers c ≡ true → admits floats c ≡ true) → ⊥
unfolding among code
floats_apart u = never_true (u 0 refl)

integers_apart : ((c : ℕ) → admits floats c ≡ true → admits integers c ≡ true) → ⊥
unfolding among code
integers_apart u = never_true (u 8 refl)

integral : (r : Request) → Good r → r.ranged ≡ true → Integral r.family
integral r (inl x) p = x.1
integral r (inr x) p = clash (cc (x.0, p))

-- where no range took part
plain_default : (f g : Request) → Good f → Good g → ((c : ℕ) → admits g.family c ≡ true → admits f.family c ≡ true) → f.ranged ≡ false → g.ranged ≡ false
    → admits g.family f.fallback ≡ true
plain_default f g (inl x) y u p q = clash (cc (x.0, p))
plain_default f g (inr x) (inl y) u p q = clash (cc (y.0, q))
plain_default f g (inr x) (inr y) u p q = go (family_cases f.fallback) (family_cases g.fallback)
  where
    moved : (a b : Family) → f.family ≡ a → g.family ≡ b → (c : ℕ) → admits b c ≡ true → admits a c ≡ true
    moved a b e d c h = ap (λ (z : Family). admits z c) (sym e) ∙ u c (ap (λ (z : Family). admits z c) d ∙ h)

    same : (a : Family) → family_of f.fallback ≡ a → family_of g.fallback ≡ a → admits g.family f.fallback ≡ true
    same a e d = ap (λ (z : Family). admits z f.fallback) (y.1 ∙ d ∙ sym e) ∙ x.2

    go : (family_of f.fallback ≡ floats) ⊎ (family_of f.fallback ≡ integers) → (family_of g.fallback ≡ floats) ⊎ (family_of g.fallback ≡ integers) → admits g.family f.fallback ≡ true
    go (inl e) (inl d) = same floats e d
    go (inr e) (inr d) = same integers e d
    go (inl e) (inr d) = absurd (floats_apart (moved floats integers (x.1 ∙ e) (y.1 ∙ d)))
    go (inr e) (inl d) = absurd (integers_apart (moved integers floats (x.1 ∙ e) (y.1 ∙ d)))

-- WHAT A DEFAULT TAKES IS ADMITTED at the end of its chain, whose types lie within those of f
pub taken_in : (f g : Request) → Good f → Good g → ((c : ℕ) → admits g.family c ≡ true → admits f.family c ≡ true) → admits g.family (taken f (some g)) ≡ true
unfolding taken ranged_at family_at
taken_in f g x y u = go f.ranged refl g.ranged refl
  where
    go : (a : Bool) → f.ranged ≡ a → (b : Bool) → g.ranged ≡ b → admits g.family (cond (a || b) (chosen f.fallback g.family) f.fallback) ≡ true
    go true p b q = chosen_in f.fallback g.family (λ c a. integral f x p c (u c a))
    go false p true q = chosen_in f.fallback g.family (integral g y q)
    go false p false q = plain_default f g x y u p q

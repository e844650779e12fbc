-- Lists of formed terms, and that the uses of substitution keep terms formed.
use mathlib.Core.Path.{◌≡◌, refl}
use mathlib.Core.Bool.{Bool, true, false}
use mathlib.Core.List.{List, [], ◌∷◌}
use mathlib.Core.Option.{Option, none, some}
use Prim.Native.Nat.{ℕ, zero, suc}
use native.Mathlib.Omega.{arith}
use lib.Dec.{eqb}
use Rattle.terms.specs.Parser.{Result, Parser, got, refused, bind, pick, number}
use Rattle.terms.specs.Term.{Term}
use Rattle.terms.specs.Shape.{definition, ordinary, ceiling, kind_of}
use Rattle.terms.specs.Formed.{Formed, Each}
use Rattle.terms.specs.Tree.{tag, unknown}
use Rattle.terms.specs.Questions.{Parameter, same_parameter, contains, first, parameter_of}
use Rattle.terms.specs.Substitution.{or_else, Entry, Receiver, get, receiver, instantiated, instantiate, contextual, argument_context}
use Rattle.terms.specs.Rows.{entries, receivers, arguments}
use Rattle.terms.proofs.Laws.Replacing.SubstitutionLaws.{FormedOr, substitute_formed}

-- each term of a list has P
unfoldable pub EachEntry : (Term → Type 0) → List Entry → Type 0
EachEntry P [] = Unit {0}
EachEntry P (e ∷ es) = P e.term × EachEntry P es

unfoldable pub EachReceiver : (Term → Type 0) → List Receiver → Type 0
EachReceiver P [] = Unit {0}
EachReceiver P (r ∷ rs) = P r.term × EachReceiver P rs

-- ---- what is read has what its terms have

-- a result that was found came from one that was found
from : {A B : Type 0} (r : Result A) (k : A → Parser B) (b : B) (n : ℕ) → bind r k ≡ got b n → (a : A) × (m : ℕ) × (r ≡ got a m) × (k a m ≡ got b n)
from (got a m) k b n e = (a, m, refl, e)
from (refused c) k b n e = absurd (let z : ◌≡◌ {A = ℕ} 0 1 = cc in omega arith)

got_same : {A : Type 0} {a b : A} {m n : ℕ} → got a m ≡ got b n → a ≡ b
got_same e = cc

module _ (s : List ℕ) (term : Parser Term) (P : Term → Type 0) (good : (at : ℕ) (t : Term) (n : ℕ) → term at ≡ got t n → P t) where
  pub each_entry : (n at : ℕ) (es : List Entry) (m : ℕ) → entries s term n at ≡ got es m → EachEntry P es
  unfolding entries EachEntry
  each_entry zero at [] m e = tt
  each_entry zero at (x ∷ es) m e = absurd (let z : ◌≡◌ {A = ℕ} 0 1 = cc in omega arith)
  each_entry (suc n) at es m e =
      let a = from (number s (ceiling definition) at) _ es m e in
      let b = from (number s (ceiling ordinary) a.1) _ es m a.3 in
      let t = from (term b.1) _ es m b.3 in
      let r = from (entries s term n t.1) _ es m t.3 in
      let x : record { parameter = record { owner = a.0; position = b.0 }; term = t.0 } ∷ r.0 ≡ es = got_same r.3 in
      rw (← x) (good b.1 t.0 t.1 t.2, each_entry n t.1 r.0 r.1 r.2)

  pub each_receiver : (n at : ℕ) (rs : List Receiver) (m : ℕ) → receivers s term n at ≡ got rs m → EachReceiver P rs
  unfolding receivers EachReceiver
  each_receiver zero at [] m e = tt
  each_receiver zero at (x ∷ rs) m e = absurd (let z : ◌≡◌ {A = ℕ} 0 1 = cc in omega arith)
  each_receiver (suc n) at rs m e =
      let a = from (number s (ceiling definition) at) _ rs m e in
      let t = from (term a.1) _ rs m a.3 in
      let r = from (receivers s term n t.1) _ rs m t.3 in
      let x : record { owner = a.0; term = t.0 } ∷ r.0 ≡ rs = got_same r.3 in
      rw (← x) (good a.1 t.0 t.1 t.2, each_receiver n t.1 r.0 r.1 r.2)

  pub each_argument : (n at : ℕ) (ts : List Term) (m : ℕ) → arguments s term n at ≡ got ts m → Each P ts
  unfolding arguments Each
  each_argument zero at [] m e = tt
  each_argument zero at (x ∷ ts) m e = absurd (let z : ◌≡◌ {A = ℕ} 0 1 = cc in omega arith)
  each_argument (suc n) at ts m e =
      let t = from (term at) _ ts m e in
      let r = from (arguments s term n t.1) _ ts m t.3 in
      let x : t.0 ∷ r.0 ≡ ts = got_same r.3 in
      rw (← x) (good at t.0 t.1 t.2, each_argument n t.1 r.0 r.1 r.2)

-- ---- what is found among formed terms is formed

pub formed_else : (o p : Option Term) → FormedOr o → FormedOr p → FormedOr (or_else o p)
unfolding FormedOr
formed_else none p h k = k
formed_else (some t) p h k = h

pub formed_pick : (b : Bool) (o p : Option Term) → FormedOr o → FormedOr p → FormedOr (pick b o p)
formed_pick true o p h k = h
formed_pick false o p h k = k

pub get_formed : (es : List Entry) (p : Parameter) → EachEntry Formed es → FormedOr (get es p)
unfolding get EachEntry FormedOr
get_formed [] p h = tt
get_formed (e ∷ es) p h = formed_else (get es p) _ (get_formed es p h.1) (formed_pick (same_parameter e.parameter p) (some e.term) none h.0 tt)

pub receiver_formed : (rs : List Receiver) (o : ℕ) → EachReceiver Formed rs → FormedOr (receiver rs o)
unfolding receiver EachReceiver FormedOr
receiver_formed [] o h = tt
receiver_formed (r ∷ rs) o h = formed_else (receiver rs o) _ (receiver_formed rs o h.1) (formed_pick (eqb r.owner o) (some r.term) none h.0 tt)

-- ---- the uses keep terms formed

module _ (es : List Entry) (rs : List Receiver) (he : EachEntry Formed es) (hr : EachReceiver Formed rs) where
  pub instantiate_formed : (t : Term) → Formed t → Formed (instantiate (record { parameters = es; receivers = rs }) t)
  unfolding instantiated FormedOr
  instantiate_formed =
      substitute_formed (instantiated (record { parameters = es; receivers = rs })) (λ t.
      formed_pick (eqb (tag t) 17) _ _ (get_formed es (parameter_of t) he) (formed_pick (eqb (tag t) 19) _ none (receiver_formed rs (first t) hr) tt))

  pub argument_context_formed : (ps : List Parameter) (t : Term) → Formed t → Formed (argument_context (record { parameters = es; receivers = rs }) ps t)
  unfolding contextual FormedOr Formed kind_of
  argument_context_formed ps =
      substitute_formed (contextual (record { parameters = es; receivers = rs }) ps) (λ t.
      formed_pick (eqb (tag t) 17) _ none (formed_else (get es (parameter_of t)) _ (get_formed es (parameter_of t) he) (formed_pick (contains ps (parameter_of t)) (some unknown) none (refl, refl) tt)) tt)

-- What the functions that answer are told by those of crate terms, as answers in the output.
use mathlib.Core.Path.{◌≡◌, refl, sym, ap, ap₂, subst, ◌∙◌}
use mathlib.Core.Bool.{Bool, true, false, not}
use mathlib.Core.List.{List, [], ◌∷◌, ◌++◌}
use mathlib.Core.Option.{some}
use denote.Param.Members.{Mut, Called}
use Rattle.std.specs.Iterator.{ActsAs}
use Rattle.std.specs.Array.{MapsFrom, IsMapOf}
use Rattle.std.specs.Prelude.{map}
use Prim.Native.Nat.{ℕ, zero, suc, ◌+◌, ◌≤◌, ◌<◌}
use native.Mathlib.Omega.{arith}
use native.Mathlib.Numerals.{add-one}
use borrow.Author.Tests.{lt-ltb, le-ltb, eq-eqb, ne_eqb, eqb-false}
use lib.ListN.{length, length-append, set, drop, drop_of_length-le}
use lib.Seq.{sets, drop-cons}
use Rattle.solver.specs.TermTypes.{Binders, Parameter, Parameters}
use Rattle.solver.specs.Terms.Result.{got}
use Rattle.solver.specs.Terms.Parameters.{parameters, listed}
use Rattle.solver.proofs.Terms.HeldLaws.{items_some}
use Rattle.solver.specs.Terms.Term.{Term, bytes, Held}
use Rattle.solver.specs.Terms.Questions.{asked, answered, number_of_question}
use Rattle.solver.specs.TermTypes.{Question, IsNever, IsInteger, IsConcrete, IsUnresolved, ContainsUnknown, ContainsSelfType, ContainsProjection, IsResolvedIn}
use Rattle.solver.specs.Terms.Substitution.{Entry, Receiver, apply, instantiate, extend, zipped}
use Rattle.solver.specs.Terms.RewriteContract.{Rewrites, Writes}
use Rattle.solver.specs.Terms.Normal.{Out, levels, most}
use Rattle.solver.specs.Terms.NormalContract.{answer_number, number_for, Answers, Stands}
use Rattle.solver.proofs.Terms.NormalLaws.{refused_number, few_number, long_number}
use Rattle.solver.specs.declared.Ready.{Ready}
use Rattle.solver.specs.declared.Unfinished.{Unfinished}
use Rattle.solver.specs.declared.Unfinished.TheVariants.{TooMany, TooLong}
use Rattle.std.specs.Prelude.{Option, Some, None, Result, Ok, Err}
use Rattle.sheet.specs.OrderTable.{Answer, refusal, outcome}
use Rattle.sheet.specs.Operations.{perhaps, settled}
use Rattle.sheet.specs.Words.FramingContract.{Framed, opening, Begun}
use Rattle.sheet.proofs.Laws.Answering.FramingLaws.{value_frame, frame_over, value_in, value_over}

-- ---- in the places of equals

pub frame_as : (a b : Answer) → a ≡ b → (out₀ : List ℕ) (to : ℕ) (out : List ℕ) (r : Option ℕ) → Framed a out₀ to out r → Framed b out₀ to out r
frame_as a b e out₀ to out r x = rw e at x

pub frame_from : (a : Answer) (out₁ out₀ : List ℕ) → out₁ ≡ out₀ → (to : ℕ) (out : List ℕ) (r : Option ℕ) → Framed a out₁ to out r → Framed a out₀ to out r
frame_from a out₁ out₀ e to out r x = rw e at x

pub one_byte : (a b : ℕ) → a ≡ b → outcome (a ∷ []) ≡ outcome (b ∷ [])
one_byte a b e = rw e

pub two_bytes : (a b c d : ℕ) → a ≡ c → b ≡ d → outcome (a ∷ b ∷ []) ≡ outcome (c ∷ d ∷ [])
two_bytes a b c d p q = rw (p, q)

-- ---- places

pub held_in : (ks vs : List ℕ) (p : ℕ) (t : Term) → Held ks vs p t → p < length ks
held_in ks vs p t h = omega (arith, h.within, items_some t)

-- ---- orders 12, 13, 14 and 18

module _ (ks vs : List ℕ) (b : Binders) (a : ℕ) where
  -- what holds of the bytes by one writing or by two
  pub rewrites_one : (P Q : List ℕ → Type 0) → ((x : List ℕ) → P x → Q x) → Rewrites ks vs b a P → Rewrites ks vs b a Q
  rewrites_one P Q f r = record {
    instantiated = λ t es rs x h k e. f _ (r.instantiated t es rs x h k e);
    in_context = λ t es rs ps x h k e. f _ (r.in_context t es rs ps x h k e);
    with_self = λ t o u x h k e. f _ (r.with_self t o u x h k e);
    applied = λ t es rs ps ts l i e u x h k g c d. f _ (r.applied t es rs ps ts l i e u x h k g c d);
  }

  pub rewrites_two : (P Q R : List ℕ → Type 0) → ((x : List ℕ) → P x → Q x → R x) → Rewrites ks vs b a P → Rewrites ks vs b a Q → Rewrites ks vs b a R
  rewrites_two P Q R f q r = record {
    instantiated = λ t es rs x h k e. f _ (q.instantiated t es rs x h k e) (r.instantiated t es rs x h k e);
    in_context = λ t es rs ps x h k e. f _ (q.in_context t es rs ps x h k e) (r.in_context t es rs ps x h k e);
    with_self = λ t o u x h k e. f _ (q.with_self t o u x h k e) (r.with_self t o u x h k e);
    applied = λ t es rs ps ts l i e u x h k g c d. f _ (q.applied t es rs ps ts l i e u x h k g c d) (r.applied t es rs ps ts l i e u x h k g c d);
  }

-- x was counted, an opening made for it, and it was written or did not fit
module _ (out₀ out₁ : List ℕ) (n to : ℕ) (out₂ : List ℕ) (x : List ℕ) (c : Writes false out₀ 0 n out₁ x) where
  pub counted_over : Begun n out₁ to out₂ None → Framed (outcome x) out₀ to out₂ None
  counted_over y =
      let e : out₁ ≡ out₀ = c.wrote in
      frame_from (outcome x) out₁ out₀ e to out₂ None (value_over x n (omega (arith, c.next)) out₁ to out₂ y)

  pub counted_in : (at : ℕ) → Begun n out₁ to out₂ (Some at) → (out : List ℕ) (r : ℕ) → Writes true out₂ at r out x → Framed (outcome x) out₀ to out (Some r)
  counted_in at y out r w =
      let e : out₁ ≡ out₀ = c.wrote in
      frame_from (outcome x) out₁ out₀ e to out (Some r) (value_in x n (omega (arith, c.next)) out₁ to out₂ at y out r w.next w.wrote)

  -- the same after a 1
  pub one_over : Begun (n + 1) out₁ to out₂ None → Framed (outcome (1 ∷ x)) out₀ to out₂ None
  one_over y =
      let e : out₁ ≡ out₀ = c.wrote in
      frame_from (outcome (1 ∷ x)) out₁ out₀ e to out₂ None (value_over (1 ∷ x) (n + 1) (omega (arith, c.next)) out₁ to out₂ y)

  pub one_in : (at : ℕ) → Begun (n + 1) out₁ to out₂ (Some at) → (out : List ℕ) (r : ℕ) → Writes true (set out₂ at 1) (at + 1) r out x
      → Framed (outcome (1 ∷ x)) out₀ to out (Some r)
  one_in at y out r w =
      let e : out₁ ≡ out₀ = c.wrote in
      let f : out ≡ sets out₂ at (1 ∷ x) = w.wrote ∙ ap (λ (k : ℕ). sets (set out₂ at 1) k x) (add-one at) in
      frame_from (outcome (1 ∷ x)) out₁ out₀ e to out (Some r) (value_in (1 ∷ x) (n + 1) (omega (arith, c.next)) out₁ to out₂ at y out r (omega (arith, w.next)) f)

-- whether there is a term
pub apply_none : (ps : List Parameter) (t : Term) (es : List Entry) (rs : List Receiver) (ts : List Term) → (length ts ≡ length ps → ⊥) → perhaps (apply ps t (record { parameters = es; receivers = rs }) ts) ≡ 0 ∷ []
unfolding apply perhaps
apply_none ps t es rs ts h = rw (ne_eqb (length ts) (length ps) h)

pub apply_some : (ps : List Parameter) (t : Term) (es : List Entry) (rs : List Receiver) (ts : List Term) → length ts ≡ length ps
    → (u : Term) × (apply ps t (record { parameters = es; receivers = rs }) ts ≡ some u)
unfolding apply
apply_some ps t es rs ts h = (instantiate (extend (record { parameters = es; receivers = rs }) (zipped ps ts)) t, rw (eq-eqb (length ts) (length ps) h))

pub perhaps_some : (ps : List Parameter) (t : Term) (es : List Entry) (rs : List Receiver) (ts : List Term) (u : Term) → apply ps t (record { parameters = es; receivers = rs }) ts ≡ some u
    → outcome (1 ∷ bytes u) ≡ outcome (perhaps (apply ps t (record { parameters = es; receivers = rs }) ts))
unfolding perhaps
perhaps_some ps t es rs ts u e = rw e

-- ---- order 15

pub no_parameters : (l : Parameters) → l.count ≡ 0 → listed l ≡ got [] l.at
unfolding parameters
no_parameters l e = rw e refl

pub contrary : (q : Question) (t : Term) (b : Bool) → q ≡ IsConcrete → b ≡ asked [] (number_of_question q) t → not b ≡ answered (number_of_question q) t
unfolding answered
contrary q t b e h = rw (h, eq-eqb (number_of_question q) 2 (ap number_of_question e))

pub plainly : (q : Question) (t : Term) (b : Bool) → (q ≡ IsConcrete → ⊥) → b ≡ asked [] (number_of_question q) t → b ≡ answered (number_of_question q) t
unfolding answered
plainly q t b e h = rw (h, ne_eqb (number_of_question q) 2 (other q e))
  where
    other : (q : Question) → (q ≡ IsConcrete → ⊥) → number_of_question q ≡ 2 → ⊥
    other IsNever d z = absurd (omega (arith, z))
    other IsInteger d z = absurd (omega (arith, z))
    other IsConcrete d z = d refl
    other IsUnresolved d z = absurd (omega (arith, z))
    other ContainsUnknown d z = absurd (omega (arith, z))
    other ContainsSelfType d z = absurd (omega (arith, z))
    other ContainsProjection d z = absurd (omega (arith, z))
    other IsResolvedIn d z = absurd (omega (arith, z))

-- what `map` gives of an array, where each call gives what h gives and leaves the function as it was
pub maps_all : {F A : Type 0} (g : Mut F (A × Unit {0}) ℕ) (s : F) (xs : List A) (ys : List ℕ) → IsMapOf g s xs ys (length xs) → (h : A → ℕ) → ActsAs g s h → ys ≡ map h xs
maps_all {F} {A} g s xs ys M h acts = go (length xs) 0 s refl (omega arith) M.each
  where
    go : (n i : ℕ) (f : F) → f ≡ s → i + n ≡ length xs → MapsFrom g f xs ys i n → drop i ys ≡ map h (drop i xs)
    go zero i f e l m = drop_of_length-le ys {i = i} (omega (arith, M.long)) ∙ ap (map h) (sym (drop_of_length-le xs {i = i} (omega arith)))
    go (suc n) i f e l m =
        let c = acts m.1 m.2 m.0 (subst (λ (z : F). Called g z (m.1, tt) m.2 m.0) e m.5) in
        let rest : drop (suc i) ys ≡ map h (drop (suc i) xs) = go n (suc i) m.0 c.0 (omega arith) (rw (add-one i) at m.6) in
        drop-cons ys i 0 (omega (arith, M.long))
        ∙ ap₂ (λ (y : ℕ) (zs : List ℕ). y ∷ zs) (m.4.1 0 ∙ c.1) rest
        ∙ ap (map h) (ap (λ (x : A). x ∷ drop (suc i) xs) (sym m.3.0) ∙ sym (drop-cons xs i m.1 (omega arith)))

-- ---- orders 19 and 20

pub settled_refused : (o : Out) → most < o.count → refusal 9 ≡ settled o
unfolding settled
settled_refused o h = rw (lt-ltb most o.count h)

pub settled_term : (o : Out) → o.count ≤ most → outcome (bytes o.term) ≡ settled o
unfolding settled
settled_term o h = rw (le-ltb most o.count h)

-- a value that alone does not fit
pub value_long : (v out : List ℕ) (to : ℕ) → length out < to + length v → Framed (outcome v) out to out None
value_long v out to h =
    frame_over (outcome v) (opening (length v) ++ v) (value_frame v) out to out (omega (arith, length-append (opening (length v)) v)) refl

-- the answers
module _ (ks vs hs cs out₀ : List ℕ) (to : ℕ) (r : Result Ready Unfinished) (o : Out) (x : Answers ks vs hs cs out₀ to levels most o r) where
  number_is : (n : ℕ) → answer_number r ≡ n → n ≡ number_for most (length out₀) to o
  number_is n e = sym e ∙ x.number

  few_as : (n : ℕ) → answer_number r ≡ n → (9 ≡ n → ⊥) → o.count ≤ most
  few_as n e f = few_number most (length out₀) to o (λ z. f (z ∙ sym (number_is n e)))

  pub answers_many : r ≡ Err TooMany → refusal 9 ≡ settled o
  answers_many e = settled_refused o (refused_number most (length out₀) to o (number_is 9 (ap answer_number e)))

  pub answers_long : r ≡ Err TooLong → Framed (settled o) out₀ to out₀ None
  answers_long e =
      let l = long_number most (length out₀) to o (number_is 11 (ap answer_number e)) in
      frame_as (outcome (bytes o.term)) (settled o) (settled_term o (few_as 11 (ap answer_number e) (eqb-false 9 11 refl))) out₀ to out₀ None (value_long (bytes o.term) out₀ to l)

  pub answers_done : (w : Ready) → r ≡ Ok w → (o.count ≤ most) × (w.size ≡ length (bytes o.term)) × Stands ks vs hs cs w levels o.term
  answers_done w e =
      let y : (w.size ≡ length (bytes o.term)) × Stands ks vs hs cs w levels o.term = rw e at x.values in
      (few_as 0 (ap answer_number e) (eqb-false 9 0 refl), y.0, y.1)

-- what is looked for is found in the same output
pub answers_from : (ks vs hs cs out₀ out₁ : List ℕ) (to : ℕ) (o : Out) (r : Result Ready Unfinished) → out₁ ≡ out₀ → Answers ks vs hs cs out₀ to levels most o r
    → Answers ks vs hs cs out₁ to levels most o r
answers_from ks vs hs cs out₀ out₁ to o r e x = rw (sym e) at x

-- The rows of nominals and projections: what fits their shapes, and what the definitions take from it.
use mathlib.Core.Path.{◌≡◌, refl, sym, ap, subst, ◌∙◌}
use mathlib.Core.Bool.{false, ◌&&◌}
use mathlib.Core.List.{List, [], ◌∷◌, ◌++◌, append-nil}
use Prim.Native.Nat.{ℕ, zero, suc, ◌+◌, ◌≤◌}
use native.Mathlib.Nat.{suc-add}
use native.Mathlib.Omega.{arith}
use borrow.Author.Tests.{ne_eqb}
use lib.Dec.{eqb}
use lib.ListN.{length, get_or}
use lib.Seq.{take-append_seam, drop-append_seam, get_or-append_seam, drop-append-add}
use Rattle.terms.specs.Term.{Term, Parts, var, node, end, num, sub, items, Subs}
use Rattle.terms.specs.Words.Held.{Held, HeldParts}
use Rattle.terms.specs.Shape as shape
use Rattle.terms.specs.Shape.{Shape, layout, nominal, projection, many_terms, many_members}
use Rattle.terms.specs.Formed.{Formed, Fit, TakesNumber, TakesTerm, after_number, after_term}
use Rattle.terms.specs.Tree.{nums, subs, row, tag, same, Nominal, nominal_of, interface_of, receiver_of, member_of, arguments_of, put_terms, put_members}
use Rattle.terms.specs.Comparison.{no_terms, satisfies, reflexive}
use Rattle.terms.specs.Words.SatisfyContract.{heading, pairing, nominal_row, Laid}
use Rattle.terms.proofs.Laws.Held.HeldLaws.{head_kind, held_first, held_num, held_sub, held_node}
use Rattle.terms.proofs.Laws.Format.ShapeLaws.{More, some_done}

-- ---- the numbers and the terms of a row

nums_terms : (ts : List Term) (ps : Parts) → nums (put_terms ts ps) ≡ nums ps
unfolding put_terms nums
nums_terms [] ps = refl
nums_terms (t ∷ ts) ps = nums_terms ts ps

subs_terms : (ts : List Term) (ps : Parts) → subs (put_terms ts ps) ≡ ts ++ subs ps
unfolding put_terms subs
subs_terms [] ps = refl
subs_terms (t ∷ ts) ps = ap (λ (l : List Term). t ∷ l) (subs_terms ts ps)

nums_members : (ms : List ℕ) (ts : List Term) (ps : Parts) → length ts ≡ length ms → nums (put_members ms ts ps) ≡ ms ++ nums ps
unfolding put_members nums
nums_members [] ts ps h = refl
nums_members (m ∷ ms) [] ps h = absurd (omega arith)
nums_members (m ∷ ms) (t ∷ ts) ps h = ap (λ (l : List ℕ). m ∷ l) (nums_members ms ts ps (omega arith))

subs_members : (ms : List ℕ) (ts : List Term) (ps : Parts) → length ts ≡ length ms → subs (put_members ms ts ps) ≡ ts ++ subs ps
unfolding put_members subs
subs_members [] [] ps h = refl
subs_members [] (t ∷ ts) ps h = absurd (omega arith)
subs_members (m ∷ ms) [] ps h = absurd (omega arith)
subs_members (m ∷ ms) (t ∷ ts) ps h = ap (λ (l : List Term). t ∷ l) (subs_members ms ts ps (omega arith))

module _ (a : Nominal) (rest : Parts) (h : length a.values ≡ length a.members) where
  nums_nominal : nums (nominal_row a rest) ≡ a.declaration ∷ length a.arguments ∷ length a.members ∷ (a.members ++ nums rest)
  unfolding nums
  nums_nominal = rw (nums_terms, nums_members a.members a.values rest h)

  subs_nominal : subs (nominal_row a rest) ≡ a.arguments ++ (a.values ++ subs rest)
  unfolding subs
  subs_nominal = rw (subs_terms, subs_members a.members a.values rest h)

  -- a nominal is read back from its row
  pub nominal_is : nominal_of (nominal_row a rest) ≡ a
  unfolding nominal_of
  nominal_is = rw (nums_nominal, subs_nominal, take-append_seam, take-append_seam, drop-append_seam, ← h, take-append_seam)

-- and the parts of a projection from its row
one_more : (n : ℕ) → 1 + n ≡ suc n
one_more n = omega arith

nums_sub : (t : Term) (ps : Parts) → nums (sub t ps) ≡ nums ps
unfolding nums
nums_sub t ps = refl

subs_sub : (t : Term) (ps : Parts) → subs (sub t ps) ≡ t ∷ subs ps
unfolding subs
subs_sub t ps = refl

module _ (r : Term) (a : Nominal) (rest : Parts) (h : length a.values ≡ length a.members) where
  pub interface_is : interface_of (sub r (nominal_row a rest)) ≡ a
  unfolding interface_of
  interface_is =
      rw (nums_sub, subs_sub, nums_nominal a rest h, subs_nominal a rest h, one_more, take-append_seam, take-append_seam, drop-append_seam, ← h, take-append_seam)

  pub arguments_are : arguments_of (sub r (nominal_row a rest)) ≡ subs rest
  unfolding arguments_of
  arguments_are =
      rw (nums_sub, subs_sub, nums_nominal a rest h, subs_nominal a rest h, one_more, suc-add, drop-append-add, ← h, drop-append_seam)

three_more : (n : ℕ) → 3 + n ≡ suc (suc (suc n))
three_more n = omega arith

nums_num : (m : ℕ) (ps : Parts) → nums (num m ps) ≡ m ∷ nums ps
unfolding nums
nums_num m ps = refl

pub member_is : (r : Term) (a : Nominal) (m : ℕ) (more : Parts) → length a.values ≡ length a.members → member_of (sub r (nominal_row a (num m more))) ≡ m
unfolding member_of
member_is r a m more h = rw (nums_sub, nums_nominal a (num m more) h, nums_num, three_more, get_or-append_seam)

-- ---- rows that fit

fit_number : (f : shape.Sort) (s : Shape) (ps : Parts) → Fit (shape.number f s) ps → (n : ℕ) × (qs : Parts) × (ps ≡ num n qs) × Fit s qs
unfolding Fit TakesTerm after_number More
fit_number f s end h = absurd (some_done (shape.number f s) tt h)
fit_number f s (num n ps) h = (n, ps, refl, h.1)
fit_number f s (sub t ps) h = absurd h.0

fit_many : (n : ℕ) (s : Shape) (ps : Parts) → Fit (many_terms n s) ps → (ts : List Term) × (qs : Parts) × (ps ≡ put_terms ts qs) × (length ts ≡ n) × Fit s qs
unfolding Fit many_terms TakesNumber after_term put_terms More
fit_many zero s ps h = ([], ps, refl, refl, h)
fit_many (suc n) s end h = absurd (some_done (shape.term (many_terms n s)) tt h)
fit_many (suc n) s (num m ps) h = absurd h.0
fit_many (suc n) s (sub t ps) h =
    let r = fit_many n s ps h.2 in
    (t ∷ r.0, r.1, ap (λ (qs : Parts). sub t qs) r.2, ap suc r.3, r.4)

num_same : {n m : ℕ} {ps qs : Parts} → m ≡ n → ps ≡ qs → num n ps ≡ num m qs
num_same e h = rw (e, h)

-- a count and as many terms
fit_terms : (s : Shape) (ps : Parts) → Fit (shape.terms s) ps → (ts : List Term) × (qs : Parts) × (ps ≡ num (length ts) (put_terms ts qs)) × Fit s qs
unfolding Fit TakesTerm after_number More
fit_terms s end h = absurd (some_done (shape.terms s) tt h)
fit_terms s (num n ps) h =
    let r = fit_many n s ps h.1 in
    (r.0, r.1, num_same r.3 r.2, r.4)
fit_terms s (sub t ps) h = absurd h.0

-- numbers that rise, each at least `least`
unfoldable pub Rising : ℕ → List ℕ → Type 0
Rising least [] = Unit {0}
Rising least (m ∷ ms) = (least ≤ m) × Rising (m + 1) ms

fit_pairs : (n least : ℕ) (s : Shape) (ps : Parts) → Fit (many_members n least s) ps
    → (ms : List ℕ) × (ts : List Term) × (qs : Parts) × (ps ≡ put_members ms ts qs) × (length ms ≡ n) × (length ts ≡ n) × Rising least ms × Fit s qs
unfolding Fit many_members TakesNumber TakesTerm after_number after_term put_members Rising More
fit_pairs zero least s ps h = ([], [], ps, refl, refl, refl, tt, h)
fit_pairs (suc n) least s end h = absurd (some_done (shape.member n least s) tt h)
fit_pairs (suc n) least s (num m end) h = absurd (some_done (shape.term (many_members n (m + 1) s)) tt h.1)
fit_pairs (suc n) least s (num m (num k ps)) h = absurd h.1.0
fit_pairs (suc n) least s (num m (sub t ps)) h =
    let r = fit_pairs n (m + 1) s ps h.1.2 in
    (m ∷ r.0, t ∷ r.1, r.2, ap (λ (qs : Parts). num m (sub t qs)) r.3, ap suc r.4, ap suc r.5, (h.0.0, r.6), r.7)
fit_pairs (suc n) least s (sub t ps) h = absurd h.0

-- a count and as many members with their terms
fit_members : (s : Shape) (ps : Parts) → Fit (shape.members s) ps
    → (ms : List ℕ) × (ts : List Term) × (qs : Parts) × (ps ≡ pairing ms ts qs) × (length ts ≡ length ms) × Rising 0 ms × Fit s qs
unfolding Fit TakesTerm after_number More
fit_members s end h = absurd (some_done (shape.members s) tt h)
fit_members s (num n ps) h =
    let r = fit_pairs n 0 s ps h.1 in
    (r.0, r.1, r.2, num_same r.4 r.3, r.5 ∙ sym r.4, r.6, r.7)
fit_members s (sub t ps) h = absurd h.0

-- a row of a nominal and then more
pub record Split (s : Shape) (ps : Parts) : Type 0 where
  pub name : Nominal
  pub rest : Parts
  pub is : ps ≡ nominal_row name rest
  pub paired : length name.values ≡ length name.members
  pub rising : Rising 0 name.members
  pub fit : Fit s rest

pub split : (s : Shape) (ps : Parts) → Fit (nominal s) ps → Split s ps
split s ps h =
    let a = fit_number shape.definition (shape.terms (shape.members s)) ps h in
    let b = fit_terms (shape.members s) a.1 a.3 in
    let c = fit_members s b.1 b.3 in
    record {
      name = record { declaration = a.0; arguments = b.0; members = c.0; values = c.1 };
      rest = c.2;
      is = a.2 ∙ ap (λ (qs : Parts). num a.0 qs) b.2 ∙ ap (λ (qs : Parts). heading a.0 b.0 qs) c.3;
      paired = c.4;
      rising = c.5;
      fit = c.6;
    }

-- the terms of a row that fits are formed
pub fit_formed : (s : Shape) (ps : Parts) → Fit s ps → Subs Formed ps
unfolding Fit Subs
fit_formed s end h = tt
fit_formed s (num n ps) h = fit_formed (after_number s n) ps h.1
fit_formed s (sub t ps) h = (h.1, fit_formed (after_term s) ps h.2)

-- ---- projections

fit_term : (s : Shape) (ps : Parts) → Fit (shape.term s) ps → (t : Term) × (qs : Parts) × (ps ≡ sub t qs) × Fit s qs
unfolding Fit TakesNumber after_term More
fit_term s end h = absurd (some_done (shape.term s) tt h)
fit_term s (num n ps) h = absurd h.0
fit_term s (sub t ps) h = (t, ps, refl, h.2)

pub fit_done : (ps : Parts) → Fit shape.done ps → ps ≡ end
unfolding Fit TakesNumber TakesTerm
fit_done end h = refl
fit_done (num n ps) h = absurd h.0
fit_done (sub t ps) h = absurd h.0

-- what follows the interface of a projection: the member and the arguments
abbrev pub called : ℕ → List Term → Parts
called m ts = num m (num (length ts) (put_terms ts end))

-- a projection by its parts
pub record Projected (u : Term) : Type 0 where
  pub receiver : Term
  pub interface : Nominal
  pub member : ℕ
  pub arguments : List Term
  pub is : u ≡ node 18 (sub receiver (nominal_row interface (called member arguments)))
  pub paired : length interface.values ≡ length interface.members

projection_parts : (ps : Parts) → Fit projection ps → Projected (node 18 ps)
projection_parts ps h =
    let a = fit_term (nominal (shape.number shape.definition (shape.terms shape.done))) ps h in
    let b = split (shape.number shape.definition (shape.terms shape.done)) a.1 a.3 in
    let c = fit_number shape.definition (shape.terms shape.done) b.rest b.fit in
    let d = fit_terms shape.done c.1 c.3 in
    let e = fit_done d.1 d.3 in
    record {
      receiver = a.0;
      interface = b.name;
      member = c.0;
      arguments = d.0;
      is = ap (λ (qs : Parts). node 18 qs) a.2 ∙ ap (λ (qs : Parts). node 18 (sub a.0 qs)) b.is
          ∙ ap (λ (qs : Parts). node 18 (sub a.0 (nominal_row b.name qs))) c.2
          ∙ ap (λ (qs : Parts). node 18 (sub a.0 (nominal_row b.name (num c.0 qs)))) d.2
          ∙ ap (λ (qs : Parts). node 18 (sub a.0 (nominal_row b.name (num c.0 (num (length d.0) (put_terms d.0 qs)))))) e;
      paired = b.paired;
    }

pub projected : (u : Term) → Formed u → head_kind u ≡ 20 → Projected u
unfolding head_kind Formed
projected (var v) f h = absurd (omega arith)
projected (node k ps) f h =
    let e : 18 ≡ k = omega arith in
    subst (λ (j : ℕ). Fit (layout j) ps → Projected (node j ps)) e (projection_parts ps) f.1

pub not_projected : (a : Nominal) (w : Term) (m : ℕ) (u : Term) → (head_kind u ≡ 20 → ⊥) → reflexive a w m u ≡ false
unfolding head_kind reflexive tag
not_projected a w m (var v) h = refl
not_projected a w m (node k ps) h = rw (ne_eqb k 18 (λ e. h (omega arith)))

pub subs_called : (m : ℕ) (ts : List Term) → subs (called m ts) ≡ ts
unfolding subs
subs_called m ts = subs_terms ts end ∙ append-nil ts

no_terms_lem : (ts : List Term) → no_terms ts ≡ eqb (length ts) 0
no_terms_lem [] = refl
no_terms_lem (t ∷ ts) = sym (ne_eqb (suc (length ts)) 0 (λ e. omega arith))

-- `reflexive` of a projection's parts
reflexive_row : (a : Nominal) (w : Term) (m : ℕ) (r : Term) (i : Nominal) (k : ℕ) (ts : List Term) → length i.values ≡ length i.members
    → reflexive a w m (node 18 (sub r (nominal_row i (called k ts)))) ≡ (same r w && (eqb k m && (eqb (length ts) 0 && satisfies a i)))
unfolding reflexive row tag receiver_of
reflexive_row a w m r i k ts h =
    rw (subs_sub, member_is r i k (num (length ts) (put_terms ts end)) h, arguments_are r i (called k ts) h, subs_called, interface_is r i (called k ts) h, no_terms_lem)

pub reflexive_parts : (a : Nominal) (w : Term) (m : ℕ) (u : Term) (x : Projected u)
    → reflexive a w m u ≡ (same x.receiver w && (eqb x.member m && (eqb (length x.arguments) 0 && satisfies a x.interface)))
reflexive_parts a w m u x = ap (λ (v : Term). reflexive a w m v) x.is ∙ reflexive_row a w m x.receiver x.interface x.member x.arguments x.paired

-- ---- in the areas

pub projected_at : {ks vs : List ℕ} {p : ℕ} {u : Term} → Held ks vs p u → Formed u → get_or ks p 0 ≡ 20 → Projected u
projected_at {ks} {vs} {p} {u} h f e = projected u f (sym (held_first ks vs p u h).0 ∙ e)

module _ {ks vs : List ℕ} where
  -- a bare nominal, after its head
  pub laid_bare : {p : ℕ} (ps : Parts) → Held ks vs p (node 20 ps) → Fit (nominal shape.done) ps
      → (rest : Parts) × Laid ks vs (p + 1) (p + length (items (node 20 ps))) (nominal_of ps) rest
  laid_bare {p} ps h f =
      let s = split shape.done ps f in
      let e : nominal_of ps ≡ s.name = ap nominal_of s.is ∙ nominal_is s.name s.rest s.paired in (
        s.rest,
        subst (λ (a : Nominal). Laid ks vs (p + 1) (p + length (items (node 20 ps))) a s.rest) (sym e)
            (record {
              held = subst (λ (qs : Parts). HeldParts ks vs (p + 1) (p + length (items (node 20 ps))) qs) s.is (held_node ks vs p 20 ps h);
              formed = subst (λ (qs : Parts). Subs Formed qs) s.is (fit_formed (nominal shape.done) ps f);
              paired = s.paired;
            }),
      )

  -- the receiver of a projection, and its interface
  module _ {t : ℕ} {u : Term} (h : Held ks vs t u) (x : Projected u) where
    abbrev inner : Term
    inner = node 18 (sub x.receiver (nominal_row x.interface (called x.member x.arguments)))

    inner_held : Held ks vs (t + 1) x.receiver × HeldParts ks vs (t + 1 + length (items x.receiver)) (t + length (items inner)) (nominal_row x.interface (called x.member x.arguments))
    inner_held =
        held_sub ks vs (t + 1) (t + length (items inner)) x.receiver (nominal_row x.interface (called x.member x.arguments))
        (held_node ks vs t 18 (sub x.receiver (nominal_row x.interface (called x.member x.arguments))) (subst (λ (v : Term). Held ks vs t v) x.is h))

    pub receiver_held : Held ks vs (t + 1) x.receiver
    receiver_held = inner_held.0

    pub interface_laid : {k : ℕ} → k ≡ t + 1 + length (items x.receiver) → Formed u
        → (e : ℕ) × Laid ks vs k e x.interface (called x.member x.arguments)
    unfolding Formed Subs
    interface_laid j f = (
      t + length (items inner),
      record {
        held = subst (λ (i : ℕ). HeldParts ks vs i (t + length (items inner)) (nominal_row x.interface (called x.member x.arguments))) (sym j) inner_held.1;
        formed = (fit_formed (layout 18) (sub x.receiver (nominal_row x.interface (called x.member x.arguments))) (subst (λ (v : Term). Formed v) x.is f).1).1;
        paired = x.paired;
      },
    )

  -- the words after the interface
  pub called_words : {z e : ℕ} (m : ℕ) (ts : List Term) → HeldParts ks vs z e (called m ts) → (get_or vs z 0 ≡ m) × (get_or vs (z + 1) 0 ≡ length ts)
  called_words {z} {e} m ts h =
      let a = held_num ks vs z e m (num (length ts) (put_terms ts end)) h in
      (a.1, (held_num ks vs (z + 1) e (length ts) (put_terms ts end) a.2).1)

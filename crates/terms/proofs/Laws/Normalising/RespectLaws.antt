-- A walk keeps to a property of terms that children and rebuilt nodes inherit: its result has it, and it sees nothing of what is looked up but on terms
-- that have it.
use mathlib.Core.Path.{◌≡◌, refl, ap, ◌∙◌}
use mathlib.Core.Bool.{Bool, true, false}
use mathlib.Core.List.{List}
use mathlib.Core.Option.{Option, none, some}
use Prim.Native.Nat.{ℕ, zero, suc, ◌+◌, ◌<◌}
use native.Mathlib.Decide.{ℕ_discrete, dec_lt}
use native.Mathlib.Omega.{arith}
use lib.ListN.{length, get_or, set, length-set}
use lib.Seq.{get_or-set_same, get_or-set_other, set_out}
use Rattle.terms.specs.Term.{Term}
use Rattle.terms.specs.Tree.{error, children, with_kids, slot, same}
use Rattle.terms.specs.Normal.{Out, Row, visit_kids, follow, settle, rebuilt, walk_by}

-- ---- what the property is to be

pub record Inherited (P : Term → Type 0) : Type 0 where
  pub wrong : P error
  pub child : (t : Term) → P t → (i : ℕ) → P (get_or (children t) i error)
  pub anew : (t : Term) (ts : List Term) → P t → length ts ≡ length (children t) → ((i : ℕ) → P (get_or ts i error)) → P (with_kids t ts)

module _ (P : Term → Type 0) (h : Inherited P) where
  -- every term of a list has it; past its end stands Error
  abbrev All : List Term → Type 0
  All ts = (i : ℕ) → P (get_or ts i error)

  set_all : (ts : List Term) (i : ℕ) (u : Term) → All ts → P u → All (set ts i u)
  set_all ts i u a p j = go (ℕ_discrete j i) (dec_lt i (length ts))
    where
      go : Dec (j ≡ i) → Dec (i < length ts) → P (get_or (set ts i u) j error)
      go (yes e) (yes l) = rw (e, get_or-set_same ts i u error l) p
      go (yes e) (no l) = rw (set_out ts i u (omega arith)) (a j)
      go (no e) d = rw (get_or-set_other ts i j u error e) (a j)

  -- two walks of the children that agree on what has it
  module _ (f g : Term → ℕ → ℕ → Out) (same : (t : Term) (v c : ℕ) → P t → (f t v c ≡ g t v c) × P (f t v c).term) (at : ℕ → ℕ) where
    visits_agree : (r j : ℕ) (s : Row) → All s.terms → (visit_kids f at r j s ≡ visit_kids g at r j s) × All (visit_kids f at r j s).terms × (length (visit_kids f at r j s).terms ≡ length s.terms)
    unfolding visit_kids
    visits_agree zero j s a = (refl, a, refl)
    visits_agree (suc r) j s a =
        let x = same (get_or s.terms (at j) error) s.visits s.count (a (at j)) in
        let w = f (get_or s.terms (at j) error) s.visits s.count in
        let s' : Row = record { terms = set s.terms (at j) w.term; visits = w.visits; count = w.count } in
        let y = visits_agree r (suc j) s' (set_all s.terms (at j) w.term a x.1) in (
          y.0 ∙ ap (λ (o : Out). visit_kids g at r (suc j) (record { terms = set s.terms (at j) o.term; visits = o.visits; count = o.count })) x.0,
          y.1,
          y.2 ∙ length-set s.terms (at j) w.term,
        )

  module _ (find find' : Term → Option Term) (agree : (t : Term) → P t → find t ≡ find' t) (keeps : (t u : Term) → P t → find t ≡ some u → P u) where
    settle_agree : (f g : Term → ℕ → ℕ → Out) → ((t : Term) (v c : ℕ) → P t → (f t v c ≡ g t v c) × P (f t v c).term) → (t : Term) → P t → (o : Option Term) (v c : ℕ)
        → ((u : Term) → o ≡ some u → P u) → (settle f t o v c ≡ settle g t o v c) × P (settle f t o v c).term
    settle_agree f g s t p none v c k = (refl, p)
    settle_agree f g s t p (some u) v c k = go (same u t)
      where
        go : (b : Bool) → (follow f b u v c ≡ follow g b u v c) × P (follow f b u v c).term
        go true = (refl, h.wrong)
        go false = s u v c (k u refl)

    pub walk_agree : (l : ℕ) (t : Term) (v c : ℕ) → P t → (walk_by find l t v c ≡ walk_by find' l t v c) × P (walk_by find l t v c).term
    unfolding walk_by
    walk_agree zero t v c p = (refl, h.wrong)
    walk_agree (suc l) t zero c p = (refl, h.wrong)
    walk_agree (suc l) t (suc v) c p =
        let n = length (children t) in
        let s : Row = record { terms = children t; visits = v; count = c + n } in
        let y = visits_agree (walk_by find l) (walk_by find' l) (walk_agree l) (slot t) n 0 s (h.child t p) in
        let r = visit_kids (walk_by find l) (slot t) n 0 s in
        let q = h.anew t r.terms p y.2 y.1 in
        let z = settle_agree (walk_by find l) (walk_by find' l) (walk_agree l) (with_kids t r.terms) q (find (with_kids t r.terms)) r.visits r.count (λ u e. keeps (with_kids t r.terms) u q e) in (
          z.0 ∙ ap (λ (o : Option Term). settle (walk_by find' l) (with_kids t r.terms) o r.visits r.count) (agree (with_kids t r.terms) q) ∙ ap (rebuilt find' (walk_by find' l) t) y.0,
          z.1,
        )

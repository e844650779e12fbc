-- The walk of the definition by cases; its count never falls.
use mathlib.Core.Path.{◌≡◌, refl}
use mathlib.Core.Bool.{Bool, true, false}
use mathlib.Core.Option.{Option, none, some}
use Prim.Native.Nat.{ℕ, zero, suc, ◌+◌, ◌-◌, ◌≤◌, ◌<◌}
use native.Mathlib.Omega.{arith}
use native.Mathlib.Numerals.{add-one}
use lib.ListN.{length, get_or, set}
use Rattle.terms.specs.Term.{Term}
use Rattle.terms.specs.Tree.{error, children, with_kids, same, slot}
use Rattle.terms.specs.Normal.{Out, Row, failed, visit_kids, follow, settle, rebuilt, walk_by}

-- ---- the definition by cases

module _ (find : Term → Option Term) where
  pub walk-levels : (l : ℕ) (t : Term) (v c : ℕ) → l ≡ 0 → walk_by find l t v c ≡ failed v c
  unfolding walk_by
  walk-levels l t v c e = rw e

  pub walk_visits : (l : ℕ) (t : Term) (v c : ℕ) → v ≡ 0 → walk_by find l t v c ≡ failed v c
  unfolding walk_by
  walk_visits zero t v c e = refl
  walk_visits (suc l) t v c e = rw e

  abbrev pub first : Term → ℕ → ℕ → Row
  first t v c = record { terms = children t; visits = v - 1; count = c + length (children t) }

  pub walk_some : (l : ℕ) (t : Term) (v c : ℕ) → 0 < l → 0 < v
      → walk_by find l t v c ≡ rebuilt find (walk_by find (l - 1)) t (visit_kids (walk_by find (l - 1)) (slot t) (length (children t)) 0 (first t v c))
  unfolding walk_by
  walk_some zero t v c a b = absurd (omega arith)
  walk_some (suc l) t zero c a b = absurd (omega arith)
  walk_some (suc l) t (suc v) c a b =
      let e : suc l - 1 ≡ l = omega arith in
      let f : suc v - 1 ≡ v = omega arith in
      rw (e, f)

  -- the count never falls
  pub visit_count : (f : Term → ℕ → ℕ → Out) → ((t : Term) (v c : ℕ) → c ≤ (f t v c).count) → (at : ℕ → ℕ) (r j : ℕ) (s : Row)
      → s.count ≤ (visit_kids f at r j s).count
  unfolding visit_kids
  visit_count f g at zero j s = omega arith
  visit_count f g at (suc r) j s =
      let w = f (get_or s.terms (at j) error) s.visits s.count in
      omega (arith, g (get_or s.terms (at j) error) s.visits s.count, visit_count f g at r (suc j) (record { terms = set s.terms (at j) w.term; visits = w.visits; count = w.count }))

  follow_count : (f : Term → ℕ → ℕ → Out) → ((t : Term) (v c : ℕ) → c ≤ (f t v c).count) → (b : Bool) (u : Term) (v c : ℕ) → c ≤ (follow f b u v c).count
  follow_count f g true u v c = omega arith
  follow_count f g false u v c = g u v c

  settle_count : (f : Term → ℕ → ℕ → Out) → ((t : Term) (v c : ℕ) → c ≤ (f t v c).count) → (t : Term) (o : Option Term) (v c : ℕ) → c ≤ (settle f t o v c).count
  settle_count f g t none v c = omega arith
  settle_count f g t (some u) v c = follow_count f g (same u t) u v c

  pub rebuilt_count : (f : Term → ℕ → ℕ → Out) → ((t : Term) (v c : ℕ) → c ≤ (f t v c).count) → (t : Term) (s : Row) → s.count ≤ (rebuilt find f t s).count
  rebuilt_count f g t s = settle_count f g (with_kids t s.terms) (find (with_kids t s.terms)) s.visits s.count

  pub walk_count : (l : ℕ) (t : Term) (v c : ℕ) → c ≤ (walk_by find l t v c).count
  unfolding walk_by
  walk_count zero t v c = omega arith
  walk_count (suc l) t zero c = omega arith
  walk_count (suc l) t (suc v) c =
      let s = visit_kids (walk_by find l) (slot t) (length (children t)) 0 (record { terms = children t; visits = v; count = c + length (children t) }) in
      omega (
        arith,
        visit_count (walk_by find l) (walk_count l) (slot t) (length (children t)) 0 (record { terms = children t; visits = v; count = c + length (children t) }),
        rebuilt_count (walk_by find l) (walk_count l) t s,
      )

pub visit_step : (f : Term → ℕ → ℕ → Out) (at : ℕ → ℕ) (r j : ℕ) (s : Row) → 0 < r
    → visit_kids f at r j s
    ≡ visit_kids f at (r - 1) (j + 1) (record {
      terms = set s.terms (at j) (f (get_or s.terms (at j) error) s.visits s.count).term;
      visits = (f (get_or s.terms (at j) error) s.visits s.count).visits;
      count = (f (get_or s.terms (at j) error) s.visits s.count).count;
    })
unfolding visit_kids
visit_step f at zero j s h = absurd (omega arith)
visit_step f at (suc r) j s h = let e : suc r - 1 ≡ r = omega arith in rw (e, add-one)

pub visit_none : (f : Term → ℕ → ℕ → Out) (at : ℕ → ℕ) (r j : ℕ) (s : Row) → r ≡ 0 → visit_kids f at r j s ≡ s
unfolding visit_kids
visit_none f at r j s e = rw e

-- where the children are too many, so is the count
pub over_start : (most : ℕ) (find : Term → Option Term) (levels : ℕ) (t : Term) (visits next : ℕ) → 0 < levels → 0 < visits → most < next + length (children t)
    → most < (walk_by find levels t visits next).count
over_start most find levels t visits next hl hv m =
    let f = walk_by find (levels - 1) in
    rw (walk_some find levels t visits next hl hv)
    (omega (
      arith,
      visit_count find f (walk_count find (levels - 1)) (slot t) (length (children t)) 0 (first find t visits next),
      rebuilt_count find f (walk_count find (levels - 1)) t (visit_kids f (slot t) (length (children t)) 0 (first find t visits next)),
    ))

pub over_visit : (most : ℕ) (find : Term → Option Term) (levels : ℕ) (t : Term) (visits next n : ℕ) → 0 < levels → 0 < visits → n ≡ length (children t)
    → most < (visit_kids (walk_by find (levels - 1)) (slot t) n 0 (first find t visits next)).count → most < (walk_by find levels t visits next).count
over_visit most find levels t visits next n hl hv e m =
    let f = walk_by find (levels - 1) in
    let m' : most < (visit_kids f (slot t) (length (children t)) 0 (first find t visits next)).count = rw e at m in
    rw (walk_some find levels t visits next hl hv)
    (omega (arith, rebuilt_count find f (walk_count find (levels - 1)) t (visit_kids f (slot t) (length (children t)) 0 (first find t visits next))))

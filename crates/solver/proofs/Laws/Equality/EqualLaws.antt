-- Equality of resolved terms: the entry of the queue that is taken, bindings as the classes need them, the answer, and one class from two.
use mathlib.Core.Bool.{Bool, true, false}
use mathlib.Core.List.{List}
use mathlib.Core.Option.{Option}
use mathlib.Core.Path.{◌≡◌, refl, sym, ap, ◌∙◌}
use Prim.Native.Nat.{ℕ, ◌+◌, ◌*◌, ◌≤◌, ◌<◌}
use native.Mathlib.Omega.{arith}
use native.Mathlib.Decide.{dec_lt}
use lib.ListN.{length, get_or, set}
use Rattle.terms.specs.Term.{Term, var, node, Held}
use Rattle.terms.specs.Tree.{same}
use Rattle.terms.proofs.Laws.Held.SameLaws.{same_refl, not_same}
use Rattle.solver.specs.Constrain.{resolve, follow}
use Rattle.solver.specs.Words.Halves.{low_half, high_half}
use Rattle.solver.specs.Words.Worklist.{Zero}
use Rattle.solver.specs.Words.SessionRepresentation.{begins}
use Rattle.solver.specs.Words.ReachContract.{Steady, Topped}
use Rattle.solver.specs.Words.CongruenceClasses.{Wired, Advanced, Up, stands_for, Standing, Coincide, Linked, Fair, Outcome}
use Rattle.solver.proofs.Laws.Resolving.ReachLaws.{by_variable}
use Rattle.solver.proofs.Laws.Equality.LinkLaws.{begun_below, queue_below, up_node, top_less, advanced_link, told_class, told_left, told_right}

-- nothing is linked yet
pub wired_none : (ks par queue : List ℕ) → length ks ≤ length par → length ks ≤ 65536 → begins ks ≤ length queue → Zero par → Zero queue → Wired ks par queue 0
wired_none ks par queue e s r y z = record {
  size = e;
  small = s;
  room = r;
  falls = λ x. omega (arith, y x);
  nodes = λ x v h. absurd (omega (arith, y x));
  listed = λ i h. absurd (omega arith);
  apart = λ i j h k. absurd (omega arith);
  cover = λ x h. absurd (omega (arith, y x));
  blank = λ i h. z i;
}

-- ---- an entry of the queue is taken: the place that it lists is linked to the other, a lower one

module _ {ks par queue : List ℕ} {top : ℕ} (w : Wired ks par queue top) where
  pub taken_entry : (done : ℕ) → done < top
      → (low_half (get_or queue done 0) < length ks)
      × (high_half (get_or queue done 0) < length ks)
      × (get_or par (low_half (get_or queue done 0)) 0 ≡ high_half (get_or queue done 0) + 1)
  taken_entry done h =
      let below = queue_below ks par queue top w done h in
      let l = (w.listed done h).1 in
      (below, omega (arith, below, l, w.falls (low_half (get_or queue done 0))), l)

-- ---- bindings

pub steady_standing : {n : ℕ} {b : ℕ → Option Term} → Steady n b → Topped n b → Standing (stands_for n b) (follow n b)
steady_standing {n} {b} s w = record {
  tops = λ t. by_variable n b (follow n b t) ∙ w.tops t ∙ sym (by_variable n b t);
  plain = λ t v e. s.free v (w.topped t v e);
}

-- ---- the answer

module _ (n : ℕ) (b : ℕ → Option Term) (t u : Term) where
  pub answer : (r : Bool) → (r ≡ true → Coincide (stands_for n b) t u) → (r ≡ false → Coincide (stands_for n b) t u → ⊥) → r ≡ same (resolve n b t) (resolve n b u)
  answer true on off =
      let e : resolve n b t ≡ resolve n b u = sym (by_variable n b t) ∙ on refl ∙ by_variable n b u in
      sym (ap (same (resolve n b t)) (sym e) ∙ same_refl (resolve n b t))
  answer false on off = sym (not_same (resolve n b t) (resolve n b u) (λ e. off refl (by_variable n b t ∙ e ∙ sym (by_variable n b u))))

-- ---- one class from two: x heads that of a, and y that of b

module _ {ks par queue : List ℕ} {top : ℕ} (w : Wired ks par queue top) {a b x y : ℕ} (ka : 2 ≤ get_or ks a 0) (kb : get_or ks a 0 ≡ get_or ks b 0)
    (ux : Up par a x) (uy : Up par b y) where
  node_x : 2 ≤ get_or ks x 0
  node_x = up_node ks par queue top w ux ka

  node_y : 2 ≤ get_or ks y 0
  node_y = up_node ks par queue top w uy (omega arith)

  abbrev pub Unites : List ℕ → Type 0
  Unites par' =
      (vs : List ℕ) (σ : ℕ → Term) (τ : Term → Term) (t u : Term) → Standing σ τ → Held ks vs a (τ t) → Held ks vs b (τ u) → Fair ks vs par
      → Outcome ks vs σ par par' true (Linked ks vs τ par' t u) (Coincide σ t u)

  pub united_one : x ≡ y → Unites par
  united_one e vs σ τ t u s ha hb f = told_class σ τ s ks vs par f t u a b ha hb x y ux uy e

  -- the higher of the two is linked below the lower
  pub record Links (low high : ℕ) : Type 0 where
    pub inside : high < length ks
    pub free : get_or par high 0 ≡ 0
    pub room : top < length queue
    pub advanced : Advanced ks par queue top (set par high (low + 1)) (set queue top (high + 65536 * low)) (top + 1)
    pub terms : Unites (set par high (low + 1))

  pub links : x < length par → get_or par x 0 ≡ 0 → y < length par → get_or par y 0 ≡ 0 → (low high : ℕ)
      → (x ≤ y → (low ≡ x) × (high ≡ y)) → (y < x → (low ≡ y) × (high ≡ x)) → low < high → Links low high
  links ix rx iy ry low high up down lower = go (dec_lt y x)
    where
      go : Dec (y < x) → Links low high
      go (no h) =
          let e = up (omega arith) in
          rw (e.0, e.1) (record {
            inside = begun_below ks y (omega (arith, node_y));
            free = ry;
            room = omega (arith, top_less ks par queue top w y x (begun_below ks y (omega (arith, node_y))) ry (omega arith) node_y node_x, w.room);
            advanced = advanced_link ks par queue top w y x (begun_below ks y (omega (arith, node_y))) ry (omega arith) node_y node_x;
            terms = λ vs σ τ t u s ha hb f. told_right σ τ s ks vs par f t u a b ha hb x y ux uy ka kb iy ry;
          })
      go (yes h) =
          let e = down h in
          rw (e.0, e.1) (record {
            inside = begun_below ks x (omega (arith, node_x));
            free = rx;
            room = omega (arith, top_less ks par queue top w x y (begun_below ks x (omega (arith, node_x))) rx h node_x node_y, w.room);
            advanced = advanced_link ks par queue top w x y (begun_below ks x (omega (arith, node_x))) rx h node_x node_y;
            terms = λ vs σ τ t u s ha hb f. told_left σ τ s ks vs par f t u a b ha hb x y ux uy ka kb ix rx;
          })

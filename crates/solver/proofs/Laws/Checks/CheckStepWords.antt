-- One check of `constrain` on what is lent: each way it can end leaves what the definition leaves.
use mathlib.Core.Path.{◌≡◌, refl, sym, ap, ◌∙◌, subst}
use mathlib.Core.Bool.{Bool, true, false}
use mathlib.Core.List.{List}
use mathlib.Core.Logic.{inl, inr}
use Prim.Native.Nat.{ℕ, suc}
use native.Mathlib.Omega.{arith}
use lib.ListN.{length, drop}
use Rattle.terms.specs.Term.{Term}
use Rattle.solver.specs.declared.Solver.{Solver}
use Rattle.solver.specs.Shapes.{pushed}
use Rattle.solver.specs.Constrain as solving
use Rattle.solver.specs.Constrain.{Pair, passed, failed, zip_on}
use Rattle.solver.specs.Session.{Session, with_solver}
use Rattle.solver.specs.Words.SessionRepresentation.{Represents}
use Rattle.solver.specs.Words.PendingContract.{PushedPairs}
use Rattle.solver.specs.Words.ConstrainContract.{pending_from, Waiting, Nodes, After}

-- ---- nothing was bound and nothing pushed

module _ (x : Solver) (ks vs ts st : List ℕ) (s : Session) (count : ℕ) (ps : List Pair) (lent : Represents x ks vs ts s) (waits : Waiting ks vs st count ps) (t u : Term) where
  stay : (w : solving.Check) (good : Bool) → w.state ≡ s.solver → good ≡ w.good → w.todo ≡ ps → After x ks vs ts ts st st s t u count w (record { solver = x; good = good; count = count })
  stay w good a b c = record {
    represents = subst (λ (z : solving.Solver). Represents x ks vs ts (with_solver s z)) (sym a) lent;
    good = b;
    waiting = subst (λ (l : List Pair). Waiting ks vs st count l) (sym c) waits;
    stack = inl (refl, refl);
    variables = refl;
    nodes = refl;
    size = refl;
    rest = refl;
    pending_size = refl;
    counted = record { rises = omega arith; quiet = λ e. refl };
  }

  pub after_passed : {w : solving.Check} → w ≡ passed s.solver ps → After x ks vs ts ts st st s t u count w (record { solver = x; good = true; count = count })
  after_passed {w} e = stay w true (ap (λ (v : solving.Check). v.state) e) (sym (ap (λ (v : solving.Check). v.good) e)) (ap (λ (v : solving.Check). v.todo) e)

  pub after_failed : {w : solving.Check} → w ≡ failed s.solver ps → After x ks vs ts ts st st s t u count w (record { solver = x; good = false; count = count })
  after_failed {w} e = stay w false (ap (λ (v : solving.Check). v.state) e) (sym (ap (λ (v : solving.Check). v.good) e)) (ap (λ (v : solving.Check). v.todo) e)

  -- a variable was bound: the columns changed
  pub after_bound : {w : solving.Check} (z : solving.Solver) → w ≡ passed z ps → z.revision ≡ suc s.solver.revision → (y : Solver) (us : List ℕ) → Represents y ks vs us (with_solver s z)
      → y.variables ≡ x.variables → y.nodes ≡ x.nodes → length us ≡ length ts → drop (pending_from x) us ≡ drop (pending_from x) ts
      → After x ks vs ts us st st s t u count w (record { solver = y; good = true; count = count })
  after_bound {w} z e more y us l a b c d = record {
    represents = subst (λ (q : solving.Solver). Represents y ks vs us (with_solver s q)) (sym (ap (λ (v : solving.Check). v.state) e)) l;
    good = sym (ap (λ (v : solving.Check). v.good) e);
    waiting = subst (λ (r : List Pair). Waiting ks vs st count r) (sym (ap (λ (v : solving.Check). v.todo) e)) waits;
    stack = inl (refl, refl);
    variables = a;
    nodes = b;
    size = c;
    rest = d;
    pending_size = refl;
    counted = record { rises = omega (arith, l.revision, lent.revision); quiet = λ q. absurd (omega (arith, l.revision, lent.revision)) };
  }

  -- the children of two nodes were pushed
  pub after_pushed : {w : solving.Check} → w ≡ passed s.solver (zip_on (pushed t) (pushed u) ps) → (a b : ℕ) → Nodes x ks vs a b count t u → (st' : List ℕ) (r : ℕ) → length st' ≡ length st
      → PushedPairs ks vs a b t u count st st' r → After x ks vs ts ts st st' s t u count w (record { solver = x; good = true; count = r })
  after_pushed {w} e a b n st' r c p = record {
    represents = subst (λ (q : solving.Solver). Represents x ks vs ts (with_solver s q)) (sym (ap (λ (v : solving.Check). v.state) e)) lent;
    good = sym (ap (λ (v : solving.Check). v.good) e);
    waiting = subst (λ (q : List Pair). Waiting ks vs st' r q) (sym (ap (λ (v : solving.Check). v.todo) e)) (record {
      pairs = p.pairs ps waits.pairs;
      blank = λ i h. p.laid.above i h ∙ waits.blank i (omega (arith, p.size));
    });
    stack = inr (record { left = a; right = b; nodes = n; pushed = p });
    variables = refl;
    nodes = refl;
    size = refl;
    rest = refl;
    pending_size = c;
    counted = record { rises = omega arith; quiet = λ e. refl };
  }

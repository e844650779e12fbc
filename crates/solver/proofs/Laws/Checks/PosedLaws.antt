-- A pair as a whole, posed by order 4 or 22: the session after it, with the tokens of its terms where a variable was bound, and as it was where none was.
use mathlib.Core.Path.{◌≡◌, sym, ap, ap₂, ◌∙◌, subst}
use mathlib.Core.Bool.{Bool, false, not}
use mathlib.Core.List.{List}
use Prim.Native.Nat.{ℕ, ◌+◌, ◌<◌}
use native.Mathlib.Omega.{arith}
use borrow.Author.Tests.{ne_eqb}
use lib.Dec.{eqb}
use lib.ListN.{length, get_or, take, drop}
use lib.Seq.{ext_get_or, get_or-take, take-length}
use Rattle.terms.specs.Term.{Term, size}
use Rattle.unify.specs.Solver.{Out}
use Rattle.solver.specs.declared.Solver.{Solver}
use Rattle.solver.specs.declared.Verdict.{Verdict}
use Rattle.solver.specs.Shapes.{Notion}
use Rattle.solver.specs.Constrain as solving
use Rattle.solver.specs.Session.{Session, keep}
use Rattle.solver.specs.Orders.{solver_of, keeps, posing}
use Rattle.solver.specs.Words.Worklist.{Zero}
use Rattle.solver.specs.Words.SessionRepresentation.{Represents, limits_of}
use Rattle.solver.specs.Words.OrderTerms.{PosesPair}
use Rattle.solver.specs.Words.ConstrainContract.{pending_from, Constrained, Posed}
use Rattle.solver.proofs.Laws.Definition.QuietLaws.{settles_quiet, posing_quiet}
use Rattle.solver.proofs.Laws.Table.ColumnLaws.{rest_read}

-- the counters with the nodes and the tokens of the order, and those of before put back
abbrev widened : Solver → ℕ → ℕ → Solver
widened x nodes top = record { variables = x.variables; nodes = x.nodes; issued = x.issued; revision = x.revision; kept = nodes; top = top }

module _ (n : Notion) {x : Solver} {ks vs ts₀ ts : List ℕ} {s : Session} {q : ℕ} {t u : Term} (P : PosesPair x ks vs ts₀ s q t u) (zero_rest : Zero (drop (pending_from x) ts₀)) (long : length ts ≡ length ts₀)
    (k : ℕ) {nodes : ℕ} {y : Solver} {v : Verdict}
    (C : Constrained (widened x nodes (length ks)) ks vs ts₀ ts (keep s s.solver (size t + size u)) (solving.constrain n k s.solver t u) (record { solver = y; verdict = v })) where
  abbrev goal : Out solving.Solver
  goal = solving.constrain n k s.solver t u

  abbrev after : Session
  after = (posing (limits_of x) s (size t + size u) goal).session

  -- ---- a variable was bound

  bound_held : (y.revision ≡ x.revision → ⊥) → Represents y ks vs ts after
  bound_held e =
      let d : eqb (solver_of goal).revision s.solver.revision ≡ false
      = ne_eqb (solver_of goal).revision s.solver.revision (λ i. e (C.represents.revision ∙ i ∙ sym P.behind.represents.revision)) in
      subst (λ (b : Bool). Represents y ks vs ts (keep s (solver_of goal) (keeps (not b) (size t + size u)))) (sym d) C.represents

  pub posed_bound : (y.revision ≡ x.revision → ⊥) → Posed x ks vs ts₀ ts s (size t + size u) goal (record { solver = y; verdict = v })
  posed_bound e =
      let a : ks ≡ take y.top ks = sym (ap (λ (i : ℕ). take i ks) C.represents.top ∙ take-length ks) in
      let b : vs ≡ take y.top vs = sym (ap (λ (i : ℕ). take i vs) (C.represents.top ∙ sym C.represents.vals) ∙ take-length vs) in
      record {
        represents = subst (λ (l : List ℕ). Represents y l (take y.top vs) ts after) a (subst (λ (l : List ℕ). Represents y ks l ts after) b (bound_held e));
        verdict = C.verdict;
        blank = C.blank;
        variables = C.variables;
        nodes = C.nodes;
        counters = λ i. absurd (e i);
        words = λ i. absurd (e i);
        tokens = λ _. C.represents.top;
      }

  -- ---- none was

  module _ (e : y.revision ≡ x.revision) where
    abbrev back : Solver
    back = widened y x.kept x.top

    back_same : back ≡ x
    back_same =
        ap₂ (λ (i j : ℕ). record { variables = i; nodes = j; issued = y.issued; revision = y.revision; kept = x.kept; top = x.top }) C.variables C.nodes
        ∙ ap₂ (λ (i j : ℕ). record { variables = x.variables; nodes = x.nodes; issued = i; revision = j; kept = x.kept; top = x.top })
        (C.represents.issued ∙ sym P.behind.represents.issued) e

    words_same : ts ≡ ts₀
    words_same = ext_get_or 0 ts ts₀ long (λ i _. go i (native.Mathlib.Decide.dec_lt i (pending_from x)))
      where
        go : (i : ℕ) → Dec (i < pending_from x) → get_or ts i 0 ≡ get_or ts₀ i 0
        go i (yes l) = sym (get_or-take (pending_from x) ts i 0 l) ∙ ap (λ (w : List ℕ). get_or w i 0) (C.counted.quiet e) ∙ get_or-take (pending_from x) ts₀ i 0 l
        go i (no l) = rest_read (pending_from x) ts C.blank i (omega arith) ∙ sym (rest_read (pending_from x) ts₀ zero_rest i (omega arith))

    after_same : after ≡ s
    after_same =
        posing_quiet (limits_of x) s (size t + size u) goal (settles_quiet n k s.solver _ _)
        (sym C.represents.revision ∙ e ∙ P.behind.represents.revision)

    pub posed_still : Posed x ks vs ts₀ ts s (size t + size u) goal (record { solver = back; verdict = v })
    posed_still = record {
      represents = subst (λ (w : Solver). Represents w (take x.top ks) (take x.top vs) ts after) (sym back_same)
          (subst (λ (l : List ℕ). Represents x (take x.top ks) (take x.top vs) l after) (sym words_same)
          (subst (λ (z : Session). Represents x (take x.top ks) (take x.top vs) ts₀ z) (sym after_same) P.behind.represents));
      verdict = C.verdict;
      blank = C.blank;
      variables = C.variables;
      nodes = C.nodes;
      counters = λ _. back_same;
      words = λ _. words_same;
      tokens = λ h. absurd (h e);
    }

-- Orders 3 to 5: terms after the tokens of a session.
use mathlib.Core.Path.{◌≡◌, refl, sym, ap, subst, ◌∙◌}
use mathlib.Core.Bool.{Bool, true, false}
use mathlib.Core.List.{List, [], ◌∷◌}
use Rattle.std.specs.Prelude.{Option, None, is_some}
use Prim.Native.Nat.{ℕ, ◌+◌, ◌-◌, ◌≤◌, ◌<◌}
use native.Mathlib.Omega.{arith}
use borrow.Author.Tests.{ltb-true}
use lib.Dec.{ltb}
use lib.ListN.{length, take, drop}
use lib.Seq.{take-length}
use Rattle.solver.specs.Terms.Term.{Term, size}
use Rattle.solver.specs.declared.Solver.{Solver}
use Rattle.solver.specs.declared.Solved.{Solved}
use Rattle.solver.specs.Shapes.{notion}
use Rattle.solver.specs.Constrain as solving
use Rattle.solver.specs.Constrain.{resolved}
use Rattle.solver.specs.Session.{Limits, Session, deferring}
use Rattle.solver.specs.Orders as orders
use Rattle.solver.specs.Orders.{order, known, crowded, posing, verdict_code, ◌gives◌}
use Rattle.solver.specs.Words.Worklist.{Zero}
use Rattle.solver.specs.Words.SessionRepresentation.{Represents, limits_of, verdict_number}
use Rattle.solver.specs.Words.MethodContract.{Beside}
use Rattle.solver.specs.Words.ConstrainContract.{Posed, pending_from}
use Rattle.solver.specs.Words.OrderTerms.{Poses, PosesPair, resolved_to}
use Rattle.solver.proofs.Laws.Definition.SolverInvariantLaws.{within_known}
use Rattle.solver.proofs.Laws.Definition.QuietLaws.{quiet_pair}
use Rattle.sheet.specs.OrderTable.{Answer, outcome}
use Rattle.sheet.specs.Sheet.{Step, solve, answer_of, framed}
use Rattle.sheet.specs.Words.FramingContract.{output_at, written_to, Framed}
use Rattle.sheet.specs.Words.SessionOrdersContract.{lent, Does, DoesPair}
use Rattle.sheet.proofs.Laws.Answering.FramingLaws.{one_frame}
use Rattle.sheet.proofs.Laws.Answering.SessionOrderLaws.{does_over, does_same, does_whole}

-- ---- the steps: no variable is unknown, and the nodes may be kept

pub uncrowded : (lim : Limits) (z : Session) (n : ℕ) → z.kept + n ≤ lim.nodes → crowded lim z n ≡ false
uncrowded lim z n h = go (ltb lim.nodes (z.kept + n)) refl
  where
    go : (b : Bool) → ltb lim.nodes (z.kept + n) ≡ b → b ≡ false
    go true e = absurd (omega (arith, ltb-true lim.nodes (z.kept + n) e))
    go false e = refl

pub defer_step : (lim : Limits) (z : Session) (t : Term) → known z t ≡ true → z.kept + size t ≤ lim.nodes
    → order lim z (orders.defer t) ≡ (deferring z (resolved z.solver t) gives orders.nothing)
unfolding order
defer_step lim z t k h = rw (k, uncrowded lim z (size t) h) refl

pub resolving_step : (lim : Limits) (z : Session) (t : Term) → known z t ≡ true → z.kept + size t ≤ lim.nodes
    → order lim z (orders.resolving t) ≡ (z gives orders.term (resolved z.solver t))
unfolding order
resolving_step lim z t k h = rw (k, uncrowded lim z (size t) h) refl

pub pair_step : (lim : Limits) (d : Bool) (z : Session) (k : ℕ) (t u : Term) → known z t ≡ true → known z u ≡ true → z.kept + (size t + size u) ≤ lim.nodes
    → order lim z (orders.pair d k t u) ≡ posing lim z (size t + size u) (solving.constrain (notion d) k z.solver t u)
unfolding order
pair_step lim d z k t u a b h = rw (a, b, uncrowded lim z (size t + size u) h) refl

-- a step of the solver as a step of the sheet
answer_of_lem : (lim : Limits) (z : Session) (c : orders.Command) (s : orders.Step) → order lim z c ≡ s → (solve lim z c).answer ≡ answer_of s.reply
answer_of_lem lim z c s e = ap (λ (y : orders.Step). answer_of y.reply) e

session_of : (lim : Limits) (z : Session) (c : orders.Command) (s : orders.Step) → order lim z c ≡ s → (solve lim z c).session ≡ s.session
session_of lim z c s e = ap (λ (y : orders.Step). y.session) e

-- ---- orders 3 and 5

module _ (x : Solver) (ks vs ts : List ℕ) (z : Session) (t : Term) (P : Poses x ks vs ts z t) (out₀ : List ℕ) (to : ℕ) where
  abbrev L : Represents x (take x.top ks) (take x.top vs) ts z
  L = P.behind.represents

  abbrev lim : Limits
  lim = limits_of x

  knows : known z t ≡ true
  knows = within_known z t P.within

  abbrev deferred : Step
  deferred = solve lim z (orders.defer t)

  defer_answer : outcome [] ≡ deferred.answer
  unfolding answer_of
  defer_answer = sym (answer_of_lem lim z (orders.defer t) _ (defer_step lim z t knows P.few))

  defer_session : deferred.session ≡ deferring z (resolved z.solver t)
  defer_session = session_of lim z (orders.defer t) _ (defer_step lim z t knows P.few)

  -- it does not fit
  pub defer_over : (out : List ℕ) (r : Option ℕ) → Framed (outcome []) out₀ to out r → is_some r ≡ false
      → Does (lent x (take x.top ks) (take x.top vs) ts) x ts z (solve (limits_of x) z (orders.defer t)) (output_at out₀ to) (written_to out r)
  defer_over out r f h = does_over L deferred out₀ to out r (subst (λ (a : Answer). Framed a out₀ to out r) defer_answer f) h

  pub defer_done : (y : Solver) (us out : List ℕ) (r : Option ℕ) → Framed (outcome []) out₀ to out r → is_some r ≡ true
      → Represents y (take x.top ks) (take x.top vs) us (deferring z (resolved z.solver t)) → Beside x y ts us
      → Does (lent x (take x.top ks) (take x.top vs) ts) y us z (solve (limits_of x) z (orders.defer t)) (output_at out₀ to) (written_to out r)
  defer_done y us out r f h M B =
      does_whole L deferred out₀ to y us out r (subst (λ (a : Answer). Framed a out₀ to out r) defer_answer f) h
      (subst (λ (s : Session). Represents y (take x.top ks) (take x.top vs) us s) (sym defer_session) M) B

  -- order 5
  pub resolving_does : (out : List ℕ) (r : Option ℕ) → Framed (outcome (resolved_to z t)) out₀ to out r
      → Does (lent x (take x.top ks) (take x.top vs) ts) x ts z (solve (limits_of x) z (orders.resolving t)) (output_at out₀ to) (written_to out r)
  unfolding answer_of
  resolving_does out r f =
      let e = resolving_step lim z t knows P.few in
      does_same L (solve lim z (orders.resolving t)) out₀ to out r (session_of lim z (orders.resolving t) _ e) (subst (λ (b : Answer). Framed b out₀ to out r) (sym (answer_of_lem lim z (orders.resolving t) _ e)) f)

-- ---- orders 4 and 22

module _ (x : Solver) (ks vs ts : List ℕ) (d : Bool) (z : Session) (q : ℕ) (t u : Term) (P : PosesPair x ks vs ts z q t u) where
  module _ (k : ℕ) (out₀ : List ℕ) (to : ℕ) (inside : to ≤ length out₀) where
    abbrev done : Step
    done = solve (limits_of x) z (orders.pair d k t u)

    posed : order (limits_of x) z (orders.pair d k t u) ≡ posing (limits_of x) z (size t + size u) (solving.constrain (notion d) k z.solver t u)
    posed = pair_step (limits_of x) d z k t u (within_known z t P.within_left) (within_known z u P.within_right) P.few

    pair_answer : done.answer ≡ outcome (verdict_code (solving.constrain (notion d) k z.solver t u) ∷ [])
    unfolding answer_of
    pair_answer = answer_of_lem (limits_of x) z (orders.pair d k t u) _ posed

    pair_size : length (framed done.answer) ≡ 3
    pair_size = ap (λ (a : Answer). length (framed a)) pair_answer ∙ ap length (one_frame (verdict_code (solving.constrain (notion d) k z.solver t u)))

    pub pair_not : length out₀ - to < 3 → Zero (drop (pending_from x) ts) → DoesPair (lent x ks vs ts) x ts z done (output_at out₀ to) (written_to out₀ None)
    pair_not h b =
        record {
          answer = record { fits = λ i. absurd (omega (arith, pair_size)); over = λ i. (refl, refl) };
          bound = λ e. absurd (e refl);
          quiet = λ e. (refl, refl);
          same = λ e i. absurd (omega (arith, pair_size));
          long = λ i. refl;
          blank = b;
          variables = refl;
          nodes = refl;
        }

    pub pair_done : (us : List ℕ) (s : Solved) → Posed x ks vs ts us z (size t + size u) (solving.constrain (notion d) k z.solver t u) s
        → (out : List ℕ) (r : Option ℕ) (a : ℕ) → 3 ≤ length out₀ - to → a ≡ verdict_number s.verdict → Framed (outcome (a ∷ [])) out₀ to out r
        → DoesPair (lent x ks vs ts) s.solver us z done (output_at out₀ to) (written_to out r)
    pair_done us s C out r a h e f =
        let after = session_of (limits_of x) z (orders.pair d k t u) _ posed in
        let held : Represents s.solver (take s.solver.top ks) (take s.solver.top vs) us done.session
        = subst (λ (j : Session). Represents s.solver (take s.solver.top ks) (take s.solver.top vs) us j) (sym after) C.represents in
        record {
          answer = subst (λ (b : Answer). Framed b out₀ to out r) (ap (λ (i : ℕ). outcome (i ∷ [])) (e ∙ C.verdict) ∙ sym pair_answer) f;
          bound = λ i.
              subst (λ (l : List ℕ). Represents s.solver l vs us done.session) (ap (λ (j : ℕ). take j ks) (C.tokens i) ∙ take-length ks)
              (subst (λ (l : List ℕ). Represents s.solver (take s.solver.top ks) l us done.session)
              (ap (λ (j : ℕ). take j vs) (C.tokens i ∙ sym P.behind.pairs) ∙ take-length vs) held);
          quiet = λ i. (C.counters i, C.words i);
          same = λ i j. quiet_pair (limits_of x) z d k t u (sym held.revision ∙ i ∙ P.behind.represents.revision);
          long = λ i. absurd (omega (arith, pair_size));
          blank = C.blank;
          variables = C.variables;
          nodes = C.nodes;
        }

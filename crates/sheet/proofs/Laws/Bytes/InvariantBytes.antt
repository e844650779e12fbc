-- The session after a list of orders, each given as its bytes: in order and within its limits, premises or not; and what order 5 answers there for a
-- variable.
use mathlib.Core.Path.{◌≡◌, sym, ap, ◌∙◌, subst}
use mathlib.Core.Bool.{Bool, true, not}
use mathlib.Core.List.{List, [], ◌∷◌, append-nil}
use Prim.Native.Nat.{ℕ, ◌+◌, ◌≤◌, ◌<◌}
use native.Mathlib.Omega.{arith}
use borrow.Author.Tests.{lt-leb, lt-ltb, le-ltb}
use lib.ListN.{length}
use Rattle.solver.specs.Terms.Result.{Result, got, refused, pick}
use Rattle.solver.specs.Terms.Parser.{bind, byte}
use Rattle.solver.specs.Terms.Term.{Term, var, size, depth, AllVars, bytes}
use Rattle.solver.specs.Terms.Shape as shape
use Rattle.solver.specs.Terms.Shape.{ceiling}
use Rattle.solver.specs.Terms.Formed.{Formed}
use Rattle.solver.specs.Terms.Reading as reading
use Rattle.solver.specs.Terms.Questions.{meets}
use Rattle.solver.proofs.Terms.RoundTrip.{round_trip}
use Rattle.solver.specs.Constrain.{resolved}
use Rattle.solver.specs.Session.{Limits, Session, issued, fresh}
use Rattle.solver.specs.Orders as solver
use Rattle.solver.specs.Orders.{order, beyond, ◌gives◌}
use Rattle.solver.specs.Invariant.{Invariant, WithinLimits}
use Rattle.solver.proofs.Laws.Definition.InvariantLaws.{in_order, fits}
use Rattle.sheet.specs.Fields.{tree, levels, field, fields, last, nth, term_of}
use Rattle.sheet.specs.OrderTable.{outcome, resolve, session_orders, row_in, layout, known, Read, kinded_order, read_by}
use Rattle.sheet.specs.Operations.{operations}
use Rattle.sheet.specs.Sheet.{table, read_order, answer_of, step, step_read, order_of, run_of}
use Rattle.sheet.specs.OrdersInTurn.{session_after, answered_orders}
use Rattle.sheet.specs.Commands.{commands}
use Rattle.sheet.proofs.Laws.Bytes.CommandLaws.{session_commands}
use Rattle.sheet.proofs.Laws.Bytes.Demand3Run.{run_follows}

module _ (lim : Limits) where
  -- AFTER EVERY LIST OF ORDERS the session is in order (the revision "is the number of bound variables", no variable leads to itself) and within its limits.
  pub in_order_bytes : (bs : List (List ℕ)) → Invariant (session_after lim fresh bs)
  in_order_bytes bs = subst (λ (s : Session). Invariant s) (sym (session_commands lim fresh bs)) (in_order lim (commands lim fresh bs))

  pub fits_bytes : (bs : List (List ℕ)) → WithinLimits lim (session_after lim fresh bs)
  fits_bytes bs = subst (λ (s : Session). WithinLimits lim s) (sym (session_commands lim fresh bs)) (fits lim (commands lim fresh bs))

  -- and so after a run
  pub in_order_run : (s : List ℕ) (space : ℕ) → Invariant (run_of lim s space).session
  in_order_run s space = subst (λ (z : Session). Invariant z) (sym (run_follows lim s space).0) (in_order_bytes (answered_orders lim s space))

  pub fits_run : (s : List ℕ) (space : ℕ) → WithinLimits lim (run_of lim s space).session
  fits_run s space = subst (λ (z : Session). WithinLimits lim z) (sym (run_follows lim s space).0) (fits_bytes (answered_orders lim s space))

-- ---- order 5 for a variable

byte_first : (b : ℕ) (bs : List ℕ) → byte (b ∷ bs) 0 ≡ got b 1
byte_first b bs = ap (λ (c : Bool). pick c (got b 1) (refused 1)) (lt-ltb 0 (length (b ∷ bs)) (omega arith))

-- its bytes say so
read_5 : (n v : ℕ) → v < n → v ≤ ceiling shape.ordinary → read_order (5 ∷ bytes (var v)) n ≡ got (record { kind = resolve; fields = tree (var v) ∷ [] }) (1 + length (bytes (var v)))
unfolding read_by read_order row_in table session_orders operations kinded_order fields field layout known Formed depth AllVars
read_5 n v l m =
    let b : List ℕ = 5 ∷ bytes (var v) in
    let e : reading.term b n levels 1 ≡ got (var v) (1 + length (bytes (var v))) =
    round_trip b n levels (var v) m (omega arith) l 1 [] (sym (append-nil (bytes (var v)))) in
    ap (λ (x : Result ℕ). bind x (λ k. kinded_order b n (row_in table k))) (byte_first 5 (bytes (var v)))
    ∙ ap (λ (x : Result Term). bind (bind (bind x (λ t i. got (tree t) i)) (λ f i. bind (got [] i) (λ fs j. got (f ∷ fs) j))) (λ fs i. last b (record { kind = resolve; fields = fs }) i)) e
    ∙ ap (λ (c : Bool). pick c (refused 1) (got (record { kind = resolve; fields = tree (var v) ∷ [] }) (1 + length (bytes (var v)))))
    (le-ltb (1 + length (bytes (var v))) (length b) (omega arith))

-- "What a variable resolves to is the term order 5 would answer for it after the list, given space for order and answer": with space for its node
pub order_5 : (lim : Limits) (s : Session) (v : ℕ) → v < issued s → v ≤ ceiling shape.ordinary → s.kept < lim.nodes
    → (order_of lim s (5 ∷ bytes (var v))).answer ≡ outcome (bytes (resolved s.solver (var v)))
unfolding step nth term_of order beyond meets size answer_of
order_5 lim s v l m k =
    ap (λ (x : Result Read). (step_read lim s x).answer) (read_5 (issued s) v l m)
    ∙ ap (λ (a : Bool). answer_of (solver.unless lim s (not a) (solver.crowded lim s 1) (s gives solver.term (resolved s.solver (var v)))).reply) (lt-leb (issued s) v l)
    ∙ ap (λ (a : Bool). answer_of (solver.unless lim s true a (s gives solver.term (resolved s.solver (var v)))).reply) (le-ltb lim.nodes (s.kept + 1) (omega arith))

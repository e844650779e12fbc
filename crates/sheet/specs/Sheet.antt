-- An order on a session, and the run of a sheet: what the exported entry is to equal.
use Rattle.std.specs.Prelude.{List, [], ◌∷◌, ◌++◌, ℕ, zero, suc, ◌+◌, ◌-◌, ltb, leb, length, take, drop}
use Rattle.solver.specs.Terms.Result.{Result, got, refused, pick}
use Rattle.solver.specs.Terms.Number.{number, shortest}
use Rattle.solver.specs.Terms.Shape as shape
use Rattle.solver.specs.Terms.Shape.{ceiling}
use Rattle.solver.specs.Terms.Term.{bytes}
use Rattle.solver.specs.Session.{Limits, Session, issued, fresh}
use Rattle.solver.specs.Orders as solver
use Rattle.solver.specs.Orders.{Command, Reply, order}
use Rattle.sheet.specs.Fields.{Field, all_nodes}
use Rattle.sheet.specs.OrderTable.{Answer, refusal, outcome, Act, tells, answers, Row, session_orders, Read, read_by}
use Rattle.sheet.specs.Operations.{bit, operations}

-- THE TABLE OF ORDERS, whole
unfoldable pub table : List Row
table = session_orders ++ operations

unfoldable pub read_order : List ℕ → ℕ → Result Read
read_order s issued = read_by table s issued

-- ---- one order

pub record Step : Type 0 where
  pub session : Session
  pub answer : Answer

-- what a reply of the solver is as an answer
unfoldable pub answer_of : Reply → Answer
answer_of (solver.term t) = outcome (bytes t)
answer_of (solver.verdict n) = outcome (n ∷ [])
answer_of (solver.changed b) = outcome (bit b ∷ [])
answer_of (solver.count n) = outcome (shortest n)
answer_of solver.nothing = outcome []
answer_of (solver.refused c) = refusal c

module _ (lim : Limits) where
  abbrev pub solve : Session → Command → Step
  solve s c = record { session = (order lim s c).session; answer = answer_of (order lim s c).reply }

  -- "Orders 9 to 20 leave the session as it was"; 7 before the answer
  abbrev pub operate : Session → List Field → Answer → Step
  operate s fs a = record { session = s; answer = pick (ltb lim.nodes (s.kept + all_nodes fs)) (refusal 7) a }

  abbrev pub perform : Session → List Field → Act → Step
  perform s fs (tells f) = solve s (f fs)
  perform s fs (answers f) = operate s fs (f fs)

  unfoldable pub step : Session → Row → List Field → Step
  step s r fs = perform s fs r.act

  abbrev pub step_read : Session → Result Read → Step
  step_read s (got r n) = step s r.kind r.fields
  step_read s (refused c) = record { session = s; answer = refusal c }

  -- AN ORDER: its bytes, on a session
  abbrev pub order_of : Session → List ℕ → Step
  order_of s b = step_read s (read_order b (issued s))

-- "An answer is a length, an outcome byte (0 or a refusal), and on 0 the value."
unfoldable pub framed : Answer → List ℕ
framed (refusal c) = 1 ∷ c ∷ []
framed (outcome v) = shortest (suc (length v)) ++ 0 ∷ v

-- ---- the run

-- "The run returns a reason, the orders answered and the bytes written."
pub record Run : Type 0 where
  pub reason : ℕ
  pub orders : ℕ
  pub answers : List ℕ
  pub session : Session

abbrev pub ends : ℕ → Session → Run
ends reason s = record { reason = reason; orders = 0; answers = []; session = s }

-- an answer more, in front
abbrev pub answering : List ℕ → Run → Run
answering a r = record { reason = r.reason; orders = suc r.orders; answers = a ++ r.answers; session = r.session }

-- the next order: a length and that many bytes. "next length faulty, or beyond the sheet": none, 10.
abbrev pub part : List ℕ → Result ℕ → Result (List ℕ)
part s (got n from) = pick (ltb (length s - from) n) (refused 10) (got (take n (drop from s)) (from + n))
part s (refused c) = refused 10

abbrev pub next_order : List ℕ → ℕ → Result (List ℕ)
next_order s at = part s (number (ceiling shape.ordinary) s at)

module _ (lim : Limits) (s : List ℕ) where
  -- the order that comes next, answered if its answer fits whole; `go` is what follows
  abbrev pub answered : (Session → ℕ → ℕ → Run) → Session → ℕ → Result (List ℕ) → Run
  answered go z space (refused c) = ends 10 z
  answered go z space (got b next) =
      let x = order_of lim z b in
      let a = framed x.answer in
      pick (ltb space (length a)) (ends 11 z) (answering a (go x.session next (space - length a)))

  -- From a position on, with `space` bytes of output left. An order takes at least a byte, so that there are no more of them than fuel.
  unfoldable pub run_from : ℕ → Session → ℕ → ℕ → Run
  run_from zero z at space = ends 0 z
  run_from (suc fuel) z at space = pick (leb (length s) at) (ends 0 z) (answered (run_from fuel) z space (next_order s at))

-- THE RUN of a sheet with so much output, in a fresh session; run 12 apart
abbrev pub run_of : Limits → List ℕ → ℕ → Run
run_of lim s space = run_from lim s (suc (length s)) fresh 0 space

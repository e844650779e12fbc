-- The session as a run begins it and as an order finds it; what a run hands back and leaves.
use Rattle.std.specs.Prelude.{Option, Some, None, Bool, ◌&&◌, List, ◌++◌, ◌≡◌, ℕ, ◌+◌, leb, length, take, drop, replicate}
use Rattle.solver.specs.Terms.Result.{Result, got, refused, pick}
use Rattle.solver.specs.declared.Solver.{Solver}
use Rattle.solver.specs.Session.{Limits, Session, issued}
use Rattle.solver.specs.Invariant.{InOrder}
-- the limits, handed on to the crates that name this one alone
pub use Rattle.solver.specs.Session.{document_limits}
use Rattle.sheet.specs.Sheet.{Run, run_of}
use Rattle.sheet.specs.declared.Reason.{Reason}
use Rattle.sheet.specs.declared.Reason.TheVariants.{UsedUp, Length, Room, Sizes}
use Rattle.sheet.specs.Words.SessionInAreas.{Areas, RepresentsInAreas, AreasSuffice}

-- where framing says that the next order lies, as that part of the sheet and the position after it; 10 where a length is faulty
abbrev pub framed_part : List ℕ → Option (ℕ × ℕ) → Result (List ℕ)
framed_part s (Some (from, size)) = got (take size (drop from s)) (from + size)
framed_part s None = refused 10

-- As an order finds the areas: they are large enough, and hold a session that some list of orders leaves.
pub record AreasReady (x : Solver) (m : Areas) : Type 0 where
  pub roomy : AreasSuffice x (length m.a) m
  pub session : Session
  pub ordered : InOrder (issued session) session.solver
  pub in_areas : RepresentsInAreas x m session

-- ---- the run

-- document 01's number for why a run ended
abbrev pub number_of_reason : Reason → ℕ
number_of_reason UsedUp = 0
number_of_reason Length = 10
number_of_reason Room = 11
number_of_reason Sizes = 12

-- A run of the sheet s ended: reason, orders and bytes are those of the definition, and the output is its answers and then the old bytes.
pub record Ended (lim : Limits) (s out₀ : List ℕ) (r n m : ℕ) (out : List ℕ) : Type 0 where
  pub reason : r ≡ (run_of lim s (length out₀)).reason
  pub orders : n ≡ (run_of lim s (length out₀)).orders
  pub bytes : m ≡ length (run_of lim s (length out₀)).answers
  pub output : out ≡ (run_of lim s (length out₀)).answers ++ drop (length (run_of lim s (length out₀)).answers) out₀

-- the areas that it leaves hold a session
pub record Left (x : Solver) (m : Areas) : Type 0 where
  pub session : Session
  pub in_areas : RepresentsInAreas x m session

-- what a run hands back, and the end state of all that it was lent
pub record Finish : Type 0 where
  pub reason : ℕ
  pub orders : ℕ
  pub bytes : ℕ
  pub out : List ℕ
  pub a : List ℕ
  pub b : List ℕ
  pub c : List ℕ
  pub d : List ℕ

abbrev pub finished : (reason orders bytes : ℕ) (out a b c d : List ℕ) → Finish
finished reason orders bytes out a b c d = record { reason = reason; orders = orders; bytes = bytes; out = out; a = a; b = b; c = c; d = d }

-- "sheet or output over 16,777,216 bytes, or one of four work areas below 16,384 words": none of this
unfoldable pub sizes_accepted : (words sheet out a b c d : ℕ) → Bool
sizes_accepted words sheet out a b c d = leb sheet 16777216 && leb out 16777216 && leb words a && leb words b && leb words c && leb words d

-- "Bytes past those written are untouched. Work areas end all zero"
unfoldable pub state_after_run : Run → (out a b c d : List ℕ) → Finish
state_after_run r out a b c d =
    finished r.reason r.orders (length r.answers) (r.answers ++ drop (length r.answers) out)
    (replicate (length a) 0) (replicate (length b) 0) (replicate (length c) 0) (replicate (length d) 0)

-- THE END of a run. "12 is tested first": "nothing written, orders 0, bytes 0", and the areas stay as they were.
unfoldable pub entry_result : Limits → ℕ → (s out a b c d : List ℕ) → Finish
entry_result lim words s out a b c d =
    pick (sizes_accepted words (length s) (length out) (length a) (length b) (length c) (length d)) (state_after_run (run_of lim s (length out)) out a b c d) (finished 12 0 0 out a b c d)

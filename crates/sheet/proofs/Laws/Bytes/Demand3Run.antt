-- The run of a sheet is its answered orders given in turn to a fresh session, so that demand 3 holds of them.
use mathlib.Core.Path.{◌≡◌, refl, sym, ap, ◌∙◌}
use mathlib.Core.Bool.{Bool, true, false}
use mathlib.Core.List.{List, [], ◌∷◌, ◌++◌}
use Prim.Native.Nat.{ℕ, zero, suc, ◌+◌, ◌-◌}
use lib.Dec.{ltb, leb}
use lib.ListN.{length, take, drop}
use Rattle.solver.specs.Terms.Result.{Result, got, refused, pick}
use Rattle.solver.specs.Terms.Number.{number}
use Rattle.solver.specs.Terms.Shape as shape
use Rattle.solver.specs.Terms.Shape.{ceiling}
use Rattle.solver.specs.Session.{Limits, Session, fresh}
use Rattle.solver.specs.Demand3.{beginning}
use Rattle.sheet.specs.Sheet.{Run, order_of, framed, ends, answering, part, next_order, answered, run_from, run_of}
use Rattle.sheet.specs.OrdersInTurn.{session_after, part_then, orders_from, answered_orders, answers_to}
use Rattle.sheet.specs.Demand3.{ByteString, ByteStrings, history_of, Premises, Demand3OfBytes, OnlyPosedBy}
use Rattle.sheet.proofs.Laws.Bytes.Demand3Bytes.{history_session, demand_3_bytes}

-- ---- the parts of a sheet are bytes

take_bytes : (n : ℕ) (s : List ℕ) → ByteString s → ByteString (take n s)
unfolding ByteString
take_bytes zero s o = tt
take_bytes (suc n) [] o = tt
take_bytes (suc n) (b ∷ s) o = (o.0, take_bytes n s o.1)

drop_bytes : (n : ℕ) (s : List ℕ) → ByteString s → ByteString (drop n s)
unfolding ByteString
drop_bytes zero s o = o
drop_bytes (suc n) [] o = tt
drop_bytes (suc n) (b ∷ s) o = drop_bytes n s o.1

pub orders_bytes : (s : List ℕ) → ByteString s → (n at : ℕ) → ByteStrings (orders_from s n at)
unfolding orders_from ByteStrings
orders_bytes s o zero at = tt
orders_bytes s o (suc n) at = go (λ k. orders_bytes s o n k) (number (ceiling shape.ordinary) s at)
  where
    fits : ((k : ℕ) → ByteStrings (orders_from s n k)) → (k from : ℕ) (b : Bool) → ByteStrings (part_then (orders_from s n) (pick b (refused 10) (got (take k (drop from s)) (from + k))))
    fits more k from true = tt
    fits more k from false = (take_bytes k (drop from s) (drop_bytes from s o), more (from + k))

    go : ((k : ℕ) → ByteStrings (orders_from s n k)) → (x : Result ℕ) → ByteStrings (part_then (orders_from s n) (part s x))
    go more (got k from) = fits more k from (ltb (length s - from) k)
    go more (refused c) = tt

-- ---- the run

-- a run from a position on, in a session: the next orders in turn, as many as it reports
record InTurn (lim : Limits) (s : List ℕ) (z : Session) (at : ℕ) (r : Run) : Type 0 where
  session : r.session ≡ session_after lim z (orders_from s r.orders at)
  answers : r.answers ≡ answers_to lim z (orders_from s r.orders at)
  many : length (orders_from s r.orders at) ≡ r.orders

module _ (lim : Limits) (s : List ℕ) where
  stopped : (reason : ℕ) (z : Session) (at : ℕ) → InTurn lim s z at (ends reason z)
  unfolding orders_from session_after answers_to
  stopped reason z at = record { session = refl; answers = refl; many = refl }

  one_more : (z : Session) (at : ℕ) (b : List ℕ) (next : ℕ) → next_order s at ≡ got b next → (r : Run) → InTurn lim s (order_of lim z b).session next r
      → InTurn lim s z at (answering (framed (order_of lim z b).answer) r)
  unfolding orders_from session_after answers_to
  one_more z at b next e r f =
      let q : orders_from s (suc r.orders) at ≡ b ∷ orders_from s r.orders next = ap (part_then (orders_from s r.orders)) e in
      record {
        session = f.session ∙ sym (ap (session_after lim z) q);
        answers = ap (λ (l : List ℕ). framed (order_of lim z b).answer ++ l) f.answers ∙ sym (ap (answers_to lim z) q);
        many = ap (λ (l : List (List ℕ)). length l) q ∙ ap suc f.many;
      }

  follows : (fuel : ℕ) (z : Session) (at space : ℕ) → InTurn lim s z at (run_from lim s fuel z at space)
  unfolding run_from
  follows zero z at space = stopped 0 z at
  follows (suc fuel) z at space = go (λ y k m. follows fuel y k m) (leb (length s) at)
    where
      fits : ((y : Session) (k m : ℕ) → InTurn lim s y k (run_from lim s fuel y k m)) → (b : List ℕ) (next : ℕ) → next_order s at ≡ got b next → (over : Bool)
          → InTurn lim s z at
          (pick over (ends 11 z) (answering (framed (order_of lim z b).answer) (run_from lim s fuel (order_of lim z b).session next (space - length (framed (order_of lim z b).answer)))))
      fits more b next e true = stopped 11 z at
      fits more b next e false = one_more z at b next e _ (more (order_of lim z b).session next (space - length (framed (order_of lim z b).answer)))

      comes : ((y : Session) (k m : ℕ) → InTurn lim s y k (run_from lim s fuel y k m)) → (x : Result (List ℕ)) → next_order s at ≡ x → InTurn lim s z at (answered lim s (run_from lim s fuel) z space x)
      comes more (got b next) e = fits more b next e (ltb space (length (framed (order_of lim z b).answer)))
      comes more (refused c) e = stopped 10 z at

      go : ((y : Session) (k m : ℕ) → InTurn lim s y k (run_from lim s fuel y k m)) → (b : Bool) → InTurn lim s z at (pick b (ends 0 z) (answered lim s (run_from lim s fuel) z space (next_order s at)))
      go more true = stopped 0 z at
      go more false = comes more (next_order s at) refl

-- THE RUN IS ITS ANSWERED ORDERS IN TURN: its session is the one after them, and its answers are theirs one after the other.
pub run_follows : (lim : Limits) (s : List ℕ) (space : ℕ)
    → ((run_of lim s space).session ≡ session_after lim fresh (answered_orders lim s space))
    × ((run_of lim s space).answers ≡ answers_to lim fresh (answered_orders lim s space))
    × (length (answered_orders lim s space) ≡ (run_of lim s space).orders)
run_follows lim s space = let f = follows lim s (suc (length s)) fresh 0 space in (f.session, f.answers, f.many)

-- DEMAND 3 of a run: of the orders that it answered, and of the session that it left.
pub demand_3_run : (lim : Limits) (strict : Bool) (s : List ℕ) → ByteString s → (space : ℕ) → OnlyPosedBy lim strict (answered_orders lim s space) → Premises lim (answered_orders lim s space)
    → Demand3OfBytes lim strict (answered_orders lim s space)
    × ((history_of lim beginning (answered_orders lim s space)).session ≡ (run_of lim s space).session)
demand_3_run lim strict s o space y p = (
  demand_3_bytes lim strict (answered_orders lim s space) (orders_bytes s o (run_of lim s space).orders 0) y p,
  history_session lim beginning (answered_orders lim s space) ∙ sym (run_follows lim s space).0,
)

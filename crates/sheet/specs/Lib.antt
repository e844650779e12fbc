-- The sheet: what the bytes of an order say, what each order answers, the run, and the entry.
-- The crate assumes nothing: no axiom, no hole, nothing trusted, here and in proofs; the gate looks for them.
-- What must be believed stands directly in this folder. Read it in this order:
--   Fields         the fields of an order, and reading them
--   OrderTable     a row of the table of orders; the rows of the orders of the session; reading an order
--   Operations     the rows of orders 9 to 20, which leave the session as it was
--   Sheet          the table whole; an order on a session; the run of a sheet
--   OrdersInTurn   lists of orders given in turn
--   Entry          the session as a run begins it and as an order finds it; what a run hands back and leaves
--   Stopping       where a run stops, and why
--   Demand3        demand 3
--   Commands       what such a list tells the session
--   PairsAnswered  its orders 4 that were answered so, as bytes
--   MixedPairs     a pair of a list that mixes orders 4 and 22
--   RepeatedPairs  a pair that was compatible, posed again
--   RobinsonBytes  plain first-order pairs: all of a list, and each by itself
--   RustBytes      the answers that are compared with the Rust's
-- Words/ is the vocabulary of the code's contracts: what the words of the areas hold, and what the functions need and
-- leave. No promise rests on it.
pub mod Fields
pub mod OrderTable
pub mod Operations
pub mod Sheet
pub mod OrdersInTurn
pub mod Entry
pub mod Stopping
pub mod Demand3
pub mod Commands
pub mod PairsAnswered
pub mod MixedPairs
pub mod RepeatedPairs
pub mod RobinsonBytes
pub mod RustBytes
pub mod Words

-- The solver on the terms of crate terms: orders 0 to 8, 21 and 22, demand 3, and what is compared with Robinson 1965 and with the
-- Rust.
-- The crate assumes nothing: no axiom, no hole, nothing trusted, here and in proofs; the gate looks for them.
-- What must be believed stands directly in this folder. Read it in this order:
--   Families      what is requested of a number variable (crate unify), and the terms of a family
--   Shapes        equal shape, with the access that counts as a parameter; the notions of orders 4 and 22
--   Constrain     `resolve` and `constrain`
--   Session       places, deferrals, defaults
--   Orders        orders 0 to 8, 21 and 22, and their answers
--   Demand3       demand 3: its premises and its two sentences; lists that mix orders 4 and 22; numeric defaults after compatible pairs
--   Invariant     a solver in order, which every order keeps, and what follows
--   Robinson      Robinson 1965 on terms: the Unification Algorithm, most general unifiers, and what demand 2 says of
--                 plain pairs
--   RobinsonPair  what it says of each plain pair, in every session
--   Again         a compatible pair posed again
--   Rust          the Rust's `Solver`, line by line, on terms
--   Terms         the definitions of crate terms, handed on to the sheet
--   TermTypes     types of crate terms, handed on
--   Theory        the theory of the solver, handed on
-- Words/ is the vocabulary of the code's contracts: what the words of the areas hold, and what the functions need and
-- leave. No promise rests on it.
pub mod Families
pub mod Shapes
pub mod Constrain
pub mod Session
pub mod Orders
pub mod Demand3
pub mod Invariant
pub mod Robinson
pub mod RobinsonPair
pub mod Again
pub mod Rust
pub mod Terms
pub mod TermTypes
pub mod Theory
pub mod Words

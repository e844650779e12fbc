-- The theorems of the theory. Read in this order:
--   Sound            `constrain` keeps the assignments, and answers incompatible only where there are none
--   Demand           demand 3, proved of the solver over substitutions
--   Lazy             bindings as posed: the revision is fuel enough
--   Refine           the table answers as `Solver` does; demand 3 of it; the revision is the number of bound variables
--   Whole            after every list of orders the session is in order; demand 3, whole
--   Enough           every pair is settled by some number of checks
--   Robinson         most general unifiers, on pairs with no access marks
--   Unification1965  the algorithm ends, the Unification Theorem, and the solver answers as the algorithm does
--   RobinsonPair     the algorithm decides each plain pair, in every session
--   PlainLists       plain pairs by the posed terms alone
--   InOrder          a session in order names no equality, and every order keeps it
--   Acyclic          bindings without a circle are enough for that
--   Mixed            a pair posed by one of several equalities, over substitutions
--   MixLaws          sessions of such pairs: the half of demand 3, each pair, Robinson 1965, sessions of one equality
--   FilledLaws       numeric defaults after compatible pairs satisfy every pair, within every request
--   RangedLaws       requests with ranges: meetings, and what a default takes
--   Again            a compatible pair posed again binds nothing and is not incompatible
--   RustMapLaws      laws of the Rust's maps and vectors; a map sorted by its keys
--   RustRounds       the rounds of the Rust's `resolve` are enough
--   Examples         Kagari's heads and families as an instance, and worked sessions and pairs
pub mod Sound
pub mod Demand
pub mod Lazy
pub mod Refine
pub mod Whole
pub mod Enough
pub mod Robinson
pub mod Unification1965
pub mod RobinsonPair
pub mod PlainLists
pub mod InOrder
pub mod Acyclic
pub mod Mixed
pub mod MixLaws
pub mod FilledLaws
pub mod RangedLaws
pub mod Again
pub mod RustMapLaws
pub mod RustRounds
pub mod Examples

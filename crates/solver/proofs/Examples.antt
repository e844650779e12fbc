-- Worked examples, by computation.
--   Again          pairs posed again, and one with a recovery term that binds again
--   Demand3        demand 3 used on two sessions
--   Filled         numeric defaults after compatible pairs: the theorem used, and why fallbacks are asked for
--   Ranges         numbers known as a range
--   Resolved       a pair of two variables, the first bound to a builtin
--   RobinsonPairs  the theorem used on pairs after orders that the one on whole lists leaves out
--   RustSessions   sessions run on the Rust's solver, and pairs given to Robinson's algorithm
--   Sessions       document 01's session, marked lines and slips, by computation
--   Strict         strict pairs and lists that mix them with others; demand 3 and the two sentences on mixes, used
pub mod Again
pub mod Demand3
pub mod Filled
pub mod Ranges
pub mod Resolved
pub mod RobinsonPairs
pub mod RustSessions
pub mod Sessions
pub mod Strict

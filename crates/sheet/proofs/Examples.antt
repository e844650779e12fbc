-- Worked examples, by computation.
--   BarSession     document 01's session
--   Demand3        demand 3 used on two lists
--   MarkedTable    document 01's marked lines
--   Ranges         order 21 as bytes
--   RobinsonPairs  Robinson's theorem for each plain pair, used on order bytes that the theorem on whole lists leaves
--                  out
--   Runs           short runs
--   StrictPairs    order 22 as bytes
pub mod BarSession
pub mod Demand3
pub mod MarkedTable
pub mod Ranges
pub mod RobinsonPairs
pub mod Runs
pub mod StrictPairs

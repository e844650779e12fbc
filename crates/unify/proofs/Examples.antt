-- Worked examples, by computation.
--   Kagari  Kagari's heads and families as an instance, and the worked session
--   Pairs   `RobinsonPair` on them, and worked pairs
--   Mixes   sessions that mix both equalities
--   Ranges  requests with ranges, and sessions of them
pub mod Kagari
pub mod Pairs
pub mod Mixes
pub mod Ranges

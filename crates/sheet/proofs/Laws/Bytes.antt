-- Laws: demands 2 and 3, and pairs posed again, over order bytes.
--   CommandLaws        an order does what its bytes tell the session
--   PairsAnsweredLaws  which pairs of such a list were answered so, as bytes
--   RepeatedPairLaws   pairs that bind nothing leave the session, so that repeats run through
--   Demand3Bytes       demand 3 for lists of orders, each given as its bytes
--   Demand3Run         demand 3 for the orders that a run answered
--   InvariantBytes     the session after any list of orders, and after a run; order 5 for a variable
--   RustBytesLaws      the Rust's solver answers orders 0 to 8 byte by byte the same
--   RobinsonBytesLaws  plain first-order pairs given as order bytes, against Robinson 1965: all of a list, and each by
--                      itself
pub mod CommandLaws
pub mod PairsAnsweredLaws
pub mod RepeatedPairLaws
pub mod Demand3Bytes
pub mod Demand3Run
pub mod InvariantBytes
pub mod RustBytesLaws
pub mod RobinsonBytesLaws

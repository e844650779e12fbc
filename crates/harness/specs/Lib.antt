-- What a head says, and what the run gives that it asks for.
-- The crate assumes nothing: no axiom, no hole, nothing trusted, here and in proofs; the gate looks for them.
pub mod Head
pub mod Run

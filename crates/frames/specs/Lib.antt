-- Numbers of four bytes.
-- The crate assumes nothing: no axiom, no hole, nothing trusted, here and in proofs; the gate looks for them.
pub mod Numbers

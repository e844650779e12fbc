-- Proofs. Laws are grouped by what they are about; a folder named as a module of the code has the proofs of its
-- functions: MODULE/FUNCTION/Invariants.antt and Answers.antt, where the check does not find all of them.
--   Main            all promises on one page: start here
--   Laws/Reading    an order read into the areas
--   Laws/Answering  an order answered in the areas
--   Laws/Run        the run of a sheet, and the call
--   Laws/Bytes      demands 2 and 3 over order bytes
--   Examples        document 01's lines and worked sessions, by computation, and the theorems used
pub mod Main
pub mod Laws
pub mod Examples

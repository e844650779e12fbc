-- Proofs. Laws are grouped by what they are about; a folder named as a module of the code has the proofs of its
-- functions, MODULE/FUNCTION/Invariants.antt and Answers.antt; what is not there the check finds.
--   Laws/General      flags, and a slice that is lent again
--   Laws/Numbers      numbers in bytes: their steps, bounds and shortest form
--   Laws/Format       a term read from its bytes and kept, and the bytes of a term
--   Laws/Held         terms and rows in the areas; formed terms
--   Laws/Asking       questions, comparison and bounds
--   Laws/Replacing    recovery, and substitution
--   Laws/Normalising  associated types: the tokens seen, rules, the walk, its result
--   Examples          document 01's lines and worked sessions, by computation, and the theorems used
pub mod Laws
pub mod Examples

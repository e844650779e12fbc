-- Proofs. Laws are grouped by what they are about; a folder named as a module of the code has what is written of the
-- proofs of its functions, MODULE/FUNCTION/Invariants.antt and Answers.antt. The check finds the rest.
--   Laws/Definition  the solver's definition: requests, the invariant, fuel, histories
--   Laws/Theory      terms as trees of the theory; demand 3, carried over from it
--   Laws/Robinson    Robinson 1965 on terms
--   Laws/Rust        the Rust's `Solver` answers as the definition
--   Laws/Resolving   a held term with bound variables replaced, on words
--   Laws/Table       a session in its words: columns, counters, methods
--   Laws/Equality    equality of resolved terms: classes of places, closed under congruence
--   Laws/Checks      `constrain` on words: pending pairs, one check, the loop
--   Examples         document 01's lines and worked sessions, by computation, and the theorems used
--   Terms            the laws of the terms, handed on
pub mod Terms
pub mod Laws
pub mod Examples

-- The laws, in groups.
--   Definition  the solver's definition: requests, the invariant, fuel, histories
--   Theory      terms as trees of the theory; demand 3, carried over from it
--   Robinson    Robinson 1965 on terms
--   Rust        the Rust's `Solver` answers as the definition
--   Resolving   a held term with bound variables replaced, on words
--   Table       a session in its words: columns, counters, methods
--   Equality    equality of resolved terms: classes of places, closed under congruence
--   Checks      `constrain` on words: pending pairs, one check, the loop
pub mod Definition
pub mod Theory
pub mod Robinson
pub mod Rust
pub mod Resolving
pub mod Table
pub mod Equality
pub mod Checks

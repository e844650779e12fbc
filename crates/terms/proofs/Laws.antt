-- The laws, in groups.
--   General      flags, and a slice that is lent again
--   Numbers      numbers in bytes: their steps, bounds and shortest form
--   Format       a term read from its bytes and kept, and the bytes of a term
--   Held         terms and rows in the areas; formed terms
--   Asking       questions, comparison and bounds
--   Replacing    recovery, and substitution
--   Normalising  associated types: the tokens seen, rules, the walk, its result
pub mod General
pub mod Numbers
pub mod Format
pub mod Held
pub mod Asking
pub mod Replacing
pub mod Normalising

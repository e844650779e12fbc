-- Terms: their byte form, and the operations on them.
-- The crate assumes nothing: no axiom, no hole, nothing trusted, here and in proofs; the gate looks for them.
-- What must be believed stands directly in this folder. Read it in this order:
--   Result        what a reader finds: a value and the position after it, or a refusal
--   Parser        readers one after another
--   Number        numbers in bytes: base 128, shortest form only
--   Term          terms, their tokens, their nodes and their bytes
--   Shape         the table of the twenty kinds: which numbers and terms follow each tag
--   Formed        the terms that have a byte form
--   Reading       what the bytes of a term say: the term, or the first refusal met
--   Parameters    parameters in the bytes of an order
--   Rows          the lists that a substitution and a family have in an order's bytes
--   Tree          a tree by its parts: children, equality, nominals and projections
--   Questions     orders 15 and 16: the questions of `TypeId` that look for a term of some kind
--   Comparison    `conflicts_with`, `can_weaken_to`, `satisfies`, `satisfies_for`
--   Recovery      `recover_from`
--   Substitution  `substitute_once` and its uses
--   Normal        `normalize` of associated.rs on trees; orders 19 and 20
--   Lookup        what a projection is replaced by, looked up in rows as they stand
-- Words/ is the vocabulary of the code's contracts: what the words of the areas hold, and what the functions need and
-- leave. No promise rests on it.
pub mod Result
pub mod Parser
pub mod Number
pub mod Term
pub mod Shape
pub mod Formed
pub mod Reading
pub mod Parameters
pub mod Rows
pub mod Tree
pub mod Questions
pub mod Comparison
pub mod Recovery
pub mod Substitution
pub mod Normal
pub mod Lookup
pub mod Words

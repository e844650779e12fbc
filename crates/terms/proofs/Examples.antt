-- Worked examples, by computation.
--   Binders        lists, searches and rewriting on small bytes and areas, by computation
--   Marked         some worked lines, on the definition
--   MarkedNumbers  the marked lines of the request on numbers
--   Normalising    `normalize` and `with_associated_types` on small terms, by computation
--   Operations     the operations on small terms, by computation
pub mod Binders
pub mod Marked
pub mod MarkedNumbers
pub mod Normalising
pub mod Operations

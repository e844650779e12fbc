-- Laws: Robinson 1965 on terms.
--   RobinsonView      terms as trees with their children in byte order; Robinson's algorithm on terms is that on trees
--   RobinsonLaws      the Unification Theorem on terms; on plain pairs the solver answers as Robinson's algorithm does
--   RobinsonPairLaws  each plain pair in every session: it answers as Robinson's algorithm does
--   PlainListLaws     plain pairs by the terms as they were posed
pub mod RobinsonView
pub mod RobinsonLaws
pub mod RobinsonPairLaws
pub mod PlainListLaws

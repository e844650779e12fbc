-- Laws: equality of resolved terms: classes of places, closed under congruence.
--   Pigeonhole       different numbers are few, and so are tokens that begin a term
--   ClassesCoincide  places of one class hold terms that come to the same
--   CodeLaws         the code of a builtin
--   HalfLaws         words as lists of halves
--   LinkLaws         one join: the links and the queue, and what its outcomes tell
--   UnionRowLaws     the joins of two rows
--   CloseLaws        the joins followed to the end
--   EqualLaws        nothing linked yet, the entry that is taken, one class from two, and the answer of `same_terms`
pub mod Pigeonhole
pub mod ClassesCoincide
pub mod CodeLaws
pub mod HalfLaws
pub mod LinkLaws
pub mod UnionRowLaws
pub mod CloseLaws
pub mod EqualLaws

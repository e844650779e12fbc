-- Laws: terms as trees of the theory; demand 3, carried over from it.
--   TheoryView        terms as trees of the theory, and the way back
--   Signature         the heads and families of the theory; which trees are views
--   TheoryViewLaws    the view keeps substitution, resolving, questions and shapes
--   ConstrainView     `constrain` and the defaults, viewed
--   TheorySimulation  each order and each answer, viewed
--   MixView           lists of orders, with the notion of each pair
--   Demand3Laws       demand 3; what a list that mixes strict pairs with others keeps of it
--   FilledLaws        numeric defaults after a list whose pairs were all compatible
--   AgainLaws         a compatible pair posed again binds nothing and is not incompatible
--   RepeatLaws        so a script that repeats it runs through
pub mod TheoryView
pub mod Signature
pub mod TheoryViewLaws
pub mod ConstrainView
pub mod TheorySimulation
pub mod MixView
pub mod Demand3Laws
pub mod FilledLaws
pub mod AgainLaws
pub mod RepeatLaws

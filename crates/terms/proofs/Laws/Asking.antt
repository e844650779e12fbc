-- Laws: questions, comparison and bounds.
--   QuestionLaws  the questions on tokens
--   FoundLaws     the walk of the questions finds a term exactly if one that counts is among those it enters
--   ConflictLaws  `conflicts_with` on rows in the areas
--   WeakenLaws    `can_weaken_to` by the tokens
--   BoundLaws     `satisfies` and `satisfies_for` on the rows of nominals in the areas
pub mod QuestionLaws
pub mod FoundLaws
pub mod ConflictLaws
pub mod WeakenLaws
pub mod BoundLaws

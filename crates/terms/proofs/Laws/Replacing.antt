-- Laws: recovery, and substitution.
--   RecoverLaws          `recover_from` on tokens
--   SubstitutionLaws     laws of substitution
--   FindLaws             searches in the areas
--   RewriteLaws          writing with binders replaced
--   InsertLaws           what is written with binders replaced is the bytes of the substituted term, where the areas
--                        hold the term
--   SubstitutionUseLaws  what is chosen for a term is what the step of each use gives
pub mod RecoverLaws
pub mod SubstitutionLaws
pub mod FindLaws
pub mod RewriteLaws
pub mod InsertLaws
pub mod SubstitutionUseLaws

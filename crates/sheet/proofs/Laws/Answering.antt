-- Laws: an order answered in the areas.
--   FramingLaws         answers in the output
--   AnswerLaws          what crate terms tells, as answers
--   OperationFieldLaws  the fields of each kind of order
--   OperationStepLaws   the operations on a session
--   SessionRowLaws      what an order of the session tells is made of its fields
--   SessionOrderLaws    orders 0 to 8, 21 and 22 on what is lent
--   TermOrderLaws       orders 3, 4 and 5: terms after the tokens of the session
--   TermlessLaws        orders without terms: what their fields say, and what they tell
--   SessionInAreasLaws  what is lent of the areas, and a session laid out again
--   DispatchLaws        an order answered in the areas
pub mod FramingLaws
pub mod AnswerLaws
pub mod OperationFieldLaws
pub mod OperationStepLaws
pub mod SessionRowLaws
pub mod SessionOrderLaws
pub mod TermOrderLaws
pub mod TermlessLaws
pub mod SessionInAreasLaws
pub mod DispatchLaws

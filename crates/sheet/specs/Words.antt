-- The vocabulary of the code's contracts: what the words of the areas hold, and what the functions need and leave. A
-- module NAMEContract has what the contracts of the module of the code of that name say, or of the modules that it
-- serves. No promise rests on these.
--   DispatchContract       an order taken into the areas, and served there
--   FieldLayout            the fields' sorts, tokens and spots, and what the reading functions leave
--   FieldsContract         the answers of the reading functions, which are lent a place
--   FieldsFormed           fields whose terms are formed
--   FieldsHeld             the fields of an order, held
--   FramingContract        answers in the output
--   OperationsContract     what the functions that answer ask and promise
--   OrderGiven             an order that was read: held, formed, of the sorts of its kind
--   OrderKinds             the orders as the code has them: the row of each, and which order has a number
--   OrderReaderContract    an order read into the areas
--   SessionInAreas         a session in the four areas, and an order answered there
--   SessionOrdersContract  orders 0 to 8, 21 and 22 on what the solver is lent
--   SplittingContract      the orders of a sheet, one after another
pub mod DispatchContract
pub mod FieldLayout
pub mod FieldsContract
pub mod FieldsFormed
pub mod FieldsHeld
pub mod FramingContract
pub mod OperationsContract
pub mod OrderGiven
pub mod OrderKinds
pub mod OrderReaderContract
pub mod SessionInAreas
pub mod SessionOrdersContract
pub mod SplittingContract

-- Laws: an order read into the areas.
--   StoredLaws        tokens stored one run after the other, and cleared
--   FieldLaws         what is read is formed, and how many tokens it has
--   OrderTableLaws    the table of orders: tests computed over it
--   OrderKindLaws     the orders as the code has them, and their rows
--   FitLaws           what is read is of the sorts of its kind
--   SpotLaws          where the fields stand, and that they are held there
--   FieldLoopLaws     the loop over a layout
--   PartLaws          one field read and kept, and its spot
--   RuleReading       rules as fields, and their records
--   OrderLaws         the whole order
--   ReadOrderUseLaws  what a caller has of an order that was read
pub mod StoredLaws
pub mod FieldLaws
pub mod OrderTableLaws
pub mod OrderKindLaws
pub mod FitLaws
pub mod SpotLaws
pub mod FieldLoopLaws
pub mod PartLaws
pub mod RuleReading
pub mod OrderLaws
pub mod ReadOrderUseLaws

-- The laws, in groups.
--   Reading    an order read into the areas
--   Answering  an order answered in the areas
--   Run        the run of a sheet, and the call
--   Bytes      demands 2 and 3 over order bytes
pub mod Reading
pub mod Answering
pub mod Run
pub mod Bytes

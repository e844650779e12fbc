-- Laws: a session in its words: columns, counters, methods.
--   ColumnLaws          reading and writing the columns of a table
--   RequestWordLaws     the words of requests: what one admits, how two meet, what a default takes
--   RepresentationLaws  a session that is held, at the start, with more tokens and with other scratch
--   MethodLaws          the counters and the table after a method, by what has changed; places and orders 0 to 2
--   PlaceSearchLaws     a search from the last variable down, and the one that it finds
--   ChainLaws           the end of a chain of bindings; deferrals and defaults
--   AdmitLaws           what a number variable may be bound to, by tokens and words; a binding made
--   OrderTermLaws       terms after the tokens of a session
--   SessionsLaws        a session alone in its areas: fresh, and cleared
pub mod ColumnLaws
pub mod RequestWordLaws
pub mod RepresentationLaws
pub mod MethodLaws
pub mod PlaceSearchLaws
pub mod ChainLaws
pub mod AdmitLaws
pub mod OrderTermLaws
pub mod SessionsLaws
pub mod ChainWordLaws
pub mod ChainTableLaws

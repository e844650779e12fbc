-- Laws: a term read from its bytes and kept, and the bytes of a term.
--   FieldLaws         codes and numbers, case by case
--   StoreLaws         runs of stores into the two areas
--   ReadSequenceLaws  what a run of reads leaves, put together from what each leaves
--   RowPieceLaws      a row is its pieces one after another
--   ValueLaws         what the readers of codes and numbers answer, on plain values
--   ReadLaws          what each reading function answers, from what its parts answer, on plain values
--   KindTableLaws     rules of the table of kinds, each one computed test
--   ShapeLaws         rows that fit a shape
--   TokenCountLaws    how many tokens a formed term has, by its nodes and leaves
--   RoomLaws          room for the tokens of terms, rules and order 17 where ids take two
--   Sound             what the reader finds is a formed term within its levels, whose variables are issued, and whose
--                     bytes are exactly those that were taken
--   RoundTrip         a formed term's bytes are read back as that term, whatever stands before and after them
--   WriteLaws         laws of writing
--   ReaderLaws        what the term reader is asked for and does, as one request
--   KeepTermLaws      what is offered of reading, from what the reading functions leave
--   ListLaws          lists read record by record and kept as rows
--   ListReaderLaws    the term reader goes from record to record
--   KeepSequenceLaws  what is kept stays
--   ParameterLaws     parameters in the bytes
pub mod FieldLaws
pub mod StoreLaws
pub mod ReadSequenceLaws
pub mod RowPieceLaws
pub mod ValueLaws
pub mod ReadLaws
pub mod KindTableLaws
pub mod ShapeLaws
pub mod TokenCountLaws
pub mod RoomLaws
pub mod Sound
pub mod RoundTrip
pub mod WriteLaws
pub mod ReaderLaws
pub mod KeepTermLaws
pub mod ListLaws
pub mod ListReaderLaws
pub mod KeepSequenceLaws
pub mod ParameterLaws

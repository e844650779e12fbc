-- The vocabulary of the code's contracts: what the words of the areas hold, and what the functions need and leave. A
-- module NAMEContract has what the contracts of the module of the code of that name say, or of the modules that it
-- serves. No promise rests on these.
--   Arena              trees in words
--   CompareContract    what the functions that compare two rows hand on
--   FindContract       searches in the areas, on words
--   Held               terms and rows that the areas hold
--   Lent               what a lent value says
--   ListsContract      what the term reader does in a list of an order
--   NormalContract     what normalising answers, and what it leaves in the record areas
--   QuestionsContract  words by which the questions are answered
--   ReadContract       what the reading functions answer and leave
--   ReaderContract     what the term reader is asked, and what it leaves
--   RecoverContract    what the functions that recover a term hand on
--   RewriteContract    writing a term with its binders replaced
--   RowPieces          the pieces in which the code reads a plain row
--   PairsContract      what a walk over two rows comes to
--   RowsContract       what a walk over a row comes to
--   RuleListContract   the rules as a list of records, scanned for a member
--   RulesContract      what the search of a rule answers
--   SatisfyContract    what the functions that test a bound hand on
--   ShowingContract    bytes sized, or written
--   Outcomes           the answers of the functions that are lent a place
--   SlotsContract      the classes of tags
--   TermsAtPlaces      what stands at the places that a function is told
--   TokenBytes         the bytes of tokens as they stand
--   Tokens             the token areas
--   VirtualTokens      the tokens that normalising sees
--   WalkingContract    what a visit leaves in the arena
pub mod Arena
pub mod CompareContract
pub mod FindContract
pub mod Held
pub mod Lent
pub mod ListsContract
pub mod NormalContract
pub mod QuestionsContract
pub mod ReadContract
pub mod ReaderContract
pub mod RecoverContract
pub mod RewriteContract
pub mod RowPieces
pub mod RowsContract
pub mod RuleListContract
pub mod RulesContract
pub mod SatisfyContract
pub mod ShowingContract
pub mod SlotsContract
pub mod Outcomes
pub mod PairsContract
pub mod TermsAtPlaces
pub mod TokenBytes
pub mod Tokens
pub mod VirtualTokens
pub mod WalkingContract

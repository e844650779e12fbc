-- Laws: associated types: the tokens seen, rules, the walk, its result.
--   VirtualTokenLaws  the tokens that normalising sees, word by word
--   ArenaLaws         trees in words
--   SourceLaws        trees whose children are as in the source are terms that the tokens hold
--   ScanLaws          a row scanned from its front
--   NthLaws           the i-th of the tokens in a row that pass a test
--   SlotLaws          the order of `map_children`, by cases
--   OpenLaws          the children of a content put into records, one after the other
--   MemberLaws        a member looked up by its place, and a projection's own member by cases
--   AlikeLaws         two rows read in step
--   RuleLaws          the search of a rule
--   InterfaceLaws     order 19
--   DepthLaws         a result has at most one level more than the levels that its visit was given
--   VisitLaws         the walk of the definition by cases
--   FixedLaws         a term with no projection comes through the walk of `normalize` as it was, at the cost of a visit
--                     for each of its nodes
--   SumLaws           sums over the children of a node
--   WalkLaws          a visit in the arena
--   ShowLaws          bytes sized or written, piece by piece
--   NormalLaws        the whole of normalising
--   RespectLaws       a walk keeps to a property of terms that children and rebuilt nodes inherit
--   NormalizeLaws     normalising by rows, which the code is proved to do, is `normalize` and `with_associated_types`
--                     where the terms are formed, and gives a formed term
pub mod VirtualTokenLaws
pub mod ArenaLaws
pub mod SourceLaws
pub mod ScanLaws
pub mod NthLaws
pub mod SlotLaws
pub mod OpenLaws
pub mod MemberLaws
pub mod AlikeLaws
pub mod RuleLaws
pub mod InterfaceLaws
pub mod DepthLaws
pub mod VisitLaws
pub mod FixedLaws
pub mod SumLaws
pub mod WalkLaws
pub mod ShowLaws
pub mod NormalLaws
pub mod RespectLaws
pub mod NormalizeLaws

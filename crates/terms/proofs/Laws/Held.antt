-- Laws: terms and rows in the areas; formed terms.
--   HeldLaws        terms and rows in the areas, taken apart token by token
--   SameLaws        equality of terms as a test
--   FlatLaws        a node is entered by putting its row before what is left
--   PairLaws        a walk over two rows
--   NominalLaws     the rows of nominals and projections
--   FormedLaws      formed terms
--   FormedListLaws  lists of formed terms, and that the uses of substitution keep terms formed
pub mod HeldLaws
pub mod SameLaws
pub mod FlatLaws
pub mod PairLaws
pub mod NominalLaws
pub mod FormedLaws
pub mod FormedListLaws

-- The vocabulary of the code's contracts: what the words of the areas hold, and what the functions need and leave. A
-- module NAMEContract has what the contracts of the module of the code of that name say, or of the modules that it
-- serves. No promise rests on these.
--   Bindings               bindings that the areas and a table hold
--   ChainEnds              the end of a chain as a value of the code
--   ChainRecord            what the table keeps of each chain
--   ChainWords             that record as words, changed in a pass
--   CongruenceClasses      classes of token places
--   ConstrainContract      one check of `constrain` on what is lent
--   Halves                 words as halves
--   Lent                   what lent bindings say
--   Masks                  bits of a mask
--   MethodContract         what the methods say of the counters and the table
--   OrderTerms             terms that follow the tokens of a session; what is resolved
--   PendingContract        pending pairs as words, places of children, rows in step
--   ReachContract          what a held term has with bound variables replaced
--   ResolveFrames          where such a walk stands, with its frames
--   ResolveWalk            a held term with bound variables replaced, on any words
--   SessionRepresentation  a session that the counters, the areas and a table hold
--   SessionsContract       a session alone in its areas
--   TableLayout            where things stand in the table
--   Worklist               marks, and a queue of what is marked
pub mod Bindings
pub mod ChainEnds
pub mod ChainRecord
pub mod ChainWords
pub mod CongruenceClasses
pub mod ConstrainContract
pub mod Halves
pub mod Lent
pub mod Masks
pub mod MethodContract
pub mod OrderTerms
pub mod PendingContract
pub mod ReachContract
pub mod ResolveFrames
pub mod ResolveWalk
pub mod SessionRepresentation
pub mod SessionsContract
pub mod TableLayout
pub mod Worklist

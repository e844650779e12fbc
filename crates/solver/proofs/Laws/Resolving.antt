-- Laws: a held term with bound variables replaced, on words.
--   OverLaws         laws of `over`
--   DefaultWordLaws  which words of bindings are defaults, and what a word holds
--   FrameLaws        laws of bound runs, of `walk`, and of the stack of runs that wait while a bound variable's run is
--                    walked
--   ResolvedLaws     what the tokens of a held term write, bound variables replaced, is the bytes of the resolved term
--   BindingLaws      bindings held
--   WorklistLaws     laws of marks and queue
--   AskLaws          what a run of tokens has, what a term has, and what a term has with variables replaced
--   ReachLaws        the worklist over variables, and what its answer says of a resolved term
--   TopLaws          what a term stands for, by its tokens
--   ChainEndLaws     the end of a chain: its word, and the variable or the builtin that it is, by its tokens
--   StartLaws        where resolving a variable begins
pub mod OverLaws
pub mod DefaultWordLaws
pub mod FrameLaws
pub mod ResolvedLaws
pub mod BindingLaws
pub mod WorklistLaws
pub mod AskLaws
pub mod ReachLaws
pub mod TopLaws
pub mod ChainEndLaws
pub mod StartLaws

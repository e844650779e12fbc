-- Laws: `constrain` on words: pending pairs, one check, the loop.
--   StrictSubterm      a term strictly inside another one, bound variables followed
--   TokenNesting       token runs nest: a place that begins a part belongs to one node
--   RotateLaws         turned lists; terms held at the places of a list
--   PairWordLaws       a pair in one word
--   PendingLaws        the pending pairs are few
--   StackLaws          the pending pairs as `constrain` carries them
--   RowsInStepLaws     two rows walked in step
--   PushLaws           children put on in pairs
--   CheckStepWords     what a check leaves, each way it can end
--   DefaultCheckLaws   a check where one of two tops is a builtin
--   CheckContractLaws  what `unify_variable`, `decompose` and `check_pair` ask of the words, and what their answers
--                      leave
--   PairLoopLaws       the loop of `constrain`: what it carries from check to check
--   PosedLaws          order 4 as a whole: the session after it
pub mod StrictSubterm
pub mod TokenNesting
pub mod RotateLaws
pub mod PairWordLaws
pub mod PendingLaws
pub mod StackLaws
pub mod RowsInStepLaws
pub mod PushLaws
pub mod CheckStepWords
pub mod DefaultCheckLaws
pub mod CheckContractLaws
pub mod PairLoopLaws
pub mod PosedLaws

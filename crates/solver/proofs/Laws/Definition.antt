-- Laws: the solver's definition: requests, the invariant, fuel, histories.
--   FamilyLaws           the terms that belong to a family, and to what a join admits
--   FormedTest           whether a term is formed, decided
--   NotionLaws           the two notions of equal shape
--   SolverInvariantLaws  a solver in order: its bindings, requests, revision, and the top of a term
--   InOrderLaws          every order keeps a solver in order
--   InvariantLaws        what follows of sessions in order; sessions within limits after every list; every pair is settled with enough checks
--   CheckStepLaws        what a check of `constrain` comes to; it leaves a solver in order
--   DefaultLaws          what a default leaves, and goes by
--   RecoveryLaws         no binding holds Unknown or Error
--   LaterLaws            what is bound and issued stays so
--   RequestLaws          requests of order 1: what they admit, how two meet, what a default takes
--   QuietLaws            a pair that makes no binding leaves the session as it was
--   ChainRecordLaws      the kept record of where chains end, and how it goes on
pub mod FamilyLaws
pub mod FormedTest
pub mod NotionLaws
pub mod SolverInvariantLaws
pub mod InOrderLaws
pub mod InvariantLaws
pub mod CheckStepLaws
pub mod DefaultLaws
pub mod RecoveryLaws
pub mod LaterLaws
pub mod RequestLaws
pub mod QuietLaws
pub mod ChainRecordLaws

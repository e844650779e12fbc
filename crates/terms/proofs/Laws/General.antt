-- Laws: flags, and a slice that is lent again.
--   Bools  flags
--   Again  a `&κ mut [T]` that is lent again for a lifetime κ' of a call, and comes back
pub mod Bools
pub mod Options
pub mod Again

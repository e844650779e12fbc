-- Laws: numbers in bytes: their steps, bounds and shortest form.
--   NumberStepLaws   one byte of a number
--   NumberBoundLaws  a number that was read is at most `most`, and ends after its first byte and within the bytes
--   Shortest         the shortest form
pub mod NumberStepLaws
pub mod NumberBoundLaws
pub mod Shortest

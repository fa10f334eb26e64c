pub mod DigitLemmas
pub mod BracketLemmas
pub mod PrintedTextLemmas
pub mod SignedLemmas
pub mod TaylorSumLemmas
mod UnitProductLemmas

pub mod WrittenLemmas
pub mod JoinedLemmas
pub mod LineLemmas
pub mod PartLemmas
pub mod HeadLemmas
mod UnitTextLemmas

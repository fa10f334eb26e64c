pub mod PlaceTruthLemmas
pub mod MarkLemmas

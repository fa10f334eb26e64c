pub mod PartLemmas
pub mod ReportOrderLemmas
pub mod ListingLemmas
pub mod MinimalPartLemmas
pub mod LiteralLemmas

pub mod TableRows
pub mod TableRules
pub mod FoundFaults

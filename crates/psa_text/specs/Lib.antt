pub mod NamedBytes
pub mod Steps
pub mod Tree
pub mod TextBytes
pub mod TextItems
pub mod TextTree
pub mod TreeSize
pub mod TextFaults
pub mod TextOutcome
pub mod scanner
mod Kept

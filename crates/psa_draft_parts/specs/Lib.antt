pub mod Starts
pub mod Sayings
pub mod Rows
pub mod Groups
pub mod Events

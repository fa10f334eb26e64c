pub mod Addresses
pub mod Paths

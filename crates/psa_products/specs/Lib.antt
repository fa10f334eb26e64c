pub mod Products
pub mod Members
pub mod Walks
pub mod Rules
pub mod Sums
pub mod PartialBounds

pub mod Sides
pub mod Operands

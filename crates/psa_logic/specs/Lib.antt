pub mod Sets
pub mod Products

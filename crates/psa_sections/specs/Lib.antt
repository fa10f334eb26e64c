pub mod ProductNodes
pub mod Writing
pub mod Reports

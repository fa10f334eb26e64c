pub mod Levels
pub mod Graphs

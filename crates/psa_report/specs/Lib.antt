pub mod Pieces
pub mod Joined
pub mod Head
pub mod Lines

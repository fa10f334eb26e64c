pub mod Choices
pub mod Joined
pub mod Callers

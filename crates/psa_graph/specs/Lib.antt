pub mod Truths
pub mod Needs

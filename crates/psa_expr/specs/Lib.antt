pub mod Combined
pub mod Answers
pub mod Terms
pub mod Small
pub mod Groups
pub mod Events

pub mod Documents
pub mod Files
pub mod Errors
pub mod TreeErrors
pub mod Loads
pub mod Samples

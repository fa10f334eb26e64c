pub mod Reading
pub mod Options
pub mod Given
pub mod Found
pub mod Answer
pub mod Refused
pub mod Scram

pub mod TakenForks
pub mod Walks
pub mod SequenceGroups
pub mod Answers
pub mod Marks

pub mod OneReading
pub mod TreeSizes
pub mod OneOutcome

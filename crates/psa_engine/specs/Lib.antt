pub mod Ends
pub mod TextEnds

pub mod Scaled
pub mod Units
pub mod Ends
pub mod Fraction
pub mod Exponential
pub mod Operations
pub mod DecimalText

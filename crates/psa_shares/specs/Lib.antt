pub mod Shares
pub mod Subjects
pub mod ShareText
pub mod SectionEnds
pub mod EventShares

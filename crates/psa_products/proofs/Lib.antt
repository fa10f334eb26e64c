pub mod MemberLemmas
pub mod PassLemmas
pub mod PathLemmas
pub mod StepLemmas
pub mod KeptLemmas
pub mod BoundLemmas

pub mod ProductNodeLemmas
pub mod SectionLemmas
pub mod TableLemmas
pub mod ReportLemmas
pub mod LoadedLemmas
pub mod TargetLemmas
pub mod SectionsLemmas

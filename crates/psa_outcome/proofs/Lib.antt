pub mod OutcomeLemmas
pub mod SettingsLemmas
pub mod OriginLemmas
pub mod Analysed
pub mod RowLemmas
pub mod RankedGroup
pub mod UnitySection

pub mod EndLemmas
pub mod LimitLemmas
pub mod CompletenessLemmas
pub mod SettingsLimits
pub mod FewTargets
pub mod EndRows

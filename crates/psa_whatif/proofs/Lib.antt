pub mod ChangedModels
pub mod ChangedPaths
pub mod ChangedLists
pub mod ChangedValues
pub mod ChangedPromise
pub mod ChangedTruth
pub mod EditLemmas
pub mod ScriptLemmas

pub mod ConnectiveLemmas
pub mod KeyLemmas
pub mod LevelLemmas
pub mod SidesLemmas
pub mod CombineSteps
pub mod BuildLemmas
pub mod CallerLemmas

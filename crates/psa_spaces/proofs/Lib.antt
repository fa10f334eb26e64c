pub mod ListLemmas
pub mod ContainerLemmas
pub mod PlaceLemmas

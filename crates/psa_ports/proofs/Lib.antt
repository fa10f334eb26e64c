pub mod RisenCountLemmas
pub mod WrittenPieceLemmas
pub mod FilePlaceLemmas
mod BlockLemmas

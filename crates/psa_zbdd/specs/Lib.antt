pub mod CutSets
pub mod FamilyProducts
pub mod GraphFamilies

pub mod DefinitionSayings
pub mod ShortNumbers
pub mod DocumentSayings
pub mod AroundSayings

mod ElementForms
pub mod Totals
mod ContentForms
pub mod Weights
mod RowWeights
pub mod ElementWeights
mod PlacesApart
mod Places
mod Containers
mod RowKinds
mod RowCounts
mod Fits
mod RowShapes
mod ElementShapes
mod DraftPromise

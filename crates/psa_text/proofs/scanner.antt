-- Lemmas of the scanner.
pub mod ByteFacts
pub mod StatesReached
pub mod StatesClose
pub mod ItemsRun
pub mod TreesNest
pub mod ReadingsStand
pub mod ValuesUtf8
pub mod ItemFaults
pub mod FirstFaults
pub mod RootsAtEnd
pub mod SpansInFront
pub mod SpansRead
pub mod TagsRead
pub mod PiecesRead

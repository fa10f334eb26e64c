pub mod ElementTable
pub mod ShapeFaults
pub mod DraftReading
pub mod ExampleTrees

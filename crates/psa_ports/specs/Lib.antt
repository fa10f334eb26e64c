pub mod Counts
pub mod Folder
pub mod Sink
pub mod MemoryFolder
pub mod MemorySink
pub mod Real
pub mod BlockSink

-- The scanner's own way through a text, and what the clauses of its calls say. What they mean is said by the grammar
-- of texts: TextBytes, TextItems, TextTree, TextFaults.
pub mod Machine
pub mod View
pub mod Nesting
pub mod Bounds
pub mod State
pub mod Spans

-- What private functions, the view and the invariant of rows, and what nodes own cite: how nodes are linked, and what lies in memory. No public clause cites it.
pub mod Blocks
pub mod Chain
pub mod Ownership
pub mod Seen
pub mod Straight

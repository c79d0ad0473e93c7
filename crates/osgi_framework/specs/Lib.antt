-- How entries of a hall are those of a framework, and when a framework's history is full.
pub mod Entries
pub mod Full
pub mod laws

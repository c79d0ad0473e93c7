-- How far a search over all words has come.
pub mod Seen

-- Lemmas on what a session writes.
pub mod Parts
pub mod TextMap

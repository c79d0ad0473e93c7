-- Lemmas on counts of uses.
pub mod Counts

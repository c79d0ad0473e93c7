-- Lemmas that several proofs share.
pub mod Moved
pub mod Written

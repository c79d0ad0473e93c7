-- Proofs of the search.
pub mod Midway
pub mod Zeros
pub mod Stands

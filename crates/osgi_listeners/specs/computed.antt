-- What private functions and proofs cite. No public promise cites these.
pub mod Kept
pub mod Kinds
pub mod Tournaments

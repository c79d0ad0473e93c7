-- What private functions and proofs cite. No public promise cites these.
pub mod Entries
pub mod Growing
pub mod Holding
pub mod Keys
pub mod Indexed

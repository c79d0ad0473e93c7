-- What private functions and proofs cite. No public promise cites these.
pub mod ClauseReader
pub mod Cutting
pub mod HeaderReader
pub mod NameReader

-- What private functions and proofs cite. No public promise cites these.
pub mod LongReader
pub mod MatchReader
pub mod ValueReader
pub mod VersionReader

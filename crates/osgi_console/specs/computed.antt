-- What private functions and proofs cite. No public promise cites these.
pub mod ArgumentReader
pub mod LineReader

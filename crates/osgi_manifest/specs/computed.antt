-- What private functions and proofs cite. No public promise cites these.
pub mod Answers
pub mod Lone
pub mod Readings
pub mod Revisions
pub mod Steps

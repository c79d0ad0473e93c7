-- What private functions and proofs cite. No public promise cites these.
pub mod Answers
pub mod Lone
pub mod Packages
pub mod Templates

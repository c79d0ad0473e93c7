-- What private functions and proofs cite. No public promise cites these.
pub mod Answers
pub mod AttributeReader
pub mod ExportReader
pub mod ImportReader

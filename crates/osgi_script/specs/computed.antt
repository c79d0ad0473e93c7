-- What private functions and proofs cite. No public promise cites these.
pub mod HeadReader
pub mod ScriptReader
pub mod StatementReader

-- What private functions and proofs cite. No public promise cites these.
pub mod Classes
pub mod FoundParts
pub mod RangeCut
pub mod RangeMachine
pub mod Reader
pub mod Run
pub mod VersionMachine

-- Laws of the definitions, for the proofs of other crates, with what they rest on. No promise cites them.
pub mod Capping
pub mod Classes
pub mod Cutting
pub mod Digits
pub mod Running
pub mod VersionAlive
pub mod VersionReader
pub mod VersionRuns
pub mod VersionSeen
pub mod VersionReading

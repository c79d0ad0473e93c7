-- Laws of the definitions, for the proofs of other crates, with what they rest on. No promise cites them.
pub mod Bounded
pub mod ItemReading
pub mod Levels
pub mod Orders
pub mod Reading
pub mod Scans
pub mod Steps
pub mod ValueReading

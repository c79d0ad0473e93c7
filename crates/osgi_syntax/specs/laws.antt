-- Laws of the definitions, for the proofs of other crates. No promise cites them.
pub mod Attributes
pub mod Ids
pub mod Lines
pub mod Names
pub mod Separating
pub mod Spaces
pub mod Splitting
pub mod Whole

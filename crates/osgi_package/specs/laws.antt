-- Laws of the definitions, for the proofs of this crate and of others. No promise cites them.
pub mod Ranges
pub mod Splits
pub mod Verdicts
pub mod Versions

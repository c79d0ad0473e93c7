-- Laws of the definitions, for the proofs of this crate and of others. No promise cites them.
pub mod Faultless
pub mod FirstFaults

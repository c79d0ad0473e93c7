-- Laws of the definitions here, for the proofs of other crates. No promise cites them.
pub mod Passes

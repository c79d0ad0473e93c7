-- Laws of the definitions here, for the proofs of other crates, with what they rest on. No promise cites them.
pub mod Refusals
pub mod Stages

-- Laws of the definitions, for the proofs of other crates. No promise cites them.
pub mod AllKnown

-- Laws of the definitions, for the proofs of other crates, with what they rest on. No promise cites them.
pub mod Changes
pub mod OneBundle
pub mod Standing
pub mod Worlds

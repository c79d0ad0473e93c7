-- Laws of the definitions, and of lists and sets, for the proofs of other crates. No promise cites them.
pub mod Adding
pub mod Members
pub mod Sets
pub mod Following
pub mod Noted

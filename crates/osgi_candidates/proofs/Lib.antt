-- Lemmas on candidates.
pub mod Naming
pub mod ByText
pub mod Following
pub mod Standing
pub mod Using
pub mod Tested
pub mod Sets
pub mod Preferring
pub mod Collected
pub mod Proposed
pub mod Answering
pub mod Attaching
pub mod Posed

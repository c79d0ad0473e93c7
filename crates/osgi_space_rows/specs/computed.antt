-- What the parts of `WorldRows`, and proofs, cite.
pub mod Groups
pub mod Digests
pub mod NumberGroups
pub mod NameGroups
pub mod Numbers
pub mod Payloads
pub mod Growing

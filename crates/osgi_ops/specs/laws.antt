-- Laws of the definitions, for the proofs of other crates, with what they rest on. No promise cites them.
pub mod Along
pub mod Brackets
pub mod Bundles
pub mod Dynamic
pub mod Items
pub mod Makes
pub mod Members
pub mod Resolved
pub mod Services
pub mod Those
pub mod Waiting
pub mod Worlds

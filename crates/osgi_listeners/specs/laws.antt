-- Laws of the definitions, for the proofs of other crates, with what they rest on. No promise cites them.
pub mod Busy
pub mod Conditions
pub mod Handing
pub mod Ids
pub mod Items
pub mod Premises
pub mod Room
pub mod Standing
pub mod Turns
pub mod Waiting

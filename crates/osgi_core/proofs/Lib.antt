-- Lemmas on the machine.
pub mod Applied
pub mod Hands
pub mod Keeping
pub mod Replaying
pub mod Room

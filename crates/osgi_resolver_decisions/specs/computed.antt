-- What the code computes of owners. Only private functions, those that are public for the crates above alone, and proofs cite these.
pub mod Asks
pub mod Free
pub mod Sureness
pub mod Plain
pub mod Same
pub mod Known

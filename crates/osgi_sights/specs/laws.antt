-- Facts of sights that the proofs of other crates use.
pub mod Standing

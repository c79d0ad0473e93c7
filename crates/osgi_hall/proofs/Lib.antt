-- Lemmas that the proofs of this crate share.
mod Tallies
mod CallSteps
mod PassSteps
mod Calling

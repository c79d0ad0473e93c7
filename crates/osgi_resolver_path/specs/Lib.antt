-- How far a search has come, as contracts see it; and what the code computes.
pub mod Standing
pub mod Last
pub mod Wires
pub mod computed

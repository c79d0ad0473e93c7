-- Lemmas on candidates that are out.
pub mod Doomed
pub mod Layers
pub mod Ruled

-- Lemmas on operations on services.
pub mod Deciding
pub mod Serving

-- Lemmas on worlds of which more becomes known.
pub mod Grown
pub mod Kept
pub mod First
pub mod Indexed

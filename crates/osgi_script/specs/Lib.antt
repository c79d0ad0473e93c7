-- The grammar of scripts, and what the reader computes.
pub mod computed
pub mod Scripts
pub mod Statements

-- The open brackets of each caller, as the history has them.
pub mod Kinds
pub mod Open
pub mod laws

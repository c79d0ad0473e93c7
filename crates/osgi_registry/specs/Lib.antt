-- The registry as contracts see it.
pub mod Rows
pub mod Stands
pub mod laws
pub mod computed

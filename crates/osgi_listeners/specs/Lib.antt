-- The live listeners as contracts see them.
pub mod Rows
pub mod Sights
pub mod Stands
pub mod laws
pub mod computed

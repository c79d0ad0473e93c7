-- The table of bundles as contracts see it.
pub mod Rows
pub mod Stands
pub mod Targets
pub mod laws
pub mod computed

-- The state of a search as contracts see it, and the first clash in it.
pub mod States
pub mod Clashes
pub mod computed

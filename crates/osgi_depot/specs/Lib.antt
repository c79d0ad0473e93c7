-- The definitions of the depot of a session.
pub mod Depots
pub mod computed

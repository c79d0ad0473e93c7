-- Rows, what is looked up in them, and the wirings whose rows they are.
pub mod Rows
pub mod Agree
pub mod AllKnown
pub mod Steps
pub mod Names
pub mod Worlds
pub mod computed
pub mod laws

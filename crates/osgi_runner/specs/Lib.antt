-- What calls add, and how far a runner came with a command.
pub mod Calls
pub mod Passes
pub mod computed
pub mod laws

-- What is asked for in a history.
pub mod Asking

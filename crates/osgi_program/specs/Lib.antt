-- The definitions of how lines run and of the top call.
pub mod Outcome
pub mod Words
pub mod computed

-- What the contracts of this crate cite.
pub mod Histories
pub mod Passes
pub mod Calls
pub mod computed

-- What rows of items hold.
pub mod Held
pub mod computed

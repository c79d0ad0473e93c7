-- What functions of this crate compute on the way to what their contracts promise.
pub mod Numbered

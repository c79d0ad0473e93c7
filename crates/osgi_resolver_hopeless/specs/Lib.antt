-- What the test for hopeless words computes.
pub mod computed

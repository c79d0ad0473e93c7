-- What operations on bundles and their wirings find.
pub mod computed

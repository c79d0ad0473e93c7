-- Sources of packages and what `uses` implies, by rows: what the code computes.
pub mod computed
pub mod laws

-- The candidates that a search leaves out.
pub mod computed

-- Loading and assignability: what the code computes. What is promised is defined in `osgi_ops`.
pub mod computed

-- How names are compared, and what the code computes of texts and of attributes.
pub mod Names
pub mod laws
pub mod computed

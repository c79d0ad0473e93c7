-- The grammar of the console's lines, and what the reader computes.
pub mod Console
pub mod computed

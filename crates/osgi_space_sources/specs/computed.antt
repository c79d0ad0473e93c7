-- What the code computes of sources and of implied constraints, over rows.
pub mod Reach
pub mod RowSources
pub mod Marks
pub mod Disputes
pub mod Clashes
pub mod Amongst
pub mod Pairs
pub mod Givens
pub mod Adds
pub mod Exact
pub mod Collected
pub mod Leads
pub mod Traces

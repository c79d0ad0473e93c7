-- The grammar of headers and their values, and what the readers compute.
pub mod ClauseFaults
pub mod Clauses
pub mod Headers
pub mod Lines
pub mod NameLists
pub mod ReadClauses
pub mod Spaces
pub mod computed
pub mod laws

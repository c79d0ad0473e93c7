-- What the clauses of a manifest's headers mean, and which of them is at fault.
pub mod ClauseFaults
pub mod computed
pub mod Directives
pub mod Faults
pub mod laws
pub mod Lone
pub mod Members
pub mod Walks

-- Class spaces: violated uses clauses, the order of constraints, what a revision sees, rows that are kept; and what the code computes.
pub mod Violations
pub mod ImpliedOrder
pub mod Seen
pub mod Kept
pub mod computed
pub mod laws

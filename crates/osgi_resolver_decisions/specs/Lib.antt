-- Decisions, and what is found out of owners of requirements, as contracts see them.
pub mod DecisionOf
pub mod Sure
pub mod computed

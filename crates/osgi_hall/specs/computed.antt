-- What private functions, invariants, and the view of a pass cite: the rule of a hall's table, and what its steps show. No public clause cites it.
pub mod Lists
pub mod Stages
pub mod Kept
pub mod Steps
pub mod Seats
pub mod Shown

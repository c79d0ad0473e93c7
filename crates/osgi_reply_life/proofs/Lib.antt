-- Lemmas on starts and stops.
pub mod Conditions
pub mod Ends
pub mod Idle
pub mod Rows
pub mod Starts
pub mod Stops

-- How far a runner came with a command, and how its steps end. No public promise cites these.
pub mod Ends
pub mod Seats
pub mod Stacks
pub mod States
pub mod Weights

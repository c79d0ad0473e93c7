-- Steps, what is left after them, and the calls of a command.
pub mod Bound
pub mod Called
pub mod Draining
pub mod Following
pub mod Loops
pub mod Unfinished

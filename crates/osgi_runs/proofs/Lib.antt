-- Facts of runs and of sessions.
pub mod Balanced
pub mod Calm
pub mod Closing
pub mod Courses
pub mod Due
pub mod Ended
pub mod Full
pub mod Handed
pub mod Plain
pub mod Plans
pub mod Runs
pub mod Sessions
pub mod Settled
pub mod Taking
pub mod Wholes
pub mod Words

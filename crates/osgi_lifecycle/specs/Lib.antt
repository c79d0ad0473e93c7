-- What the code's plans are as trees, and what they are asked and answer.
pub mod Draining
pub mod Following
pub mod Pendings

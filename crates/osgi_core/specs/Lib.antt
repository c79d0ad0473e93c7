-- The machine as contracts see it, and what is true of its fields.
pub mod Machine
pub mod Ruled
pub mod Sound
pub mod computed

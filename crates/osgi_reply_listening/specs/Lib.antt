-- What hands and their ends are answered.
pub mod Hands

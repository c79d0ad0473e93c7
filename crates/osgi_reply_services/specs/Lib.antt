-- What an operation on services does to the registry, and answers.
pub mod Changes
pub mod Served

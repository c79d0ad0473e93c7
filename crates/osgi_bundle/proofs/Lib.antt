-- Lemmas on the table of bundles and on the depot's index.
pub mod Begins
pub mod Finding
pub mod Highest
pub mod Indices
pub mod Made
pub mod Names
pub mod Naming
pub mod Numbers
pub mod Ordered
pub mod States

-- Lemmas on bundles, their resolving and their wires.
pub mod Brought
pub mod Newly
pub mod Rows
pub mod Searching
pub mod Targets
pub mod WiresShown

-- Lemmas on loops over lists, and on the rules of wirings.
pub mod Grow
pub mod Exact
pub mod Sets
pub mod OneValue
pub mod Providers
pub mod Items
pub mod Rivals
pub mod Offered
pub mod Distinct
pub mod Found
pub mod WireKeys
pub mod Coherent

-- Lemmas on what rows say of wirings, on what is found by name, and on what is kept.
pub mod Bridge
mod ImpliedNames
mod Firsts
mod Rising
mod FirstClash
mod Before
mod Coherent
pub mod Numbering
pub mod Ids
mod SeenPackages
mod Resumed
mod Followed

-- Lemmas on the tables, and on what operations decide by them.
pub mod Asking
mod Called
pub mod DepotRows
pub mod Happening
pub mod Heard
pub mod Hearing
pub mod Living
pub mod Premises
mod Roomier
pub mod Shown
mod Telling
pub mod Replying
pub mod Setting
pub mod Wired

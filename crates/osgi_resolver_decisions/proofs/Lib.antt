-- Lemmas on what is found out of owners.
mod Asking
pub mod Owners
mod Lacking
mod Alike

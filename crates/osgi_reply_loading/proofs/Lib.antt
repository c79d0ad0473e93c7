-- Lemmas on what is found, and on what is loaded.
pub mod ClassesLoaded
pub mod ServicesFound

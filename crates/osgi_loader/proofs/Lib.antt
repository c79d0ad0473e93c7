-- Lemmas on what is found along wires.
mod Hosts
mod Names
mod Reached
mod Shared
mod Wired

-- Lemmas on the steps of reading a manifest.
pub mod Identities
pub mod Folders
pub mod InHeaders
pub mod Revisions
pub mod Stages
pub mod Single
pub mod ValueFaults

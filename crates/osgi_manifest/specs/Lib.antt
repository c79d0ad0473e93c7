-- What a bundle's folder means, by its manifest, and what is wrong with one that means nothing.
pub mod computed
pub mod Manifests
pub mod ValueFaults
pub mod Values

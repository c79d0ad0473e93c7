-- What the scans compute.
pub mod computed

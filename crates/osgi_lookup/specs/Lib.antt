-- The index of the known revisions.
pub mod computed

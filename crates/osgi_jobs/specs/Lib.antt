-- The jobs that are queued, as the history has them.
pub mod Queue
pub mod computed
pub mod laws

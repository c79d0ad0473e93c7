-- The rules that wirings keep, and what is computed of them.
pub mod Rules
pub mod computed

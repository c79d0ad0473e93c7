-- When a capability has a text that is asked for, and whether it satisfies a requirement, as it is computed.
pub mod HavingText
pub mod computed

-- Which listeners see what happens at an entry, as which event.
pub mod Shown
pub mod Sights
pub mod computed
pub mod laws

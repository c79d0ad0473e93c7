-- The definitions of plans, of the runs that follow them, of sessions, and of what their lines write.
pub mod Beginnings
pub mod Lines
pub mod Plans
pub mod RefusalTexts
pub mod Rendering
pub mod Runs
pub mod Scripts
pub mod Sessions
pub mod Steps
pub mod laws

-- What private functions and proofs cite. No public promise cites these.
pub mod Steps
pub mod Courses
pub mod Valued
pub mod Placed
pub mod Attached
pub mod Openings
pub mod Afters
pub mod Nexts
pub mod Moving
pub mod Views
pub mod Lasts
pub mod Links

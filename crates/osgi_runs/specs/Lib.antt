-- What runners come to, what legal histories say of one command's calls, lines that run one after another, and what listeners were handed, turn by turn and in the end.
pub mod Bound
pub mod Courses
pub mod Handed
pub mod Plain
pub mod Turns

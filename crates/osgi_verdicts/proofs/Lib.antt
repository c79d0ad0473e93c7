-- Each operation has one reply at each moment of a legal history, so what is asked for determines the history.
pub mod Bundles
pub mod Chosen
pub mod Conditions
pub mod Events
pub mod Histories
pub mod Levels
pub mod Life
pub mod Lists
pub mod Loading
pub mod Providers
pub mod Refreshes
pub mod Replies
pub mod Services

-- The bounds put together: an operation ends.
pub mod StandsAt
pub mod Steps
pub mod Actors
pub mod Lists
pub mod Alone
pub mod Bounds
pub mod Closes

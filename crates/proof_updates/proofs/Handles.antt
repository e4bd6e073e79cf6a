-- The same as seen from handles: what each step does to the content that a handle shows.
pub mod Finding
pub mod Values
pub mod Ways
pub mod Updated
pub mod Showing
pub mod Reaching
pub mod Roots
pub mod Committing
pub mod Kept
pub mod Updating
pub mod Swapping
pub mod OfRuns
pub mod OfLists

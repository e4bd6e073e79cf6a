-- What the lines of running operations know of nodes that they have read and made, and who commits what.
pub mod Given
pub mod Climbing
pub mod Knowing
pub mod Commits

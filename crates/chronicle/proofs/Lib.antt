-- What is kept of what steps tell, when more is told.
pub mod Slots
pub mod ClosingSteps
pub mod CommitSteps
pub mod Publishing
pub mod Marks
pub mod Changers

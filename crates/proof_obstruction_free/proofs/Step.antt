-- What one step of an operation alone leaves.
pub mod Within
pub mod Next
pub mod Keeps
pub mod Finds
pub mod Step

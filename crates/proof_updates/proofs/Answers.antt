-- What a line says of the reply that it leads to, and so of each answer.
pub mod Given
pub mod Key
pub mod ReaderRoots
pub mod WalkSteps
pub mod Walk
pub mod Each
pub mod Replies

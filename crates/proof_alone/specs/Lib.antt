pub mod Beneath
pub mod Vocabulary
pub mod Calls
pub mod Sweeps

pub mod Beneath
pub mod Vocabulary
pub mod Copies
pub mod Growing
pub mod Tasks
pub mod Telling
pub mod Walks

pub mod Beneath
pub mod Vocabulary
pub mod Cleaning
pub mod Climbing
pub mod Renewing

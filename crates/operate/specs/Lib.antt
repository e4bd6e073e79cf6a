pub mod Apart
pub mod Beneath
pub mod Vocabulary
pub mod Places
pub mod Reach
pub mod Steps
pub mod Telling

pub mod Beneath
pub mod Vocabulary
pub mod Carried
pub mod Places
pub mod Steps
pub mod Taking

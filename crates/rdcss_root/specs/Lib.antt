pub mod Beneath
pub mod Vocabulary
pub mod Acts
pub mod Holding
pub mod Tables
pub mod Programs

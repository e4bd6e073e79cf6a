pub mod Beneath
pub mod Vocabulary
pub mod Records
pub mod Taking

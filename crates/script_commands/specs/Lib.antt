pub mod Beneath
pub mod Vocabulary
pub mod Legality
pub mod Denials
pub mod Recorded
pub mod Reports
pub mod Endings
pub mod Scripts

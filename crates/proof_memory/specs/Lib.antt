pub mod Beneath
pub mod Vocabulary
pub mod Wants
pub mod Laws
pub mod Sweeping
pub mod Levels
pub mod Making
pub mod Holding

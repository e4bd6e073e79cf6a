pub mod Beneath
pub mod Vocabulary
pub mod Paths
pub mod Updates
pub mod Laws
pub mod Touching
pub mod Commits

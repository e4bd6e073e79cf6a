pub mod Beneath
pub mod Vocabulary
pub mod Nodes
pub mod Growth

pub mod Beneath
pub mod Vocabulary
pub mod Laws
pub mod Grace

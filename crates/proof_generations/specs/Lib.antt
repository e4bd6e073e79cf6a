pub mod Beneath
pub mod Vocabulary
pub mod Standing
pub mod Laws
pub mod Falling
pub mod Running

pub mod Beneath
pub mod Vocabulary
pub mod Lines
pub mod Sites
pub mod Shaped
pub mod Laws
pub mod Agreeing

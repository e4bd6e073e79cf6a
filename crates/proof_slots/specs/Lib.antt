pub mod Beneath
pub mod Vocabulary
pub mod Padding
pub mod Laws
pub mod Unswept
pub mod Slots
pub mod Lasting

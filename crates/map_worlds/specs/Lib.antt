pub mod Beneath
pub mod Worlds
pub mod Laws

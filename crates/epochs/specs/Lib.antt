pub mod Beneath
pub mod Limbo
pub mod Sweeping
pub mod Rings
pub mod Memories
pub mod Settling
pub mod Laws

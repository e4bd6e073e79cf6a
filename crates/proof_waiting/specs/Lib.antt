pub mod Beneath
pub mod Laws
pub mod Waiting

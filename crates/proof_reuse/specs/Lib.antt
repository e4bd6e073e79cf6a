pub mod Beneath
pub mod Laws

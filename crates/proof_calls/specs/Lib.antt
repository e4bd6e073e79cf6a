pub mod Beneath
pub mod Laws
pub mod Standing

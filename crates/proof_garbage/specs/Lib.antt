pub mod Beneath
pub mod Live
pub mod Laws
pub mod Grace

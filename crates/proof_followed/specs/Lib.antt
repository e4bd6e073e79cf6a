pub mod Beneath
pub mod Followed
pub mod Laws
pub mod Grace

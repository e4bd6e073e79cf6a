pub mod Beneath
pub mod Asked

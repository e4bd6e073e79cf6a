pub mod Beneath
pub mod Levels
pub mod Builders
pub mod Contents

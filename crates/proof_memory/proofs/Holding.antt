-- What a machine holds.
pub mod Lives
pub mod Privates
pub mod Sizes

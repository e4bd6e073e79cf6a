pub mod Contents
pub mod Depths
pub mod Indices
pub mod Partings
pub mod Parts

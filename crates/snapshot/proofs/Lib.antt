pub mod Drawing
pub mod Makings
pub mod Nexts
pub mod Offering
pub mod Sorting
pub mod Stacks
pub mod Told
pub mod Undrawn

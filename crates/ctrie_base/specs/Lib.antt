pub mod Refusals
pub mod Kinds
pub mod Hashes
pub mod Paths
pub mod Ticks
pub mod Sorting

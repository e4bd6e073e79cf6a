pub mod Beneath
pub mod Acted
pub mod Kept
pub mod Reads
pub mod Swaps

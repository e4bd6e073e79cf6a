-- The pairs that a handle reaches are those of its content.
pub mod Lists
pub mod Spreads
pub mod Shown
pub mod Heap
pub mod Walks

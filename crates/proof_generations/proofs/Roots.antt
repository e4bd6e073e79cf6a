-- Which generations stand at roots: a writable handle's is open and its own, a read-only one's closed.
pub mod OfLists
pub mod Kept
pub mod Own
pub mod Along
pub mod Rooted
pub mod Open

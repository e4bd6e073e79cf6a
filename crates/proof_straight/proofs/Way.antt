-- How a call on one key begins, reads its root, goes down, and finds its key or misses it.
pub mod Rooted
pub mod Descent
pub mod Seeking
pub mod Unchanged
pub mod Ways

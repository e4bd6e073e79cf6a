-- The laws as statements: over the trie of a run (Tries), and of handles (Handles).
pub mod Tries
pub mod Handles

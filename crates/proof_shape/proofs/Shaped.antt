-- The shape of the trie, from sites and full branches.
pub mod Places
pub mod Changed
pub mod Repaired
pub mod Trie
pub mod KeysOnce
pub mod OfLists
pub mod Roots
pub mod Agreeing
pub mod Looking

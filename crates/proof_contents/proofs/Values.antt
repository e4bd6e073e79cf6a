-- How the value of a key is found in the trie of a run, that paths last, and what contents are.
pub mod Maps
pub mod Found
pub mod Paths
pub mod Contents
pub mod Crowds
pub mod Listed
pub mod Runs
pub mod Parting
pub mod Started

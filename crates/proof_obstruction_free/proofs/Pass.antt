-- A pass of KEY down the trie, level by level.
pub mod Key
pub mod Sees
pub mod Chains
pub mod Lines
pub mod Renewed
pub mod Down
pub mod End
pub mod Along
pub mod FreshTombs
pub mod FreshEnds
pub mod Fresh
pub mod Stale
pub mod StaleKinds

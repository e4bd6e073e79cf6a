-- What lies below this crate, named through the nearest crates alone: crates.txt lists only these, since the toolchain goes along each of its paths.
pub use Rattle.trie_parts as trie_parts
pub use Rattle.trie_parts.specs.Beneath.gcas as gcas
pub use Rattle.trie_parts.specs.Beneath.machine_model as machine_model
pub use Rattle.trie_parts.specs.Beneath.history as history
pub use Rattle.trie_parts.specs.Beneath.slot_arena as slot_arena
pub use Rattle.trie_parts.specs.Beneath.ctrie_base as ctrie_base
pub use Rattle.trie_parts.specs.Beneath.epochs as epochs

-- What lies below this crate, named through the nearest crates alone: crates.txt lists only these, since the toolchain goes along each of its paths.
pub use Rattle.key_change as key_change
pub use Rattle.key_change.specs.Beneath.gcas as gcas
pub use Rattle.key_change.specs.Beneath.machine_model as machine_model
pub use Rattle.key_change.specs.Beneath.ctrie_base as ctrie_base
pub use Rattle.key_change.specs.Beneath.slot_arena as slot_arena
pub use Rattle.key_change.specs.Beneath.nodes as nodes
pub use Rattle.key_change.specs.Beneath.history as history
pub use Rattle.key_change.specs.Beneath.trie_parts as trie_parts

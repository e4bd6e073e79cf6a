-- What lies below this crate, named through the nearest crates alone: crates.txt lists only these, since the toolchain goes along each of its paths.
pub use Rattle.root_asking.specs.Beneath.rdcss_root as rdcss_root
pub use Rattle.root_asking.specs.Beneath.gcas as gcas
pub use Rattle.root_asking.specs.Beneath.machine_model as machine_model
pub use Rattle.root_asking as root_asking
pub use Rattle.root_asking.specs.Beneath.trie_parts as trie_parts
pub use Rattle.root_asking.specs.Beneath.slot_arena as slot_arena
pub use Rattle.root_asking.specs.Beneath.epochs as epochs
pub use Rattle.history as history

-- What lies below this crate, named through the nearest crates alone: crates.txt lists only these, since the toolchain goes along each of its paths.
pub use Rattle.operate as operate
pub use Rattle.snapshot as snapshot
pub use Rattle.snapshot.specs.Beneath.root_asking as root_asking
pub use Rattle.snapshot.specs.Beneath.trie_parts as trie_parts
pub use Rattle.snapshot.specs.Beneath.rdcss_root as rdcss_root
pub use Rattle.snapshot.specs.Beneath.gcas as gcas
pub use Rattle.snapshot.specs.Beneath.machine_model as machine_model
pub use Rattle.operate.specs.Beneath.key_finding as key_finding
pub use Rattle.operate.specs.Beneath.slot_arena as slot_arena
pub use Rattle.operate.specs.Beneath.epochs as epochs
pub use Rattle.snapshot.specs.Beneath.history as history

-- What lies below this crate, named through the nearest crates alone: crates.txt lists only these, since the toolchain goes along each of its paths.
pub use Rattle.ctrie_map as ctrie_map
pub use Rattle.sharded_gate as sharded_gate
pub use Rattle.gate as gate
pub use Rattle.ctrie_map.specs.Beneath.machine_core as machine_core
pub use Rattle.ctrie_map.specs.Beneath.proof_core as proof_core
pub use Rattle.ctrie_map.specs.Beneath.proof_obstruction_free as proof_obstruction_free
pub use Rattle.ctrie_map.specs.Beneath.proof_memory as proof_memory
pub use Rattle.ctrie_map.specs.Beneath.proof_contents as proof_contents
pub use Rattle.ctrie_map.specs.Beneath.slot_arena as slot_arena
